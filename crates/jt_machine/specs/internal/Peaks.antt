-- The greatest size and nesting of the values that a run pushes. Only private clauses cite this
-- module.
use Rattle.std.specs.Prelude.{ℕ, ◌≤◌, max, Bool, true, false, List, Option, Some, None, zero, suc, slice_get}
use Rattle.std.specs.Prelude.{if◌then◌else◌}
use Rattle.jt_value.specs.Tree as tree
use Rattle.jt_value.specs.Tree.{Tree}
use Rattle.jt_image.specs.declared.instruction.Instruction.{Instruction}
use Rattle.jt_image.specs.declared.instruction.Instruction.TheVariants as op
use Rattle.jt_image.specs.Code.{Code, Section}
use Rattle.jt_image.specs.Step.{fetch, greatest}
use Rattle.jt_machine.specs.declared.metered_run.Used.{Used}
use Rattle.jt_machine.specs.declared.peaks.Peak.{Peak}
use Rattle.jt_machine.specs.declared.state.State.{State}
use Rattle.jt_machine.specs.Metering.{used_within}
use Rattle.jt_machine.specs.View.{config_view}
use Rattle.jt_machine.specs.internal.FastPath.{HasRunFast}

abbrev pub no_peak : Peak
no_peak = record { size = 0; nesting = 0 }

-- The peak of some values and of these.
abbrev pub risen : Peak → List Tree → Peak
risen p ts =
    record { size = max p.size (greatest tree.size ts); nesting = max p.nesting (greatest tree.nesting ts) }

-- A use with the peak of earlier values.
abbrev pub with_peak : Peak → Used → Used
with_peak p u = record u { size = max p.size u.size; nesting = max p.nesting u.nesting }

-- The peak of a use.
abbrev pub peak_of : Used → Peak
peak_of u = record { size = u.size; nesting = u.nesting }

-- Some steps lead from state `s` to state `t`, and no value that they push exceeds the peak. The
-- limits stay the same.
pub record HasRunBelow (k : Code) (most left : ℕ) (p : Peak) (s t : State) : Type 0 where
  pub gone : HasRunFast k most left s t
  pub size : (used_within k gone.steps (config_view s)).size ≤ p.size
  pub nesting : (used_within k gone.steps (config_view s)).nesting ≤ p.nesting

-- Whether a unit of this kind has a result.
abbrev pub has_result : ℕ → Bool
has_result zero = false
has_result (suc kind) = true

-- The number of values that an instruction pushes. A return pushes one if the unit has a result.
abbrev pub pushed_of : Bool → Instruction → ℕ
pushed_of gives (op.Const n) = 1
pushed_of gives (op.Load n) = 1
pushed_of gives (op.GLoad n) = 1
pushed_of gives op.Dup = 1
pushed_of gives (op.Op a) = 1
pushed_of gives (op.Filter a n flag) = 1
pushed_of gives (op.Test a n) = 1
pushed_of gives (op.MakeList n) = 1
pushed_of gives (op.MakeMap n) = 1
pushed_of gives (op.LoopGet a n) = 1
pushed_of gives op.LoopEnd = 1
pushed_of gives (op.CaptureEnd a) = 1
pushed_of gives (op.Unpack n) = n
pushed_of gives op.Return = if gives then 1 else 0
pushed_of gives i = 0

abbrev pub pushed_at : Option (Section × Instruction) → ℕ
pushed_at None = 0
pushed_at (Some (unit, instruction)) = pushed_of (has_result unit.kind) instruction

-- The number of values that the instruction at a point pushes.
abbrev pub pushed_there : Code → ℕ → ℕ → ℕ
pushed_there k n p = pushed_at (fetch k n p)

abbrev pub result_in : Option Section → Bool
result_in None = false
result_in (Some unit) = has_result unit.kind

-- Whether the unit at an index has a result.
abbrev pub has_result_at : Code → ℕ → Bool
has_result_at k n = result_in (slice_get k.units n)
