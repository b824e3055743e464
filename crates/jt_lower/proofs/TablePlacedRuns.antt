-- Runs without a budget with places from a table; the places of the image are not read.
use Rattle.std.specs.Prelude.{ℕ, zero, suc, List, map, Option, Some, None, slice_get}
use Rattle.std.specs.Option.{option_and_then}
use Rattle.jt_image.specs.declared.instruction.Instruction.{Instruction}
use Rattle.jt_image.specs.Code.{Section, Code}
use Rattle.jt_image.specs.Config.{MachineState}
use Rattle.jt_image.specs.Step.{action, fetch}
use Rattle.jt_image.specs.FreeRun.{Free, Stuck, Going, on_action}
use Rattle.jt_value.specs.Place.{Place}
use Rattle.jt_ir.specs.Slots.{Program}
use Rattle.jt_lower.specs.Lower.{routine_places}

-- The place of each instruction, by its unit and point.
abbrev pub Table : Type 0
Table = ℕ → ℕ → Option Place

abbrev pub placed_at : Code → Table → Option (Section × Instruction) → MachineState → (MachineState → Free) → Free
placed_at k places None m go = Stuck
placed_at k places (Some (u, i)) m go = on_action (places m.unit m.point) (action k u i m) go

-- The run of at most `n` instructions.
abbrev pub placed_exec : Code → Table → ℕ → MachineState → Free
placed_exec k places zero m = Going
placed_exec k places (suc n) m = placed_at k places (fetch k m.unit m.point) m (placed_exec k places n)

abbrev pub place_in : Option (List (Option Place)) → ℕ → Option Place
place_in None n = None
place_in (Some qs) n = option_and_then (λ q. q) (slice_get qs n)

-- The table of a program's code.
abbrev pub table_of : Program → Table
table_of p u n = place_in (slice_get (map routine_places p.routines) u) n
