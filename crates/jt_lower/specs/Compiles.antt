-- Correctness of the code of programs.
use Rattle.std.specs.Prelude.{◌≡◌, ℕ, ◌<◌, ◌≤◌, ◌^◌, List, ◌++◌, Option, length, map}
use Rattle.std.specs.List.{AllByRecursion}
use Rattle.jt_value.specs.Tree.{Tree}
use Rattle.jt_value.specs.Pairs.{Pairs}
use Rattle.jt_value.specs.declared.fault.Fault.{Fault}
use Rattle.jt_image.specs.IsCode.{IsCode, IsInstruction, total_len}
use Rattle.jt_image.specs.Parts.{KeepsLimits}
use Rattle.jt_image.specs.Typed.{max_entries, IsTyped}
use Rattle.jt_image.specs.Config as config
use Rattle.jt_image.specs.Config.{Budget}
use Rattle.jt_image.specs.Run.{Run}
use Rattle.jt_image.specs.Enough.{Enough}
use Rattle.jt_value.specs.Place.{Place}
use Rattle.jt_eval.specs.Eval.{gives, fails}
use Rattle.jt_ast.specs.Expressions.{Text}
use Rattle.jt_eval.specs.TheFilters.{the_filters}
use Rattle.jt_ir.specs.Slots.{Routine, Program, smean_of, smean}
use Rattle.jt_ir.specs.Pool.{Constant, constant_in, routines_values, placed_routines}
use Rattle.jt_eval.specs.Loops.{tree_at}
use Rattle.jt_lower.specs.Asm.{Asm, flat, places}
use Rattle.jt_lower.specs.Lower.{unit_of, compiled}
use Rattle.jt_lower.specs.Fits.{ProgramFits}
use Rattle.jt_lower.specs.Lawful.{program_with, AreLawful, AreLow}
use Rattle.jt_ir.specs.Size.{body_height, routines_size}

-- The code of a program agrees with the program's meaning. A text in which a run ends, or a fault
-- with its place, is the meaning with calls of some depth. For each such meaning, some budget is
-- enough.
pub record DoesProgram (program : Program) : Type 0 where
  pub texts : (context : Pairs) (budget : Budget) (text : Text)
      → Run (compiled program) context budget (config.text text)
      → (depth : ℕ) × (smean the_filters program context depth ≡ gives text)
  pub faults : (context : Pairs) (budget : Budget) (fault : Fault) (place : Option Place)
      → Run (compiled program) context budget (config.fault fault place)
      → (depth : ℕ) × (smean the_filters program context depth ≡ fails fault place)
  pub enough_text : (context : Pairs) (depth : ℕ) (text : Text) → smean the_filters program context depth ≡ gives text
      → Enough (compiled program) context (config.text text)
  pub enough_fault : (context : Pairs) (depth : ℕ) (fault : Fault) (place : Option Place)
      → smean the_filters program context depth ≡ fails fault place
      → Enough (compiled program) context (config.fault fault place)

-- Programs of lawful routines fit. The code of each program that fits is typed; if it has a
-- spelling, it agrees with the program's meaning. Each instruction has one place, and their number
-- is the program's size.
pub record LowLaws : Type 0 where
  pub fits : (names : List Text) (globals : ℕ) (front : List Tree) (routines : List (Routine Constant))
      → AreLawful names globals front routines → AreLow routines
      → ProgramFits (program_with names globals front routines)
  -- Constants with indices into the pool have their old meaning.
  pub pooled : (front : List Tree) (routines : List (Routine Constant)) (values : List Tree) (n : ℕ)
      → smean_of the_filters (constant_in (front ++ routines_values routines)) routines values n
      ≡ smean_of the_filters (tree_at (front ++ routines_values routines))
      (placed_routines routines (length front)) values n
  pub typed : (program : Program) → ProgramFits program → IsTyped (compiled program)
  pub right : (program : Program) → ProgramFits program → IsCode (compiled program) → DoesProgram program
  pub one_place : (a : Asm) (n : ℕ) → length (places a) ≡ length (flat a n)
  pub sized : (program : Program) → total_len (compiled program).units ≡ routines_size program.routines
  -- Routines are low (`AreLow`) if each body, with indices into the pool for its constants, needs at
  -- most `max_entries` entries.
  pub low : (routines : List (Routine Constant)) (n : ℕ)
      → AllByRecursion (λ r. body_height r.body ≤ max_entries) (placed_routines routines n) → AreLow routines
  -- If the limits of images are kept, the operands of each instruction fit their fields, before
  -- constants get indices into the table and after. The pool may be larger than the table.
  pub emitted : (program : Program) → ProgramFits program → program.globals < 2 ^ 16 → length program.pool ≤ 2 ^ 32
      → KeepsLimits (compiled program)
      → AllByRecursion (λ u. AllByRecursion IsInstruction u.code) (map unit_of program.routines)
  pub written : (program : Program) → ProgramFits program → program.globals < 2 ^ 16 → length program.pool ≤ 2 ^ 32
      → KeepsLimits (compiled program)
      → AllByRecursion (λ u. AllByRecursion IsInstruction u.code) (compiled program).units
  pub same_size : (routines : List (Routine Constant)) (n : ℕ)
      → routines_size (placed_routines routines n) ≡ routines_size routines
