-- The programs that are refused: the code does not fit into an image, or a routine needs too many
-- entries.
use Rattle.std.specs.Prelude.{◌≡◌, ℕ, ◌<◌, Some, slice_get}
use Rattle.jt_image.specs.Typed.{max_entries}
use Rattle.jt_ir.specs.Slots.{Routine, Program}
use Rattle.jt_ir.specs.Size.{body_height}
use Rattle.jt_lower.specs.Lower.{compiled}
use Rattle.jt_codegen.specs.Units.{FitsImage}

-- The code of the program does not fit into an image.
abbrev pub IsTooLong : Program → Type 0
IsTooLong program = ¬ (FitsImage (compiled program))

-- A routine needs more entries than a shape may have.
pub record NeedsTooMany (program : Program) : Type 0 where
  pub n : ℕ
  pub routine : Routine ℕ
  pub is : slice_get program.routines n ≡ Some routine
  pub many : max_entries < body_height routine.body
