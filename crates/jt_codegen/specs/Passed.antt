-- The limits of an image that a refusal names.
use Rattle.std.specs.Prelude.{◌≡◌, ℕ, ◌<◌, List, length, slice_get, Some}
use Rattle.jt_image.specs.IsCode.{total_len, max_count, max_locals, max_instructions, max_bytes}
use Rattle.jt_image.specs.Spelling.{spelling}
use Rattle.jt_image.specs.Typed.{max_entries}
use Rattle.jt_ir.specs.Slots.{Program}
use Rattle.jt_lower.specs.Lower.{compiled}
use Rattle.jt_codegen.specs.Limits.{NeedsTooMany}
use Rattle.jt_codegen.specs.Units.{max_parameters}
use Rattle.jt_codegen.specs.declared.emission.EmitError.{EmitError}
use Rattle.jt_codegen.specs.declared.emission.EmitError.TheVariants as emit_error
use Rattle.jt_codegen.specs.declared.error.CompileError.{CompileError}
use Rattle.jt_codegen.specs.declared.error.CompileError.TheVariants as error
use Rattle.jt_codegen.specs.declared.finding.Limit.{Limit}
use Rattle.jt_codegen.specs.declared.finding.Limit.TheVariants as limit

-- The greatest number that the limit allows.
abbrev pub most_of : Limit → ℕ
most_of limit.Constants = max_count
most_of limit.Units = max_count
most_of limit.Instructions = max_instructions
most_of limit.Templates = max_count
most_of limit.NameBytes = max_count
most_of limit.Bytes = max_bytes
most_of limit.Globals = max_count
most_of limit.Parameters = max_parameters
most_of limit.Locals = max_locals
most_of limit.Entries = max_entries

-- An item of the list has a greater number than `most`.
pub record HasAbove {A : Type 0} (number : A → ℕ) (most : ℕ) (items : List A) : Type 0 where
  pub index : ℕ
  pub item : A
  pub is : slice_get items index ≡ Some item
  pub above : most < number item

-- The code of the program passes the limit.
abbrev pub Passes : Limit → Program → Type 0
Passes limit.Constants program = max_count < length (compiled program).constants
Passes limit.Units program = max_count < length (compiled program).units
Passes limit.Instructions program = max_instructions < total_len (compiled program).units
Passes limit.Templates program = max_count < length (compiled program).templates
Passes limit.NameBytes program = HasAbove (λ name. length name.text) max_count (compiled program).names
Passes limit.Bytes program = max_bytes < length (spelling (compiled program))
Passes limit.Globals program = max_count < (compiled program).globals
Passes limit.Parameters program = HasAbove (λ unit. unit.parameters) max_parameters (compiled program).units
Passes limit.Locals program = HasAbove (λ unit. unit.locals) max_locals (compiled program).units
Passes limit.Entries program = NeedsTooMany program

-- The error of `compile` for a program that passes the limit.
abbrev pub error_of : Limit → CompileError
error_of limit.Entries = error.StackTooDeep
error_of l = error.CodeTooLong

-- The claim of an emission error about a program: its code passes the limit. That of entries is
-- checked before.
abbrev pub RefusesImage : EmitError → Program → Type 0
RefusesImage (emit_error.Limit limit.Entries) program = ⊥
RefusesImage (emit_error.Limit l) program = Passes l program
RefusesImage emit_error.NoMemory program = Unit {0}
