-- Emission: appended instructions with the places of their tags, and jumps that are patched when
-- their target is known.
use Rattle.std.specs.Prelude.{◌≡◌, ℕ, ◌+◌, ◌<◌, ◌≤◌, ◌^◌, Bool, true, false, not, List, ◌++◌, length, map, Option, Some}
use Rattle.std.specs.Prelude.{None, option_map, slice_set, Result, OnOk}
use Rattle.std.specs.List.{AllByRecursion}
use Rattle.jt_image.specs.declared.instruction.Instruction.{Instruction}
use Rattle.jt_image.specs.declared.instruction.Instruction.TheVariants as op
use Rattle.jt_image.specs.declared.wire.Instr.{Instr}
use Rattle.jt_image.specs.Spelling.{wire_of}
use Rattle.jt_image.specs.IsCode.{IsInstruction}
use Rattle.jt_value.specs.Place.{Place}
use Rattle.jt_ast.specs.Expressions.{Text}
use Rattle.jt_ir.specs.Slots.{SlotExpr}
use Rattle.jt_ir.specs.View.{place_view}
use Rattle.jt_ir.specs.declared.program.Place as given
use Rattle.jt_lower.specs.Asm.{Asm, nil, one, both, choose, flat, places}
use Rattle.jt_lower.specs.Lower.{expr_asm}
use Rattle.jt_lower.specs.declared.emitter.Emitter.{Emitter}

-- The place of a tag, if it exists; its template is one of the given names.
abbrev pub tag_view : List Text → Option given.Place → Option Place
tag_view templates tag = option_map (place_view templates) tag

abbrev pub places_view : List Text → List (Option given.Place) → List (Option Place)
places_view templates tags = map (tag_view templates) tags

-- The option is this instruction, or `None` if an operand does not fit its field.
abbrev pub Given : Option Instruction → Instruction → Type 0
Given None i = ¬ (IsInstruction i)
Given (Some x) i = x ≡ i

-- The new instructions are the old ones followed by the instructions of the code.
abbrev pub Emitted : List Instr → Asm → List Instr → Type 0
Emitted old a new = new ≡ old ++ map wire_of (flat a (length old))

-- After `n` instructions, the code is within the limit, and its operands fit their fields.
pub record HasPlace (limit n : ℕ) (a : Asm) : Type 0 where
  pub len : n + length (flat a n) ≤ limit
  pub fields : AllByRecursion IsInstruction (flat a n)

-- The code and its places are appended unless something overflows, and nothing overflows if the
-- code has space.
pub record Puts (templates : List Text) (old : Emitter) (a : Asm) (new : Emitter) : Type 0 where
  pub limit : new.limit ≡ old.limit
  pub kept : new.overflowed ≡ false → old.overflowed ≡ false
  pub emitted : new.overflowed ≡ false → Emitted old.code.items a new.code.items
  pub tagged : new.overflowed ≡ false
      → places_view templates new.places.items ≡ places_view templates old.places.items ++ places a
  pub place : HasPlace old.limit (length old.code.items) a → old.overflowed ≡ false
      → new.overflowed ≡ false

-- The numbers are equal, or both are too large for a field of 32 bits.
pub record StandsFor (n h : ℕ) : Type 0 where
  pub same : n < 2 ^ 32 → n ≡ h
  pub above : 2 ^ 32 ≤ n → 2 ^ 32 ≤ h

-- On success, this code is appended, for any template names. `PutsAt` states it for each height
-- that the count represents.
abbrev pub PutsFor : {E : Type 0} → Emitter → (List Text → Asm) → Result (Unit {0}) E → Emitter
    → Type 0
PutsFor old code result new =
    OnOk result ((templates : List Text) → Puts templates old (code templates) new)

abbrev pub PutsAt : {E : Type 0} → ℕ → Emitter → (List Text → ℕ → Asm) → Result (Unit {0}) E
    → Emitter → Type 0
PutsAt above old code result new =
    OnOk result ((templates : List Text) (h : ℕ) → StandsFor above h
    → Puts templates old (code templates h) new)

-- A jump is appended at this point, without a place.
pub record Reserves (old : Emitter) (jump : Instruction) (point : ℕ) (new : Emitter) : Type 0 where
  pub at : point ≡ length old.code.items
  pub puts : (templates : List Text) → Puts templates old (one None jump) new

-- The instruction at the point is replaced, if it exists; places stay.
pub record Patches (old : Emitter) (point : ℕ) (i : Instruction) (new : Emitter) : Type 0 where
  pub limit : new.limit ≡ old.limit
  pub len : length new.code.items ≡ length old.code.items
  pub places : new.places.items ≡ old.places.items
  pub kept : new.overflowed ≡ false → old.overflowed ≡ false
  pub code : new.overflowed ≡ false → new.code.items ≡ slice_set old.code.items point (wire_of i)
  pub place : IsInstruction i → old.overflowed ≡ false → new.overflowed ≡ false

-- A jump is appended at this point, and the test at the choice goes to the point after it.
pub record Ends (old : Emitter) (choice last : ℕ) (new : Emitter) : Type 0 where
  pub jumped : Emitter
  pub reserves : Reserves old (op.Jump 0) last jumped
  pub patches : Patches jumped choice (op.JumpIfFalse (length jumped.code.items)) new

-- The jump back to the test at the top is appended, and the test goes to the point after it.
pub record EndsTurns (old : Emitter) (top : ℕ) (new : Emitter) : Type 0 where
  pub back : Emitter
  pub goes : (templates : List Text) → Puts templates old (one None (op.Jump top)) back
  pub patches : Patches back top (op.LoopNext (length back.code.items)) new

-- An expression that replaces the value on top, if the flag is true.
abbrev pub side_asm : Option Place → SlotExpr ℕ → Bool → ℕ → Asm
side_asm o e true h = both (one o op.Drop) (expr_asm o e h)
side_asm o e false h = nil

-- An expression that replaces the value on top if the truth of this value is `so`.
abbrev pub instead_asm : Option Place → SlotExpr ℕ → Bool → ℕ → Asm
instead_asm o e so h =
    both (one o op.Dup) (choose (side_asm o e so h) (side_asm o e (not so) h))
