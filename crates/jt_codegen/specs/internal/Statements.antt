-- The emission of statements. Only private clauses cite these definitions.
use Rattle.std.specs.Prelude.{◌≡◌, ℕ, List, [], ◌∷◌, length, map, Option, option_map, Result, OnOk}
use Rattle.jt_image.specs.declared.instruction.Instruction.TheVariants as op
use Rattle.jt_ir.specs.Slots as slots
use Rattle.jt_ir.specs.Slots.{SBody}
use Rattle.jt_ast.specs.Expressions.{Text}
use Rattle.jt_ir.specs.View.{Front, slot_view}
use Rattle.jt_ir.specs.declared.program.Slot.{Slot}
use Rattle.jt_lower.specs.Lower.{body_asm}
use Rattle.jt_lower.specs.Emission.{StandsFor, Puts, Patches}
use Rattle.jt_lower.specs.declared.emitter.Emitter.{Emitter}

-- The views of slots, each of which may be missing.
abbrev pub slots_view : List (Option Slot) → List (Option slots.Slot)
slots_view ss = map (option_map slot_view) ss

-- For any later statements: if their code is appended to the new code, then the code of all
-- statements is appended to the old code.
abbrev pub Emits : List Text → ℕ → Emitter → Front → Emitter → Type 0
Emits templates h old front new =
    (behind : SBody ℕ) (final : Emitter)
    → Puts templates new (body_asm behind h) final
    → Puts templates old (body_asm (front behind) h) final

-- On success, these statements are emitted before later ones, for any template names and each
-- height that the count represents.
abbrev pub EmitsAt : {E : Type 0} → ℕ → Emitter → (List Text → Front) → Result (Unit {0}) E
    → Emitter → Type 0
EmitsAt above old front result new =
    OnOk result ((templates : List Text) (h : ℕ) → StandsFor above h
    → Emits templates h old (front templates) new)

-- The jumps at these points go to the end of the code.
abbrev pub Closes : Emitter → List ℕ → Emitter → Type 0
Closes old [] new = new ≡ old
Closes old (e ∷ es) new =
    (mid : Emitter) × Closes old es mid × Patches mid e (op.Jump (length mid.code.items)) new
