-- An instruction that is read from eight bytes together is the one that is read field by field.
use Rattle.std.proofs.Common.{◌≡◌, ℕ, List, [], ◌∷◌, ◌++◌, length, get_or, Some, Ok, refl, sym, ap, ◌∙◌, arith, rules}
use Rattle.std.specs.Int.{w16, w32, from_le_bytes, to_le_bytes}
use Rattle.jt_image.specs.declared.instruction.Instruction.{Instruction}
use Rattle.jt_image.specs.declared.wire.Instr.{Instr}
use Rattle.jt_image.specs.Spelling.{wire_bytes}
use Rattle.jt_image.specs.Reading.{instruction_of, instruction_at}
use Rattle.jt_image.proofs.DecodeSoundLemmas.{IsBytes, wide16, wide32}
use Rattle.jt_image.proofs.DecodeSound.{wire_at, wire_from}
use Rattle.jt_image.proofs.DecodeComplete.{by_wire}

-- The two bytes of the field `b`, and the four bytes of the field `c`.
abbrev pub b_of : List ℕ → List ℕ
b_of front = get_or front 2 0 ∷ get_or front 3 0 ∷ []

abbrev pub c_of : List ℕ → List ℕ
c_of front = get_or front 4 0 ∷ get_or front 5 0 ∷ get_or front 6 0 ∷ get_or front 7 0 ∷ []

-- The fields that eight bytes encode.
abbrev pub eight_of : List ℕ → Instr
eight_of front =
    wire_at (get_or front 0 0) (get_or front 1 0) (from_le_bytes w16 (b_of front)) (from_le_bytes w32 (c_of front))

eight : (front : List ℕ) → length front ≡ 8 → get_or front 0 0 ∷ get_or front 1 0 ∷ (b_of front ++ c_of front) ≡ front
eight (a ∷ b ∷ c ∷ d ∷ e ∷ f ∷ g ∷ h ∷ []) len = refl
eight _ len = absurd (omega arith)

b_fits : (front : List ℕ) → IsBytes front → IsBytes (b_of front)
b_fits front fits a2 = search (arith, rules)

c_fits : (front : List ℕ) → IsBytes front → IsBytes (c_of front)
c_fits front fits a2 = search (arith, rules)

-- Eight bytes that are those of an instruction are read as this instruction.
pub read_at_once : (front rest : List ℕ) (i : Instruction) → length front ≡ 8 → IsBytes front
    → instruction_of (eight_of front) ≡ Some i → instruction_at (front ++ rest) ≡ Ok (i, rest)
read_at_once front rest i len fits e =
    let b = wide16.back (b_of front) refl (b_fits front fits) in
    let c = wide32.back (c_of front) refl (c_fits front fits) in
    let spelled : wire_bytes (eight_of front) ≡ front =
    ap (λ (t : List ℕ). get_or front 0 0 ∷ get_or front 1 0 ∷ (t ++ to_le_bytes w32 (from_le_bytes w32 (c_of front)))) b
    ∙ ap (λ (t : List ℕ). get_or front 0 0 ∷ get_or front 1 0 ∷ (b_of front ++ t)) c
    ∙ eight front len in
    ap (λ (t : List ℕ). instruction_at (t ++ rest)) (sym spelled)
    ∙ by_wire (eight_of front) i rest (wire_from (eight_of front) i e) (wide16.below (b_of front) (b_fits front fits))
    (wide32.below (c_of front) (c_fits front fits))
