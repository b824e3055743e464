-- The opcodes of the instructions that name a constant.
use Rattle.std.proofs.Common.{◌≡◌, ℕ, List, Option, Some, None, refl, sym, ap, ◌∙◌, ◌⊎◌, inl, inr, subst, arith, rules}
use Rattle.jt_image.specs.declared.instruction.Instruction.{Instruction}
use Rattle.jt_image.specs.declared.instruction.Instruction.TheVariants as op
use Rattle.jt_image.specs.declared.wire.Instr.{Instr}
use Rattle.jt_image.specs.Reading.{instruction_of}
use Rattle.jt_image.specs.Spelling.{wire_of}
use Rattle.jt_image.proofs.DecodeSound.{wire_from}
use Rattle.jt_constants.specs.Merged.{moved, with_indices}

others_stay : (indices : List ℕ) (i : Instruction) → ((wire_of i).op ≡ 1 → ⊥) → ((wire_of i).op ≡ 9 → ⊥)
    → with_indices indices i ≡ i
others_stay indices (op.Const n) f g = absurd (f refl)
others_stay indices (op.Data n) f g = absurd (g refl)
others_stay indices i f g = search (arith, rules)

pub stays : (w : Instr) (indices : List ℕ) → (w.op ≡ 1 → ⊥) → (w.op ≡ 9 → ⊥) → (i : Instruction)
    → instruction_of w ≡ Some i → instruction_of w ≡ Some (with_indices indices i)
stays w indices f g i e =
    let wire = ap (λ (v : Instr). v.op) (wire_from w i e) in
    e ∙ ap (λ j. Some j) (sym (others_stay indices i (λ h. f (sym wire ∙ h)) (λ h. g (sym wire ∙ h))))

-- The instruction with the index of its constant moved.
abbrev pub renumbered : Instr → ℕ → Instr
renumbered w n = record { op = w.op; a = w.a; b = w.b; c = n }

moved_wire : (indices : List ℕ) (i : Instruction) → ((wire_of i).op ≡ 1) ⊎ ((wire_of i).op ≡ 9)
    → instruction_of (renumbered (wire_of i) (moved indices (wire_of i).c)) ≡ Some (with_indices indices i)
unfolding instruction_of
moved_wire indices (op.Const n) h = refl
moved_wire indices (op.Data n) h = refl
moved_wire indices i h = search (arith, rules)

pub moves : (w : Instr) (indices : List ℕ) (n : ℕ) → n ≡ moved indices w.c
    → (w.op ≡ 1) ⊎ ((w.op ≡ 1 → ⊥) × (w.op ≡ 9)) → (i : Instruction) → instruction_of w ≡ Some i
    → instruction_of (renumbered w n) ≡ Some (with_indices indices i)
moves w indices n is h i e =
    let wire = wire_from w i e in
    ap (λ m. instruction_of (renumbered w m)) is
    ∙ ap (λ v. instruction_of (renumbered v (moved indices v.c))) (sym wire)
    ∙ moved_wire indices i (subst (λ (v : Instr). (v.op ≡ 1) ⊎ (v.op ≡ 9)) (sym wire) (either h))
  where
    either : (w.op ≡ 1) ⊎ ((w.op ≡ 1 → ⊥) × (w.op ≡ 9)) → (w.op ≡ 1) ⊎ (w.op ≡ 9)
    either (inl h) = inl h
    either (inr h) = inr h.1
