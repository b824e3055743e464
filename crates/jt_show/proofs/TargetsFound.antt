-- The points to which the instructions so far may jump are marked.
use Rattle.std.proofs.Common.{◌≡◌, ◌≢◌, ◌<◌, ℕ, Bool, true, false, List, Option, Some, None, length, get_or, set}
use Rattle.std.proofs.Common.{refl, sym, ap, subst, ◌∙◌, ◌+◌, arith, inl, inr, drop}
use Rattle.std.proofs.lemmas.List.{get_or-set_other, get_or-set_same}
use Rattle.std.specs.Prelude.{◌||◌, slice_get}
use Rattle.std.proofs.lemmas.Bool.{cases_order}
use Rattle.std.proofs.lemmas.Bool.Decides.{nat_tests}
use Rattle.jt_image.specs.declared.instruction.Instruction.{Instruction}
use Rattle.jt_show.specs.Listing.{is_point, is_target, target_of}
use Rattle.jt_show.proofs.NumberedLines.{drop_get}

-- The marks with that of one more point.
abbrev pub marked : List Bool → Option ℕ → List Bool
marked marks None = marks
marked marks (Some target) = set marks target true

or_true : (b rest : Bool) → (b || (true || rest)) ≡ true
or_true true rest = refl
or_true false rest = refl

here : (point target : ℕ) → target ≡ point → is_point point (Some target) ≡ true
here point target e = grind (arith, nat_tests)

elsewhere : (point target : ℕ) → target ≢ point → is_point point (Some target) ≡ false
elsewhere point target e = grind (arith, nat_tests)

-- A point that is marked, to which the next instruction or a later one may jump, is marked after
-- the next one, or a later one may jump there.
pub marks_more : (marks : List Bool) (o : Option ℕ) (point : ℕ) (rest all : Bool) → point < length marks
    → (get_or marks point false || (is_point point o || rest)) ≡ all
    → (get_or (marked marks o) point false || rest) ≡ all
marks_more marks None point rest all inside same = same
marks_more marks (Some target) point rest all inside same = elim (cases_order target point) [
  | inl e ↦
      let new : get_or (set marks target true) point false ≡ true =
      subst (λ (t : ℕ). get_or (set marks t true) point false ≡ true) (sym e)
      (get_or-set_same marks point true false inside) in
      rw new (sym (or_true (get_or marks point false) rest)
      ∙ ap (λ (b : Bool). get_or marks point false || (b || rest)) (sym (here point target e))
      ∙ same)
  | inr other ↦
      let ne : point ≢ target =
      λ e. elim other [ inl low ↦ omega (arith, e, low) | inr high ↦ omega (arith, e, high) ] in
      rw (get_or-set_other marks target point true false ne)
      (ap (λ (b : Bool). get_or marks point false || (b || rest)) (sym (elsewhere point target (λ e. ne (sym e))))
      ∙ same)
]

-- The mark of the next instruction's target takes the place of the instruction.
pub marked_next : (code : List Instruction) (i : ℕ) (x : Instruction) (o : Option ℕ) (marks new : List Bool)
    (point : ℕ) → Some x ≡ slice_get code i → o ≡ target_of x → new ≡ marked marks o → point < length marks
    → (get_or marks point false || is_target (drop i code) point) ≡ is_target code point
    → (get_or new point false || is_target (drop (i + 1) code) point) ≡ is_target code point
marked_next code i x o marks new point is leads put inside same =
    rw put (marks_more marks o point (is_target (drop (i + 1) code) point) (is_target code point) inside
    (rw leads (ap (λ (l : List Instruction). get_or marks point false || is_target l point) (sym (drop_get code i x is))
    ∙ same)))
