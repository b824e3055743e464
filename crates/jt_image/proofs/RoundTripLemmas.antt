-- Lemmas for the proof that a spelling is read again.
use Rattle.std.proofs.Common.{◌≡◌, ℕ, ◌<◌, Bool, true, false, List, [], ◌∷◌, ◌++◌, length, map, Result, Ok, refl}
use Rattle.std.proofs.Common.{sym, ap, ◌∙◌, arith, append_assoc, rules}
use Rattle.std.specs.Int.{Width, to_le_bytes}
use Rattle.std.specs.List.{flat_map, AllByRecursion}
use Rattle.std.specs.Prelude.{IsUtf8}
use Rattle.std.proofs.lemmas.Str.{is_utf8-from_IsUtf8}
use Rattle.std.proofs.lemmas.Bool.{le-ltb}
use Rattle.std.proofs.lemmas.List.{append-nil, take_at, drop_at, length-append}
use Rattle.std.proofs.lemmas.List.Concat.{flat_map-cons}
use Rattle.jt_image.specs.declared.error.ImageError.{ImageError}
use Rattle.jt_image.specs.Reading.{◌>>=◌, check, number_at, text_at, many_at, each_at}
use Rattle.jt_image.proofs.DecodeSoundLemmas.{Read, IsWide, AllGood}

pub number_again : (w : Width) (limit : ℕ) → IsWide w limit → (n : ℕ) (rest : List ℕ) → n < limit
    → number_at w (to_le_bytes w n ++ rest) ≡ Ok (n, rest)
number_again w limit wide n rest lt = search (arith, rules, le-ltb, length-append, take_at, drop_at)

pub text_again : (t rest : List ℕ) → IsUtf8 t → text_at (length t) (t ++ rest) ≡ Ok (t, rest)
unfolding text_at
text_again t rest u = search (arith, rules, le-ltb, length-append, is_utf8-from_IsUtf8, take_at, drop_at)

-- If a reader succeeds, the next reader continues.
pub bind_again : {A B : Type 0} (r : Read A) (f : A × List ℕ → Result B ImageError) (x : A) (rest : List ℕ)
    (y : Result B ImageError)
    → r ≡ Ok (x, rest) → f (x, rest) ≡ y → (r >>= f) ≡ y
bind_again {A} {B} r f x rest y e g = ap (λ (q : Read A). q >>= f) e ∙ g

-- A test that holds has no effect.
pub check_again : {A : Type 0} (b : Bool) (d : ImageError) (r : Result A ImageError) → b ≡ true → check b d r ≡ r
check_again true d r e = refl
check_again false d r e = absurd cc

module _ {A : Type 0} (step : List A → List ℕ → Read A) (spell : A → List ℕ) (good : List A → A → Type 0)
    (again : (before : List A) (x : A) (rest : List ℕ) → good before x
    → step before (spell x ++ rest) ≡ Ok (x, rest)) where
  pub many_again : (before more : List A) (rest : List ℕ) → AllGood good before more
      → many_at step (length more) before (flat_map spell more ++ rest) ≡ Ok (before ++ more, rest)
  unfolding many_at
  many_again before [] rest h =
      ap (λ (xs : List A). let r : List A × List ℕ = (xs, rest) in Ok r) (sym (append-nil before))
  many_again before (x ∷ xs) rest h =
      let regroup : flat_map spell (x ∷ xs) ++ rest ≡ spell x ++ (flat_map spell xs ++ rest) =
      ap (λ (t : List ℕ). t ++ rest) (flat_map-cons spell x xs) ∙ append_assoc (spell x) (flat_map spell xs) rest in
      let first : step before (flat_map spell (x ∷ xs) ++ rest) ≡ Ok (x, flat_map spell xs ++ rest) =
      ap (step before) regroup ∙ again before x (flat_map spell xs ++ rest) h.0 in
      bind_again (step before (flat_map spell (x ∷ xs) ++ rest))
      (λ y. many_at step (length xs) (before ++ y.0 ∷ []) y.1) x (flat_map spell xs ++ rest)
      (Ok (before ++ (x ∷ xs), rest)) first
      (many_again (before ++ x ∷ []) xs rest h.1
      ∙ ap (λ (ys : List A). let r : List A × List ℕ = (ys, rest) in Ok r) (append_assoc before (x ∷ []) xs))

module _ {H A : Type 0} (step : H → List ℕ → Read A) (spell : A → List ℕ) (head : A → H) (good : A → Type 0)
    (again : (x : A) (rest : List ℕ) → good x → step (head x) (spell x ++ rest) ≡ Ok (x, rest)) where
  pub each_again : (before more : List A) (rest : List ℕ) → AllByRecursion good more
      → each_at step (map head more) before (flat_map spell more ++ rest) ≡ Ok (before ++ more, rest)
  unfolding each_at
  each_again before [] rest h =
      ap (λ (xs : List A). let r : List A × List ℕ = (xs, rest) in Ok r) (sym (append-nil before))
  each_again before (x ∷ xs) rest h =
      let regroup : flat_map spell (x ∷ xs) ++ rest ≡ spell x ++ (flat_map spell xs ++ rest) =
      ap (λ (t : List ℕ). t ++ rest) (flat_map-cons spell x xs) ∙ append_assoc (spell x) (flat_map spell xs) rest in
      let first : step (head x) (flat_map spell (x ∷ xs) ++ rest) ≡ Ok (x, flat_map spell xs ++ rest) =
      ap (step (head x)) regroup ∙ again x (flat_map spell xs ++ rest) h.0 in
      bind_again (step (head x) (flat_map spell (x ∷ xs) ++ rest))
      (λ y. each_at step (map head xs) (before ++ y.0 ∷ []) y.1) x (flat_map spell xs ++ rest)
      (Ok (before ++ (x ∷ xs), rest)) first
      (each_again (before ++ x ∷ []) xs rest h.1
      ∙ ap (λ (ys : List A). let r : List A × List ℕ = (ys, rest) in Ok r) (append_assoc before (x ∷ []) xs))
