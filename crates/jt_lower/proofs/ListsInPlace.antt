-- A list that stands in another one from an index on.
use Rattle.std.proofs.Common.{◌≡◌, ℕ, ◌+◌, List, [], ◌∷◌, ◌++◌, length, Some, subst, arith, append_assoc, length-append}
use Rattle.std.proofs.Common.{rules}
use Rattle.std.specs.Prelude.{slice_get}
use Rattle.std.proofs.Math.Seq.{get_or-append_seam}
use Rattle.std.proofs.lemmas.Option.{slice_get-get_or}

abbrev pub StandsAt : {A : Type 0} → List A → ℕ → List A → Type 0
StandsAt xs p [] = Unit {0}
StandsAt xs p (y ∷ ys) = (slice_get xs p ≡ Some y) × StandsAt xs (p + 1) ys

pub stands_front : {A : Type 0} (xs : List A) (p : ℕ) (ys zs : List A) → StandsAt xs p (ys ++ zs) → StandsAt xs p ys
stands_front xs p [] zs h = tt
stands_front xs p (y ∷ ys) zs h = (h.0, stands_front xs (p + 1) ys zs h.1)

pub stands_back : {A : Type 0} (xs : List A) (p : ℕ) (ys zs : List A) → StandsAt xs p (ys ++ zs)
    → StandsAt xs (p + length ys) zs
stands_back xs p [] zs h = let e : p ≡ p + 0 = omega arith in subst (λ n. StandsAt xs n zs) e h
stands_back xs p (y ∷ ys) zs h = search (arith, rules, stands_back xs (p + 1) ys zs h.1)

pub stands_whole : {A : Type 0} (ys before : List A) → StandsAt (before ++ ys) (length before) ys
stands_whole [] before = tt
stands_whole (y ∷ ys) before =
    search (
      arith,
      rules,
      length-append before (y ∷ ys),
      slice_get-get_or (before ++ y ∷ ys) (length before) y,
      get_or-append_seam before y ys y,
      length-append before (y ∷ []),
      stands_whole ys (before ++ y ∷ []),
      append_assoc before (y ∷ []) ys,
    )
