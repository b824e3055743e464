-- A loop that changes the items of a list in order changes the values of the items.
use Rattle.std.proofs.Common.{◌≡◌, ℕ, zero, suc, ◌+◌, ◌<◌, ◌≤◌, List, [], ◌∷◌, length, map, get_or, Option, Some, refl}
use Rattle.std.proofs.Common.{sym, ap, ◌∙◌, arith, rules}
use Rattle.std.specs.Prelude.{slice_set}
use Rattle.std.proofs.lemmas.Option.{same_Some}
use Rattle.jt_image.specs.Parts.{each_of}

module _ {A B : Type 0} (f : A → Option B) (g : B → B) where
  -- The list with its first `n` items changed.
  abbrev pub changed : ℕ → List B → List B
  changed zero ys = ys
  changed (suc n) [] = []
  changed (suc n) (y ∷ ys) = g y ∷ changed n ys

  pub changed_all : (n : ℕ) (ys : List B) → length ys ≤ n → changed n ys ≡ map g ys
  changed_all zero [] le = refl
  changed_all zero (y ∷ ys) le = absurd (omega (arith, le))
  changed_all (suc n) [] le = refl
  changed_all (suc n) (y ∷ ys) le = ap (λ l. g y ∷ l) (changed_all n ys (omega (arith, le)))

  -- The values of a list: the value of its first item, then those of the rest.
  pub record Parted (x : A) (xs : List A) (ys : List B) : Type 0 where
    pub first : B
    pub rest : List B
    pub is_first : f x ≡ Some first
    pub are : each_of f xs ≡ Some rest
    pub all : ys ≡ first ∷ rest

  parted : (x : A) (xs : List A) (ys : List B) → each_of f (x ∷ xs) ≡ Some ys → Parted x xs ys
  parted x xs ys e = search (arith, rules, same_Some)

  pub each_len : (xs : List A) (ys : List B) → each_of f xs ≡ Some ys → length ys ≡ length xs
  each_len [] ys e = ap length (sym (same_Some [] ys e))
  each_len (x ∷ xs) ys e = let p = parted x xs ys e in ap length p.all ∙ ap suc (each_len xs p.rest p.are)

  step : (n : ℕ) (xs : List A) (ys : List B) (x y d : A) → each_of f xs ≡ Some (changed n ys) → n < length xs
      → x ≡ get_or xs n d → ((b : B) → f x ≡ Some b → f y ≡ Some (g b))
      → each_of f (slice_set xs n y) ≡ Some (changed (suc n) ys)
  step n [] ys x y d e lt is new = absurd (omega (arith, lt))
  step zero (z ∷ xs) [] x y d e lt is new = absurd (let p = parted z xs [] e in let no = p.all in cc)
  step zero (z ∷ xs) (b ∷ ys) x y d e lt is new = search (arith, rules, parted)
  step (suc n) (z ∷ xs) [] x y d e lt is new = absurd (let p = parted z xs [] e in let no = p.all in cc)
  step (suc n) (z ∷ xs) (b ∷ ys) x y d e lt is new = search (arith, rules, parted, step n xs ys x y d)

  pub changed_more : (n : ℕ) (xs : List A) (ys : List B) (x y d : A) → each_of f xs ≡ Some (changed n ys)
      → n < length xs → x ≡ get_or xs n d → ((b : B) → f x ≡ Some b → f y ≡ Some (g b))
      → each_of f (slice_set xs n y) ≡ Some (changed (n + 1) ys)
  changed_more n xs ys x y d e lt is new =
      step n xs ys x y d e lt is new ∙ ap (λ m. Some (changed m ys)) (let same : suc n ≡ n + 1 = omega arith in same)

  -- If the loop has ended, all items are changed.
  pub whole : (xs zs : List A) (ys : List B) (n : ℕ) → length xs ≤ n → each_of f xs ≡ Some ys
      → each_of f zs ≡ Some (changed n ys) → each_of f zs ≡ Some (map g ys)
  whole xs zs ys n le e h = h ∙ ap Some (changed_all n ys (omega (arith, le, each_len xs ys e)))
