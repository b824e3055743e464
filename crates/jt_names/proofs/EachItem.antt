-- A property of each item of a list, by its index.
use Rattle.jt_names.proofs.Vocabulary
use Vocabulary.{length_push, ◌≡◌, ◌<◌, ◌+◌, ℕ, suc, List, [], ◌∷◌, ◌++◌, length, get_or, arith, rules}

each_more : {A : Type 0} (P : ℕ → A → Type 0) (xs : List A) (y : A)
    → ((i : ℕ) (t : A) → i < length xs → t ≡ get_or xs i t → P i t) → P (length xs) y
    → (i : ℕ) (t : A) → i < length (xs ++ y ∷ []) → t ≡ get_or (xs ++ y ∷ []) i t → P i t
each_more P (x ∷ xs) y all last (suc i) t lt is =
    each_more (λ j. P (suc j)) xs y (λ j u l q. all (suc j) u (omega arith) q) last i t (omega arith) is
each_more a0 a1 y all last a5 t lt is = search (arith, rules)

-- A list to which one item is appended has one item more, and the property stays true of each item.
pub each_pushed : {A : Type 0} {ys : List A} (P : ℕ → A → Type 0) (xs : List A) (y : A) (n : ℕ) → ys ≡ xs ++ y ∷ []
    → length xs ≡ n → ((i : ℕ) (t : A) → i < length xs → t ≡ get_or xs i t → P i t) → P n y
    → (length ys ≡ n + 1) × ((i : ℕ) (t : A) → i < length ys → t ≡ get_or ys i t → P i t)
each_pushed P xs y n grown all each last = (
  rw (grown, length_push, all),
  rw grown (each_more P xs y each (rw all last)),
)
