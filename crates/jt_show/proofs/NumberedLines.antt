-- The lines of a list: those of its items so far, and those of the items that are left.
use Rattle.std.proofs.Common.{◌≡◌, ℕ, zero, suc, ◌+◌, ◌<◌, ◌≤◌, List, [], ◌∷◌, ◌++◌, Some, length, drop, refl}
use Rattle.std.proofs.Common.{sym, ap, ◌∙◌, add-one, append_assoc, arith, rules}
use Rattle.std.proofs.lemmas.List.{append-nil, drop_all}
use Rattle.std.specs.Prelude.{flat_map, slice_get}
use Rattle.jt_show.specs.Listing.{numbered}

drop_suc : {A : Type 0} (xs : List A) (i : ℕ) (x : A) → Some x ≡ slice_get xs i → drop i xs ≡ x ∷ drop (suc i) xs
drop_suc (y ∷ ys) (suc i) x e = drop_suc ys i x e
drop_suc a0 a1 x e = search (arith, rules)

pub drop_get : {A : Type 0} (xs : List A) (i : ℕ) (x : A) → Some x ≡ slice_get xs i → drop i xs ≡ x ∷ drop (i + 1) xs
drop_get xs i x e = rw add-one (drop_suc xs i x e)

-- If the line of the next item is appended, the whole stays the same.
pub numbered_next : {A : Type 0} (line : ℕ → A → List ℕ) (xs : List A) (i : ℕ) (x : A) (before after all : List ℕ)
    → Some x ≡ slice_get xs i → after ≡ before ++ line i x
    → before ++ numbered line i (drop i xs) ≡ all
    → after ++ numbered line (i + 1) (drop (i + 1) xs) ≡ all
numbered_next line xs i x before after all is put same =
    rw put (append_assoc before (line i x) (numbered line (i + 1) (drop (i + 1) xs))
    ∙ ap (λ (l : List ℕ). before ++ l) (sym (ap (numbered line i) (drop_get xs i x is)))
    ∙ same)

-- If no item is left, the whole is what was appended.
pub numbered_end : {A : Type 0} (line : ℕ → A → List ℕ) (xs : List A) (i : ℕ) (before all : List ℕ)
    → length xs ≤ i → before ++ numbered line i (drop i xs) ≡ all → before ≡ all
numbered_end line xs i before all far same =
    sym (append-nil before)
    ∙ ap (λ (l : List ℕ). before ++ l) (sym (ap (numbered line i) (drop_all i xs far)))
    ∙ same

pub lines_next : {A : Type 0} (line : A → List ℕ) (xs : List A) (i : ℕ) (x : A) (before after all : List ℕ)
    → Some x ≡ slice_get xs i → after ≡ before ++ line x
    → before ++ flat_map line (drop i xs) ≡ all
    → after ++ flat_map line (drop (i + 1) xs) ≡ all
lines_next line xs i x before after all is put same =
    rw put (append_assoc before (line x) (flat_map line (drop (i + 1) xs))
    ∙ ap (λ (l : List ℕ). before ++ l) (sym (ap (flat_map line) (drop_get xs i x is)))
    ∙ same)

pub lines_end : {A : Type 0} (line : A → List ℕ) (xs : List A) (i : ℕ) (before all : List ℕ)
    → length xs ≤ i → before ++ flat_map line (drop i xs) ≡ all → before ≡ all
lines_end line xs i before all far same =
    sym (append-nil before)
    ∙ ap (λ (l : List ℕ). before ++ l) (sym (ap (flat_map line) (drop_all i xs far)))
    ∙ same

-- Each index within a list has an item.
pub found : {A : Type 0} (xs : List A) (i : ℕ) → i < length xs → (x : A) × (slice_get xs i ≡ Some x)
found [] i inside = absurd (omega (arith, inside))
found (x ∷ xs) zero inside = (x, refl)
found (x ∷ xs) (suc i) inside = found xs i (omega (arith, inside))
