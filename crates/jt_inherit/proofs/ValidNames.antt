-- The test for valid names of templates is exact.
use Rattle.jt_inherit.proofs.Vocabulary as words
use words.{ℕ, ◌<◌, ◌≤◌, ◌==◌, Bool, true, false, List, [], ◌∷◌, length, refl, arith, All, IsTrue, ◌↔◌, MatchBool, rules}
use words.{slice_split, AllWithin, HoldsAt, IsPart, IsName}
use Rattle.jt_chains.specs.Names.{Text, IsNameByte}

-- The parts of a name.
abbrev pub parts : Text → List Text
parts x = slice_split (λ b. b == 47) x

-- An empty text has one part, which is empty.
not_empty : (x : Text) → All IsPart (parts x) → 1 ≤ length x
not_empty [] h = absurd ((h 0 [] (omega arith)).0 refl)
not_empty (c ∷ x) h = omega arith

-- The remaining test, if the text is short and each byte may occur in a name.
pub named : (x : Text) (b : Bool) → length x ≤ 255 → All IsNameByte x → (IsTrue b ↔ All IsPart (parts x))
    → IsTrue b ↔ IsName x
named x b l h w = search (arith, rules, not_empty)

not_all : {X : Type 0} (P : X → Type 0) (xs : List X) (k : ℕ) → k < length xs → HoldsAt (λ x. P x → ⊥) xs k → All P xs
    → ⊥
not_all P [] k l h a = absurd (omega arith)
not_all P (x ∷ xs) k l h a = h x (a k x l)

-- A test of each element decides a property of all.
pub tested_all : {X : Type 0} (P : X → Type 0) (xs : List X) (b : Bool)
    → MatchBool b (AllWithin P xs 0 (length xs)) ((k : ℕ) × (k < length xs) × HoldsAt (λ x. P x → ⊥) xs k)
    → IsTrue b ↔ All P xs
tested_all P xs true h = (λ t k d l. h k d (omega arith) l, λ a. refl)
tested_all P xs false h = (λ t. absurd (cc), λ a. absurd (not_all P xs h.0 h.1 h.2 a))
