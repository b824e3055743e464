-- The first items of a list that may be shorter.
use Rattle.std.proofs.Common.{◌≡◌, ◌∙◌, ℕ, List, ap, length, map, min, sym, take}
use Rattle.std.proofs.lemmas.List.{take_min, take-map}

pub first_taken : {X Y : Type 0} (f : X → Y) (xs : List X) (n m : ℕ) → m ≡ min n (length xs)
    → map f (take m xs) ≡ take n (map f xs)
first_taken f xs n m e = ap (λ k. map f (take k xs)) e ∙ (ap (map f) (take_min n xs) ∙ sym (take-map f n xs))
