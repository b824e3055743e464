-- The numerals of small numbers, and the number of texts.
use Rattle.std.proofs.Common.{◌≡◌, ◌∷◌, [], ℕ, List, Bor, length, map, pos, refl}
use Rattle.std.proofs.lemmas.List.{length-map}
use Rattle.std.specs.Fmt.{decimal, signed_decimal, digits}

pub none : signed_decimal (pos 0) ≡ 48 ∷ []
unfolding digits
none = refl

pub one : decimal 1 ≡ 49 ∷ []
unfolding digits
one = refl

pub two : decimal 2 ≡ 50 ∷ []
unfolding digits
two = refl

pub three : decimal 3 ≡ 51 ∷ []
unfolding digits
three = refl

pub most : decimal 254 ≡ 50 ∷ 53 ∷ 52 ∷ []
unfolding digits
most = refl

pub length_mapped : (names : List (Bor (List ℕ))) → length (map (λ x. x.now) names) ≡ length names
length_mapped names = length-map names (λ x. x.now)
