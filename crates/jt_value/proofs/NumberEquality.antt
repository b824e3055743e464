-- Items equal numbers as the numbers equal the items.
use Rattle.std.proofs.Common.{◌≡◌, ℕ, zero, suc, ℤ, ◌+ℤ◌, refl, ap, ◌∙◌}
use Rattle.std.proofs.lemmas.Cmp.{int_eq_equiv}
use Rattle.std.specs.Prelude.{◌&&◌}
use Rattle.jt_value.specs.Equality.{equal, equal_items, truth_number}
use Rattle.jt_value.specs.Numbers.{stepped}
use Rattle.jt_value.specs.Tree.{Tree, undefined, nothing, truth_value, number, text, markup, list, map, Items, no_items}
use Rattle.jt_value.specs.Tree.{item}

equal_number : (z : ℤ) (t : Tree) → equal (number z) t ≡ equal t (number z)
equal_number z undefined = refl
equal_number z nothing = refl
equal_number z (truth_value b) = int_eq_equiv.symm z (truth_number b)
equal_number z (number y) = int_eq_equiv.symm z y
equal_number z (text s) = refl
equal_number z (markup s) = refl
equal_number z (list ts) = refl
equal_number z (map es) = refl

pub equal_numbers : (n : ℕ) (s d : ℤ) (ts : Items) → equal_items (stepped n s d) ts ≡ equal_items ts (stepped n s d)
equal_numbers zero s d no_items = refl
equal_numbers zero s d (item t ts) = refl
equal_numbers (suc n) s d no_items = refl
equal_numbers (suc n) s d (item t ts) =
    ap (λ b. b && equal_items (stepped n (s +ℤ d) d) ts) (equal_number s t)
    ∙ ap (λ b. equal t (number s) && b) (equal_numbers n (s +ℤ d) d ts)
