-- Texts in strictly ascending order.
use Rattle.std.specs.Prelude.{◌≡◌, true, List, [], ◌∷◌}
use Rattle.std.specs.Ordering.{nat_cmp, is_lt}
use Rattle.std.specs.Cmp.Lexicographic.{slice_cmp}
use Rattle.jt_ast.specs.Expressions.{Text}

abbrev pub IsBefore : Text → Text → Type 0
IsBefore x y = is_lt (slice_cmp nat_cmp x y) ≡ true

-- Holds if the texts ascend strictly and follow z.
abbrev pub Above : Text → List Text → Type 0
Above z [] = Unit {0}
Above z (y ∷ ys) = IsBefore z y × Above y ys

abbrev pub Ascends : List Text → Type 0
Ascends [] = Unit {0}
Ascends (y ∷ ys) = Above y ys
