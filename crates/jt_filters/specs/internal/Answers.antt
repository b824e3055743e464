-- Definitions for the contracts of private functions: the numbers that the items of a list equal.
use Rattle.std.specs.Prelude.{◌≡◌, ℤ, List, All}
use Rattle.std.specs.List.{list_any}
use Rattle.std.specs.Ordering.{int_eq}
use Rattle.jt_value.specs.Tree.{Items, number}
use Rattle.jt_op_semantics.specs.Membership.{has_item}
use Rattle.jt_filters.specs.declared.answers.Answer.{Answer}

-- Holds if the numbers are those that equal one of the items.
abbrev pub AreNumbers : Items → List ℤ → Type 0
AreNumbers ts zs = (z : ℤ) → list_any (int_eq z) zs ≡ has_item (number z) ts

-- Holds if an answer is whether its number equals one of the items.
abbrev pub IsRight : Items → Answer → Type 0
IsRight ts a = a.is_member ≡ has_item (number a.number) ts

-- Holds if each answer is right.
abbrev pub AreRight : Items → List Answer → Type 0
AreRight ts xs = All (IsRight ts) xs
