-- A test of the items in order finds a member exactly if the definition does.
use Rattle.std.proofs.Common.{◌≡◌, ◌||◌, false, ℕ, zero, suc, ℤ, ◌+ℤ◌, List, [], ◌∷◌, refl, ap}
use Rattle.std.specs.List.{list_any}
use Rattle.jt_value.specs.Equality.{equal}
use Rattle.jt_value.specs.Numbers.{stepped}
use Rattle.jt_value.specs.Tree.{Tree, text}
use Rattle.jt_value.specs.View.{view, items_view}
use Rattle.jt_value.specs.declared.value.Value.{Value}
use Rattle.jt_op_semantics.specs.Membership.{has_item}

pub any_equal : (t : Tree) (vs : List Value) → list_any (λ v. equal t (view v)) vs ≡ has_item t (items_view vs)
any_equal t [] = refl
any_equal t (v ∷ vs) = ap (λ b. equal t (view v) || b) (any_equal t vs)

-- No number of a range is a text.
pub no_number_is_text : (s : List ℕ) (n : ℕ) (first step : ℤ) → false ≡ has_item (text s) (stepped n first step)
no_number_is_text s zero first step = refl
no_number_is_text s (suc n) first step = no_number_is_text s n (first +ℤ step) step
