-- The keys of values that are no pairs.
use Rattle.std.proofs.Common.{◌≡◌, ℕ, zero, suc, [], Some, None, refl, sym, ap, ◌∙◌, arith, rules}
use Rattle.jt_value.specs.ListItems.{numbers_of}
use Rattle.jt_value.specs.Numbers.{stepped}
use Rattle.jt_value.specs.Payload.{items_of_list}
use Rattle.jt_value.specs.Tree.{Tree, list, Items, no_items}
use Rattle.jt_value.specs.declared.number_range.NumberRange.{NumberRange}
use Rattle.jt_filters.specs.internal.Ranks.{pair_key}
use Rattle.jt_filters.proofs.Payloads.{list_is}

pub no_key_of_none : (t : Tree) → None ≡ items_of_list t → [] ≡ pair_key t
no_key_of_none t a1 = search (arith, rules)

pub no_key_of_empty : (t : Tree) (ts : Items) → Some ts ≡ items_of_list t → ts ≡ no_items → [] ≡ pair_key t
no_key_of_empty t ts e none = sym (ap pair_key (list_is t ts e) ∙ ap (λ us. pair_key (list us)) none)

pub no_key_of_numbers : (t : Tree) (range : NumberRange) → Some (numbers_of range) ≡ items_of_list t → [] ≡ pair_key t
no_key_of_numbers t range e =
    sym (ap pair_key (list_is t (numbers_of range) e) ∙ by range.count)
  where
    by : (n : ℕ) → pair_key (list (stepped n range.first range.step)) ≡ []
    by zero = refl
    by (suc n) = refl

pub ruleset pair_keys = (no_key_of_none, no_key_of_empty, no_key_of_numbers)
