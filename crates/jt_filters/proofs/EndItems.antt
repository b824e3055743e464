-- The first and the last item.
use Rattle.std.proofs.Common.{◌≡◌, ℕ, suc, ◌+◌, ◌-◌, Bool, true, cond, ltb, refl, ap, ◌∙◌, Some, None, arith}
use Rattle.std.specs.Prelude.{Option, Ok}
use Rattle.std.specs.Option.{option_and_then}
use Rattle.std.proofs.lemmas.Bool.Decides.{nat_tests}
use Rattle.jt_value.specs.Tree.{Tree, undefined, Items, no_items, item}
use Rattle.jt_op_semantics.specs.ItemOf.{item_at, items_count, or_undefined}
use Rattle.jt_filter_semantics.specs.Listing.{first_item, last_item}
use Rattle.jt_filters.specs.internal.Operands.{last_of}

some_there : (t : Tree) (ts : Items) → ltb 0 (items_count (item t ts)) ≡ true
some_there t ts = grind (arith, nat_tests)

pub first_there : (t : Tree) (ts : Items) → first_item (item t ts) ≡ Ok t
first_there t ts =
    ap (λ (b : Bool). Ok (or_undefined (option_and_then (item_at (item t ts)) (cond b (Some 0) None))))
    (some_there t ts)

-- The last item's index is the number of the items before it.
last_at : (t : Tree) (ts : Items) → item_at (item t ts) (items_count ts) ≡ Some (last_of t ts)
last_at t no_items = refl
last_at t (item u us) =
    let n : items_count us + 1 ≡ suc (items_count us) = omega arith in
    ap (item_at (item t (item u us))) n ∙ last_at u us

pub last_there : (ts : Items) → last_item ts ≡ Ok (last_of undefined ts)
last_there no_items = refl
last_there (item t ts) =
    let n : (items_count ts + 1) - 1 - 0 ≡ items_count ts = omega arith in
    ap (λ (b : Bool).
    Ok (or_undefined (option_and_then (item_at (item t ts)) (cond b (Some ((items_count ts + 1) - 1 - 0)) None))))
    (some_there t ts)
    ∙ ap (λ (k : ℕ). Ok (or_undefined (item_at (item t ts) k))) n
    ∙ ap (λ (o : Option Tree). Ok (or_undefined o)) (last_at t ts)
