-- The sizes and nestings of lists that are made of texts and maps.
use Rattle.std.proofs.Common.{◌≡◌, List, [], ◌∷◌, reverse, refl, ap, ◌∙◌, arith}
use Rattle.std.proofs.lemmas.List.{reverse-append}
use Rattle.jt_value.specs.Tree.{Tree, Items, no_items, item, items_size, items_nesting}
use Rattle.jt_value.specs.View.{view, items_view}
use Rattle.jt_value.specs.declared.value.Value.{Value}
use Rattle.jt_value.specs.Payload.{more_items}
use Rattle.jt_value.proofs.Lists.{items_view-push}
use Rattle.jt_value.proofs.Lists.{joined_size, joined_nesting}
use Rattle.jt_value.specs.Payload.{joined_items}
use Rattle.jt_filter_semantics.specs.Listing.{reversed_items}

pub reversed_size : (ts : Items) → items_size (reversed_items ts) ≡ items_size ts
reversed_size no_items = refl
reversed_size (item t ts) = omega (arith, joined_size (reversed_items ts) (item t no_items), reversed_size ts)

pub reversed_nesting : (ts : Items) → items_nesting (reversed_items ts) ≡ items_nesting ts
reversed_nesting no_items = refl
reversed_nesting (item t ts) = omega (arith, joined_nesting (reversed_items ts) (item t no_items), reversed_nesting ts)

more_joined : (ts : Items) (u : Tree) → more_items ts u ≡ joined_items ts (item u no_items)
more_joined no_items u = refl
more_joined (item t ts) u = ap (item t) (more_joined ts u)

-- The items of a reversed list are the reversed items.
pub reversed_view : (vs : List Value) → items_view (reverse vs) ≡ reversed_items (items_view vs)
reversed_view [] = refl
reversed_view (v ∷ vs) =
    ap items_view (reverse-append (v ∷ []) vs)
    ∙ items_view-push (reverse vs) v
    ∙ more_joined (items_view (reverse vs)) (view v)
    ∙ ap (λ (ts : Items). joined_items ts (item (view v) no_items)) (reversed_view vs)
