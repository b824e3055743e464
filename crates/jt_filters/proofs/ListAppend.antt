-- Items with one more at the end.
use Rattle.std.proofs.lemmas.List.{at_drop_more, at_drop_all}
use Rattle.std.proofs.Common.{◌≡◌, ℕ, ◌+◌, ◌<◌, ◌≤◌, List, [], ◌∷◌, ◌++◌, length, drop, get_or, refl, sym, ap, ◌∙◌}
use Rattle.std.proofs.Common.{arith, rules}
use Rattle.jt_value.specs.Tree.{Tree, Items, no_items, item}
use Rattle.jt_value.specs.View.{view, items_view}
use Rattle.jt_value.specs.declared.value.Value.{Value}
use Rattle.jt_value.specs.Payload.{more_items}
use Rattle.jt_value.proofs.Lists.{items_view-push, joined_none}
use Rattle.jt_value.specs.Payload.{joined_items}

-- Items with one more at the end and then the rest are the items and then that one with the rest.
pub joined_pushed : (ts us : Items) (u : Tree) → joined_items (more_items ts u) us ≡ joined_items ts (item u us)
joined_pushed no_items us u = refl
joined_pushed (item t ts) us u = ap (item t) (joined_pushed ts us u)

pub pushed : (before after : List Value) (v : Value) (u : Tree) (us : Items) → after ≡ before ++ v ∷ [] → view v ≡ u
    → joined_items (items_view after) us ≡ joined_items (items_view before) (item u us)
pushed before after v u us is same = search (arith, rules, items_view-push, joined_pushed)

pub joined_joined : (ts us vs : Items) → joined_items (joined_items ts us) vs ≡ joined_items ts (joined_items us vs)
joined_joined no_items us vs = refl
joined_joined (item t ts) us vs = ap (item t) (joined_joined ts us vs)

-- A step of a loop that makes one item of each element of a list.
pub made_more : {X : Type 0} (F : List X → Items) (before after : List Value) (v : Value) (xs : List X) (i : ℕ) (x : X)
    (u : Tree) (all : Items)
    → i < length xs → x ≡ get_or xs i x → after ≡ before ++ v ∷ [] → view v ≡ u
    → F (x ∷ drop (i + 1) xs) ≡ item u (F (drop (i + 1) xs))
    → joined_items (items_view before) (F (drop i xs)) ≡ all
    → joined_items (items_view after) (F (drop (i + 1) xs)) ≡ all
made_more {X} F before after v xs i x u all inside at is same one inv =
    pushed before after v u (F (drop (i + 1) xs)) is same
    ∙ ap (λ (ts : Items). joined_items (items_view before) ts)
    (sym one ∙ ap (λ (y : X). F (y ∷ drop (i + 1) xs)) at ∙ sym (at_drop_more F xs i x inside))
    ∙ inv

-- The end of a loop that makes one item of each element of a list.
pub made_all : {X : Type 0} (F : List X → Items) (before : List Value) (xs : List X) (i : ℕ) (all : Items)
    → length xs ≤ i → F [] ≡ no_items → joined_items (items_view before) (F (drop i xs)) ≡ all → items_view before ≡ all
made_all F before xs i all past none inv =
    sym (joined_none (items_view before))
    ∙ ap (λ (ts : Items). joined_items (items_view before) ts) (sym none ∙ sym (at_drop_all F xs i past))
    ∙ inv
