-- Items that count once, and the first n items of a list.
use Rattle.std.proofs.Common.{◌≡◌, ℕ, zero, suc, ◌+◌, ◌-◌, max, true, false, List, [], ◌∷◌, ◌++◌, Some, None}
use Rattle.std.proofs.Common.{refl, sym, ap, ◌∙◌}
use Rattle.std.proofs.Common.{arith, bytes_eq, rules}
use Rattle.jt_value.specs.Equality.{equal}
use Rattle.jt_value.specs.Payload.{text_of, joined_items}
use Rattle.jt_value.specs.Tree.{Tree, Items, no_items, item, size, nesting, items_size, items_nesting}
use Rattle.jt_value.specs.View.{view, items_view}
use Rattle.jt_value.specs.declared.value.Value.{Value}
use Rattle.jt_filters.proofs.ListAppend.{pushed, joined_joined}
use Rattle.jt_filters.specs.internal.Operands.{front}
use Rattle.jt_filter_semantics.specs.Ordering.{alike, fold, has_alike, unseen}

pub alike_texts : (t u : Tree) (r s : List ℕ) → Some r ≡ text_of t → Some s ≡ text_of u
    → alike t u ≡ bytes_eq (fold r) (fold s)
alike_texts t u r s a4 a5 = search (arith, rules)

pub first_no_text : (t u : Tree) → None ≡ text_of t → alike t u ≡ equal t u
first_no_text t u a2 = search (arith, rules)

pub second_no_text : (t u : Tree) → None ≡ text_of u → alike t u ≡ equal t u
second_no_text t u a2 = search (arith, rules)

pub front_none : (n : ℕ) → front n no_items ≡ no_items
front_none zero = refl
front_none (suc n) = refl

pub front_more : (n : ℕ) (u : Tree) (us : Items) → ¬ (n ≡ 0) → front n (item u us) ≡ item u (front (n - 1) us)
front_more zero u us some = absurd (some refl)
front_more (suc n) u us some = let e : n ≡ suc n - 1 = omega arith in ap (λ (k : ℕ). item u (front k us)) e

same_first : (t u : Tree) (rest us : Items) → item t rest ≡ item u us → item u no_items ≡ item t no_items
same_first t u rest us e = cc

same_rest : (t u : Tree) (rest us : Items) → item t rest ≡ item u us → rest ≡ us
same_rest t u rest us e = cc

not_none : (t : Tree) (rest : Items) → item t rest ≡ no_items → ⊥
not_none t rest e = cc

front_suc : (all : Items) (n : ℕ) (t : Tree) (rest : Items) → joined_items (front n all) (item t rest) ≡ all
    → front (suc n) all ≡ joined_items (front n all) (item t no_items)
front_suc no_items zero t rest e = absurd (not_none t rest e)
front_suc no_items (suc n) t rest e = absurd (not_none t rest e)
front_suc (item u us) zero t rest e = same_first t u rest us e
front_suc (item u us) (suc n) t rest e = ap (item u) (front_suc us n t rest (same_rest u u _ us e))

-- The first n + 1 items are the first n items and the next one.
pub front_next : (all : Items) (n : ℕ) (t : Tree) (rest : Items) → joined_items (front n all) (item t rest) ≡ all
    → front (n + 1) all ≡ joined_items (front n all) (item t no_items)
front_next all n t rest e =
    let m : n + 1 ≡ suc n = omega arith in ap (λ (k : ℕ). front k all) m ∙ front_suc all n t rest e

pub whole_next : (all : Items) (n : ℕ) (t : Tree) (rest : Items) → joined_items (front n all) (item t rest) ≡ all
    → joined_items (front (n + 1) all) rest ≡ all
whole_next all n t rest e =
    ap (λ (ts : Items). joined_items ts rest) (front_next all n t rest e)
    ∙ joined_joined (front n all) (item t no_items) rest ∙ e

-- A step over an item that is dropped, or kept.
pub unseen_left : (all : Items) (n : ℕ) (t : Tree) (rest : Items) → joined_items (front n all) (item t rest) ≡ all
    → has_alike t (front n all) ≡ true
    → unseen (front n all) (item t rest) ≡ unseen (front (n + 1) all) rest
unseen_left all n t rest e old = search (arith, rules, front_next)

pub unseen_kept : (all : Items) (n : ℕ) (t : Tree) (rest : Items) → joined_items (front n all) (item t rest) ≡ all
    → has_alike t (front n all) ≡ false
    → unseen (front n all) (item t rest) ≡ item t (unseen (front (n + 1) all) rest)
unseen_kept all n t rest e new = search (arith, rules, front_next)

pub left_size : (all : Items) (n : ℕ) (t : Tree) (rest : Items) → joined_items (front n all) (item t rest) ≡ all
    → has_alike t (front n all) ≡ true
    → items_size (unseen (front n all) (item t rest)) ≡ items_size (unseen (front (n + 1) all) rest)
left_size all n t rest e old = ap items_size (unseen_left all n t rest e old)

pub kept_size : (all : Items) (n : ℕ) (t : Tree) (rest : Items) → joined_items (front n all) (item t rest) ≡ all
    → has_alike t (front n all) ≡ false
    → items_size (unseen (front n all) (item t rest)) ≡ size t + items_size (unseen (front (n + 1) all) rest)
kept_size all n t rest e new = ap items_size (unseen_kept all n t rest e new)

pub left_nesting : (all : Items) (n : ℕ) (t : Tree) (rest : Items) → joined_items (front n all) (item t rest) ≡ all
    → has_alike t (front n all) ≡ true
    → items_nesting (unseen (front n all) (item t rest)) ≡ items_nesting (unseen (front (n + 1) all) rest)
left_nesting all n t rest e old = ap items_nesting (unseen_left all n t rest e old)

pub kept_nesting : (all : Items) (n : ℕ) (t : Tree) (rest : Items) → joined_items (front n all) (item t rest) ≡ all
    → has_alike t (front n all) ≡ false
    → items_nesting (unseen (front n all) (item t rest))
    ≡ max (nesting t) (items_nesting (unseen (front (n + 1) all) rest))
kept_nesting all n t rest e new = ap items_nesting (unseen_kept all n t rest e new)

pub values_left : (all : Items) (n : ℕ) (t : Tree) (rest : Items) (before : Items)
    → joined_items (front n all) (item t rest) ≡ all → has_alike t (front n all) ≡ true
    → joined_items before (unseen (front (n + 1) all) rest) ≡ joined_items before (unseen (front n all) (item t rest))
values_left all n t rest before e old =
    ap (λ (ts : Items). joined_items before ts) (sym (unseen_left all n t rest e old))

pub values_kept : (all : Items) (n : ℕ) (t : Tree) (rest : Items) (before after : List Value) (v : Value)
    → joined_items (front n all) (item t rest) ≡ all → has_alike t (front n all) ≡ false
    → after ≡ before ++ v ∷ [] → view v ≡ t
    → joined_items (items_view after) (unseen (front (n + 1) all) rest)
    ≡ joined_items (items_view before) (unseen (front n all) (item t rest))
values_kept all n t rest before after v e new is same =
    pushed before after v t (unseen (front (n + 1) all) rest) is same
    ∙ ap (λ (ts : Items). joined_items (items_view before) ts) (sym (unseen_kept all n t rest e new))

pub ruleset unseen_values = (values_left, values_kept)

pub ruleset item_measures = (left_size, kept_size, left_nesting, kept_nesting)

pub ruleset fronts = (front_more, front_none)

pub ruleset likenesses = (alike_texts, first_no_text, second_no_text)
