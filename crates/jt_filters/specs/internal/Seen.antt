-- Definitions for the contracts of private functions: the items that filter `unique` has seen.
use Rattle.std.specs.Prelude.{◌≡◌, ℕ, ℤ, ◌+◌, Bool, true, List, Option, Some, None, Vec}
use Rattle.std.specs.declared.alloc.Global.{Global}
use Rattle.std.specs.BTreeMap.{BTreeMap, get_by}
use Rattle.std.specs.Cmp.Lexicographic.{slice_cmp}
use Rattle.std.specs.Option.{IsSome, IfSome}
use Rattle.std.specs.Ordering.{nat_cmp}
use Rattle.jt_value.specs.Equality.{truth_number}
use Rattle.jt_value.specs.Payload.{joined_items}
use Rattle.jt_value.specs.Tree.{Tree, truth_value, number, Items, item}
use Rattle.jt_filters.specs.declared.unique.SeenKeys.{SeenKeys}
use Rattle.jt_filters.specs.declared.operand.Operand.{Operand}
use Rattle.jt_filters.specs.internal.Codes.{item_code}
use Rattle.jt_filters.specs.declared.seen_numbers.SeenNumbers.{SeenNumbers}
use Rattle.jt_filters.specs.internal.Operands.{tree_of, front}
use Rattle.jt_filters.specs.internal.NumberEntries.{was_seen}
use Rattle.jt_filter_semantics.specs.Ordering.{alike, has_alike, unseen}

-- The item that is stored for a code.
abbrev pub found : BTreeMap (Vec ℕ Global) Operand → List ℕ → Option Operand
found m c = get_by (λ k. slice_cmp nat_cmp c k.items) m

-- The number that a value equals, if any: its own, or 0 or 1 for a truth value.
abbrev pub number_like : Tree → Option ℤ
number_like (truth_value b) = Some (truth_number b)
number_like (number z) = Some z
number_like t = None

-- True if a number was seen.
abbrev pub has_number : SeenNumbers → ℤ → Bool
has_number s z = was_seen s.entries.items z

-- The seen numbers know some items if they are exactly the numbers that are like one of them.
abbrev pub KnowsNumbers : SeenNumbers → Items → Type 0
KnowsNumbers s ts = (z : ℤ) → has_number s z ≡ has_alike (number z) ts

-- A map of codes knows some items. If an item that equals no number is like one of them, the map
-- has its code. If an item is like the one stored for a code, it is like one of them.
pub record KnowsCodes (m : BTreeMap (Vec ℕ Global) Operand) (ts : Items) : Type 0 where
  pub coded : (t : Tree) → number_like t ≡ None → has_alike t ts ≡ true → IsSome (found m (item_code t))
  pub seen : (c : List ℕ) (t : Tree)
      → IfSome (found m c) (λ o. alike t (tree_of o) ≡ true → has_alike t ts ≡ true)

-- Holds if the numbers and the codes know some items.
abbrev pub Knows : SeenKeys → Items → Type 0
Knows seen ts = KnowsNumbers seen.numbers ts × KnowsCodes seen.codes ts

-- Holds if an item and the rest follow the first n items of `all`.
abbrev pub StandsAt : ℕ → Items → Tree → Items → Type 0
StandsAt n all t rest = joined_items (front n all) (item t rest) ≡ all

-- Holds if P relates the unseen items from an item on to the unseen items after it. The item
-- follows the first n items.
abbrev pub Before : ℕ → Items → Tree → (Items → Items → Type 0) → Type 0
Before n all t P =
    (rest : Items)
    → StandsAt n all t rest
    → P (unseen (front n all) (item t rest)) (unseen (front (n + 1) all) rest)

-- Holds if the map of codes knows an item and all items before it.
abbrev pub CodesKnowNext : BTreeMap (Vec ℕ Global) Operand → ℕ → Items → Tree → Type 0
CodesKnowNext m n all t = (rest : Items) → StandsAt n all t rest → KnowsCodes m (front (n + 1) all)

-- Holds if an item and all items before it are known.
abbrev pub KnowsNext : SeenKeys → ℕ → Items → Tree → Type 0
KnowsNext seen n all t = (rest : Items) → StandsAt n all t rest → Knows seen (front (n + 1) all)
