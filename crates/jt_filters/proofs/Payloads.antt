-- The items of a value, by its kind.
use Rattle.jt_op_semantics.specs.ItemOf.{items_count}
use Rattle.std.proofs.Common.{◌≡◌, ℕ, List, [], ◌∷◌, length}
use Rattle.std.proofs.Common.{Some, refl, ap, ◌∙◌, arith, rules}
use Rattle.std.specs.Prelude.{Ok}
use Rattle.jt_value.proofs.Lists.{Pair}
use Rattle.jt_value.specs.View.{entries_view}
use Rattle.jt_ops.proofs.Places.{items_count_view}
use Rattle.jt_filter_semantics.specs.Listing.{length_of, counted, entries_count, on_items, listed}
use Rattle.jt_value.specs.Tree as tree
use Rattle.jt_value.specs.Tree.{Tree, Items, Entries}
use Rattle.jt_value.specs.Iteration.{character_items, key_items}
use Rattle.jt_value.specs.Payload.{items_of_list, entries_of_map}
use Rattle.jt_filters.specs.declared.operand.Operand.{Operand}
use Rattle.jt_filters.specs.internal.Operands.{operand_items}

pub list_is : (t : Tree) (ts : Items) → Some ts ≡ items_of_list t → t ≡ tree.list ts
list_is t ts a2 = search (arith, rules)

pub list_listed : (t : Tree) (ts : Items) → Some ts ≡ items_of_list t → Ok t ≡ on_items listed t
list_listed t ts a2 = search (arith, rules)

pub map_is : (t : Tree) (es : Entries) → Some es ≡ entries_of_map t → t ≡ tree.map es
map_is t es a2 = search (arith, rules)

pub length_of_a_list : (t : Tree) (ts : Items) → Some ts ≡ items_of_list t → length_of t ≡ counted (items_count ts)
length_of_a_list t ts e = ap length_of (list_is t ts e)

entries_count_view : (es : List Pair) → entries_count (entries_view es) ≡ length es
entries_count_view [] = refl
entries_count_view (e ∷ es) = omega (arith, entries_count_view es)

pub length_of_a_map : (t : Tree) (es : List Pair) → Some (entries_view es) ≡ entries_of_map t
    → length_of t ≡ counted (length es)
length_of_a_map t es e = ap length_of (map_is t _ e) ∙ ap counted (entries_count_view es)

pub characters_count : (cs : List ℕ) → items_count (character_items cs) ≡ length cs
characters_count [] = refl
characters_count (c ∷ cs) = omega (arith, characters_count cs)

pub keys_count : (es : List Pair) → items_count (key_items (entries_view es)) ≡ length es
keys_count [] = refl
keys_count (e ∷ es) = omega (arith, keys_count es)

pub operands_count : (os : List Operand) → items_count (operand_items os) ≡ length os
operands_count [] = refl
operands_count (o ∷ os) = omega (arith, operands_count os)

pub ruleset item_counts = (items_count_view, characters_count, keys_count, operands_count)
