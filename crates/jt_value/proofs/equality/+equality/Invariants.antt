use Rattle.std.proofs.Common.{◌≡◌, true, length, take, drop}
use Rattle.jt_value.specs.Entries.{entry_of, all_keys, keys, same_keys}
use Rattle.jt_value.specs.Equality.{equal, equal_items, equal_at}
use Rattle.jt_value.specs.internal.InOrder.{to_come}
use Rattle.jt_value.specs.Tree as tree
use Rattle.jt_value.specs.View.{items_view, entries_view}
use Rattle.jt_value.proofs.KeyOrder.{alike}
use Rattle.jt_value.proofs.equality.+equality.Given as goal

abbrev pub invariant-are_equal_in_order-loop-key : goal.invariant-are_equal_in_order-loop-key
invariant-are_equal_in_order-loop-key l = record {
  entries : entries_view l.entries.entries.now ≡ l.map;
  rest : alike (to_come l.entries) (to_come l.others) ≡ equal (tree.map l.map) (tree.map l.other);
}

abbrev pub decreases-are_equal_in_order-loop-key : goal.decreases-are_equal_in_order-loop-key
decreases-are_equal_in_order-loop-key l = length (keys (to_come l.entries))

abbrev pub invariant-are_first_values_equal-loop-key : goal.invariant-are_first_values_equal-loop-key
invariant-are_first_values_equal-loop-key l = record {
  index : l.index ≡ l.key-index;
  entries : entries_view l.entries ≡ l.map;
  so_far : all_keys (λ k. equal_at l.map k (entry_of k l.other)) (entries_view (take l.key-index l.entries)) ≡ true;
}

abbrev pub invariant-are_items_equal-loop-item : goal.invariant-are_items_equal-loop-item
invariant-are_items_equal-loop-item l = record {
  index : l.index ≡ l.item-index;
  lengths : length l.items ≡ length l.others;
  rest : equal_items (items_view l.items) (items_view l.others)
      ≡ equal_items (items_view (drop l.item-index l.items)) (items_view (drop l.item-index l.others));
}

abbrev pub invariant-are_values_equal_in_place-loop-key : goal.invariant-are_values_equal_in_place-loop-key
invariant-are_values_equal_in_place-loop-key l = record {
  index : l.index ≡ l.key-index;
  entries : entries_view l.entries ≡ l.map;
  same_keys : same_keys l.map (entries_view l.others) ≡ true;
  so_far : all_keys (λ k. equal_at l.map k (entry_of k (entries_view l.others)))
      (entries_view (take l.key-index l.entries))
      ≡ true;
}
