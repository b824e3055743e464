use Rattle.std.proofs.Common.{◌≡◌, ◌+◌, ◌-◌, ◌^◌, ◌≤◌, min, max}
use Rattle.jt_value.specs.Payload.{joined_items}
use Rattle.jt_value.specs.Tree.{no_items, items_size, items_nesting}
use Rattle.jt_op_semantics.specs.ItemOf.{items_count}
use Rattle.jt_filters.specs.internal.Operands.{items_in, front}
use Rattle.jt_filter_semantics.specs.Ordering.{unseen}
use Rattle.jt_filters.proofs.unique.unseen_measure.Given as goal

abbrev pub invariant-loop-item : goal.invariant-loop-item
invariant-loop-item l = record {
  size_fits : l.size ≤ 2 ^ 64 - 1;
  nesting_fits : l.nesting ≤ 2 ^ 32 - 1;
  left : l.left ≡ items_count (items_in l.items);
  inside : l.left ≤ l.total;
  whole : joined_items (front (l.total - l.left) (items_in l.all)) (items_in l.items) ≡ items_in l.all;
  size : min (l.size + items_size (unseen (front (l.total - l.left) (items_in l.all)) (items_in l.items))) (2 ^ 64 - 1)
      ≡ min (items_size (unseen no_items (items_in l.all))) (2 ^ 64 - 1);
  nesting : min (max l.nesting (items_nesting (unseen (front (l.total - l.left) (items_in l.all)) (items_in l.items))))
      (2 ^ 32 - 1)
      ≡ min (items_nesting (unseen no_items (items_in l.all))) (2 ^ 32 - 1);
}

abbrev pub decreases-loop-item : goal.decreases-loop-item
decreases-loop-item l = items_count (items_in l.items)
