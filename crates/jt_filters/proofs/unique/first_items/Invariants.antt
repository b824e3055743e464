use Rattle.std.proofs.Common.{◌≡◌, ◌-◌, ◌≤◌}
use Rattle.jt_value.specs.Payload.{joined_items}
use Rattle.jt_value.specs.Tree.{no_items}
use Rattle.jt_op_semantics.specs.ItemOf.{items_count}
use Rattle.jt_filters.specs.internal.Operands.{operand_items, items_in, front}
use Rattle.jt_filter_semantics.specs.Ordering.{unseen}
use Rattle.jt_filters.specs.internal.Seen.{Knows}
use Rattle.jt_filters.proofs.unique.first_items.Given as goal

abbrev pub invariant-loop-item : goal.invariant-loop-item
invariant-loop-item l = record {
  left : l.left ≡ items_count (items_in l.items);
  inside : l.left ≤ l.total;
  whole : joined_items (front (l.total - l.left) (items_in l.all)) (items_in l.items) ≡ items_in l.all;
  known : Knows l.met.seen (front (l.total - l.left) (items_in l.all));
  same : joined_items (operand_items l.met.firsts.items)
      (unseen (front (l.total - l.left) (items_in l.all)) (items_in l.items))
      ≡ unseen no_items (items_in l.all);
}

abbrev pub decreases-loop-item : goal.decreases-loop-item
decreases-loop-item l = items_count (items_in l.items)
