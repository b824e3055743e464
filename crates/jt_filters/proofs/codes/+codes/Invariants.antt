use Rattle.std.proofs.Common.{◌≡◌, ◌++◌, ◌≤◌, drop, length}
use Rattle.jt_value.specs.View.{items_view, entries_view}
use Rattle.jt_filters.specs.internal.Codes.{items_code, rows, rows_in}
use Rattle.jt_filters.proofs.codes.+codes.Given as goal

abbrev pub invariant-push_items-loop-item : goal.invariant-push_items-loop-item
invariant-push_items-loop-item l =
    l.bytes.items ++ items_code (items_view (drop l.item-index l.items))
    ≡ l.initial.bytes.items ++ items_code (items_view l.items)

abbrev pub invariant-rows_of-loop-left : goal.invariant-rows_of-loop-left
invariant-rows_of-loop-left l = record {
  inside : l.left ≤ length l.entries;
  same : rows_in l.rows.entries ≡ rows (entries_view (drop l.left l.entries));
}

abbrev pub decreases-rows_of-loop-left : goal.decreases-rows_of-loop-left
decreases-rows_of-loop-left l = l.left
