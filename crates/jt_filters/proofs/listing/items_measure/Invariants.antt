use Rattle.std.proofs.Common.{◌≡◌, ◌+◌, ◌-◌, ◌^◌, ◌≤◌, min, max}
use Rattle.jt_value.specs.Tree.{items_size, items_nesting}
use Rattle.jt_op_semantics.specs.ItemOf.{items_count}
use Rattle.jt_filters.specs.internal.Operands.{items_in}
use Rattle.jt_filters.proofs.listing.items_measure.Given as goal

abbrev pub invariant-loop-item : goal.invariant-loop-item
invariant-loop-item l = record {
  size_fits : l.size ≤ 2 ^ 64 - 1;
  nesting_fits : l.nesting ≤ 2 ^ 32 - 1;
  size : min (l.size + items_size (items_in l.items)) (2 ^ 64 - 1)
      ≡ min (items_size (items_in l.initial.items)) (2 ^ 64 - 1);
  nesting : min (max l.nesting (items_nesting (items_in l.items))) (2 ^ 32 - 1)
      ≡ min (items_nesting (items_in l.initial.items)) (2 ^ 32 - 1);
}

abbrev pub decreases-loop-item : goal.decreases-loop-item
decreases-loop-item l = items_count (items_in l.items)
