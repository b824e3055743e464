use Rattle.std.proofs.Common.{◌≤◌, drop, length}
use Rattle.jt_value.specs.View.{items_view}
use Rattle.jt_filters.specs.internal.IndicesOf.{Covers}
use Rattle.jt_filters.proofs.members.codes_of.Given as goal

abbrev pub invariant-loop-left : goal.invariant-loop-left
invariant-loop-left l = record {
  inside : l.left ≤ length l.items;
  known : Covers l.codes (items_view (drop l.left l.items));
}

abbrev pub decreases-loop-left : goal.decreases-loop-left
decreases-loop-left l = l.left
