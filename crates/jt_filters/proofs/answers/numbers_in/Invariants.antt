use Rattle.std.proofs.Common.{◌≤◌, drop, length}
use Rattle.jt_value.specs.View.{items_view}
use Rattle.jt_filters.specs.internal.Answers.{AreNumbers}
use Rattle.jt_filters.proofs.answers.numbers_in.Given as goal

abbrev pub invariant-loop-left : goal.invariant-loop-left
invariant-loop-left l = record {
  inside : l.left ≤ length l.list;
  known : AreNumbers (items_view (drop l.left l.list)) l.numbers.items;
}

abbrev pub decreases-loop-left : goal.decreases-loop-left
decreases-loop-left l = l.left
