use Rattle.std.proofs.Common.{◌≡◌}
use Rattle.jt_op_semantics.specs.ItemOf.{items_count}
use Rattle.jt_filters.specs.internal.Operands.{tree_of, items_in}
use Rattle.jt_filter_semantics.specs.Ordering.{best_of, comes_first}
use Rattle.jt_filters.proofs.scalars.best_of.Given as goal

abbrev pub invariant-loop-item : goal.invariant-loop-item
invariant-loop-item l =
    best_of (comes_first l.reverse) (tree_of l.best) (items_in l.items)
    ≡ best_of (comes_first l.reverse) (tree_of l.initial.best) (items_in l.initial.items)

abbrev pub decreases-loop-item : goal.decreases-loop-item
decreases-loop-item l = items_count (items_in l.items)
