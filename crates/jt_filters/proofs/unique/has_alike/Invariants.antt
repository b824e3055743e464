use Rattle.std.proofs.Common.{◌≡◌}
use Rattle.jt_op_semantics.specs.ItemOf.{items_count}
use Rattle.jt_filters.specs.internal.Operands.{tree_of, items_in, front}
use Rattle.jt_filter_semantics.specs.Ordering.{has_alike}
use Rattle.jt_filters.proofs.unique.has_alike.Given as goal

abbrev pub invariant-loop-other : goal.invariant-loop-other
invariant-loop-other l =
    has_alike (tree_of l.item) (front l.left (items_in l.items))
    ≡ has_alike (tree_of l.item) (front l.initial.left (items_in l.initial.items))

abbrev pub decreases-loop-other : goal.decreases-loop-other
decreases-loop-other l = items_count (items_in l.items)
