use Rattle.std.proofs.Common.{◌≡◌}
use Rattle.jt_op_semantics.specs.ItemOf.{items_count}
use Rattle.jt_filters.specs.internal.Operands.{tree_of, items_in}
use Rattle.jt_filters.specs.internal.Operands.{last_of}
use Rattle.jt_filters.proofs.scalars.last_of.Given as goal

abbrev pub invariant-loop-item : goal.invariant-loop-item
invariant-loop-item l =
    last_of (tree_of l.last) (items_in l.items) ≡ last_of (tree_of l.initial.last) (items_in l.initial.items)

abbrev pub decreases-loop-item : goal.decreases-loop-item
decreases-loop-item l = items_count (items_in l.items)
