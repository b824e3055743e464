use Rattle.std.proofs.Common.{◌≡◌}
use Rattle.jt_op_semantics.specs.ItemOf.{items_count}
use Rattle.jt_escape.specs.Joining.{has_markup}
use Rattle.jt_filters.specs.internal.Operands.{items_in}
use Rattle.jt_filters.proofs.joining.has_markup_item.Given as goal

abbrev pub invariant-loop-item : goal.invariant-loop-item
invariant-loop-item l = has_markup (items_in l.items) ≡ has_markup (items_in l.initial.items)

abbrev pub decreases-loop-item : goal.decreases-loop-item
decreases-loop-item l = items_count (items_in l.items)
