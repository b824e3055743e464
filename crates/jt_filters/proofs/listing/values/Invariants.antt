use Rattle.std.proofs.Common.{◌≡◌}
use Rattle.jt_value.specs.Payload.{joined_items}
use Rattle.jt_value.specs.View.{items_view}
use Rattle.jt_op_semantics.specs.ItemOf.{items_count}
use Rattle.jt_filters.specs.internal.Operands.{items_in}
use Rattle.jt_filters.proofs.listing.values.Given as goal

abbrev pub invariant-loop-item : goal.invariant-loop-item
invariant-loop-item l = joined_items (items_view l.values.items) (items_in l.items) ≡ items_in l.initial.items

abbrev pub decreases-loop-item : goal.decreases-loop-item
decreases-loop-item l = items_count (items_in l.items)
