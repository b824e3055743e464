use Rattle.std.proofs.Common.{◌≡◌, take}
use Rattle.jt_value.specs.View.{items_view}
use Rattle.jt_value.specs.Payload.{joined_items}
use Rattle.jt_ops.proofs.joining.append_copies.Given as goal

abbrev pub invariant-loop-item : goal.invariant-loop-item
invariant-loop-item l =
    items_view l.into.items ≡ joined_items (items_view l.initial.into.items) (items_view (take l.item-index l.items))
