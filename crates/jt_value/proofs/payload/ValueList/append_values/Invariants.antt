use Rattle.std.proofs.Common.{◌≡◌, take}
use Rattle.jt_value.specs.Payload.{joined_items}
use Rattle.jt_value.specs.View.{items_view}
use Rattle.jt_value.proofs.payload.ValueList.append_values.Given as goal

abbrev pub invariant-loop-item : goal.invariant-loop-item
invariant-loop-item l = l.self ≡ joined_items l.fn.self (items_view (take l.item-index l.more))
