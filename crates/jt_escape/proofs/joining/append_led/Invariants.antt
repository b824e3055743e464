use Rattle.std.proofs.Common.{◌≡◌, string_bytes, drop}
use Rattle.jt_value.specs.View.{items_view}
use Rattle.jt_escape.proofs.JoinSteps.{with_led}
use Rattle.jt_escape.proofs.joining.append_led.Given as goal

abbrev pub invariant-loop-item : goal.invariant-loop-item
invariant-loop-item l =
    with_led l.escaping l.between (string_bytes l.into) (items_view (drop l.item-index l.items))
    ≡ with_led l.escaping l.between (string_bytes l.initial.into) (items_view l.items)
