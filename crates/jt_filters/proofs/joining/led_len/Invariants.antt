use Rattle.std.proofs.Common.{◌≡◌}
use Rattle.jt_op_semantics.specs.ItemOf.{items_count}
use Rattle.jt_filters.specs.internal.Operands.{items_in}
use Rattle.jt_filters.specs.internal.Operands.{led_length}
use Rattle.jt_filters.proofs.joining.led_len.Given as goal

abbrev pub invariant-loop-item : goal.invariant-loop-item
invariant-loop-item l =
    led_length l.escaping l.total l.between (items_in l.items)
    ≡ led_length l.escaping l.initial.total l.between (items_in l.initial.items)

abbrev pub decreases-loop-item : goal.decreases-loop-item
decreases-loop-item l = items_count (items_in l.items)
