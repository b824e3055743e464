use Rattle.std.proofs.Common.{◌≡◌, string_bytes}
use Rattle.jt_op_semantics.specs.ItemOf.{items_count}
use Rattle.jt_ops.specs.Pieces.{written}
use Rattle.jt_filters.specs.internal.JoinedTexts.{led_text}
use Rattle.jt_filters.specs.internal.Operands.{items_in}
use Rattle.jt_filters.proofs.joining.append_led.Given as goal

abbrev pub invariant-loop-item : goal.invariant-loop-item
invariant-loop-item l =
    led_text l.escaping (string_bytes l.into) (written l.between) (items_in l.items)
    ≡ led_text l.escaping (string_bytes l.initial.into) (written l.between) (items_in l.initial.items)

abbrev pub decreases-loop-item : goal.decreases-loop-item
decreases-loop-item l = items_count (items_in l.items)
