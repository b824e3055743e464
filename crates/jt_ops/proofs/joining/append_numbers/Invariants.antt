use Rattle.std.proofs.Common.{◌≡◌}
use Rattle.jt_value.specs.ListItems.{numbers_of, items_count}
use Rattle.jt_value.specs.Payload.{joined_items}
use Rattle.jt_value.specs.View.{items_view}
use Rattle.jt_ops.proofs.joining.append_numbers.Given as goal

abbrev pub invariant-loop-number : goal.invariant-loop-number
invariant-loop-number l =
    joined_items (items_view l.into.items) (numbers_of l.rest)
    ≡ joined_items (items_view l.fn.into.items) (numbers_of l.fn.numbers)

abbrev pub decreases-loop-number : goal.decreases-loop-number
decreases-loop-number l = items_count (numbers_of l.rest)
