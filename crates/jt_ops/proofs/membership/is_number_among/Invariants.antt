use Rattle.std.proofs.Common.{◌≡◌}
use Rattle.jt_value.specs.ListItems.{numbers_of, items_count}
use Rattle.jt_value.specs.View.{view}
use Rattle.jt_op_semantics.specs.Membership.{has_item}
use Rattle.jt_ops.proofs.membership.is_number_among.Given as goal

abbrev pub invariant-loop-number : goal.invariant-loop-number
invariant-loop-number l =
    has_item (view l.value) (numbers_of l.fn.numbers) ≡ has_item (view l.value) (numbers_of l.rest)

abbrev pub decreases-loop-number : goal.decreases-loop-number
decreases-loop-number l = items_count (numbers_of l.rest)
