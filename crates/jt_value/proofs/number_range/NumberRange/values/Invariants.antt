use Rattle.std.proofs.Common.{◌≡◌}
use Rattle.jt_value.specs.ListItems.{numbers_of, items_count}
use Rattle.jt_value.specs.Payload.{joined_items}
use Rattle.jt_value.specs.View.{items_view}
use Rattle.jt_value.proofs.number_range.NumberRange.values.Given as goal

abbrev pub invariant-loop-number : goal.invariant-loop-number
invariant-loop-number l = joined_items (items_view l.values.items) (numbers_of l.rest) ≡ numbers_of l.fn.self

abbrev pub decreases-loop-number : goal.decreases-loop-number
decreases-loop-number l = items_count (numbers_of l.rest)
