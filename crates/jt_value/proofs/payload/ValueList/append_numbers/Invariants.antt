use Rattle.std.proofs.Common.{◌≡◌}
use Rattle.jt_value.specs.ListItems.{numbers_of, items_count}
use Rattle.jt_value.specs.Payload.{joined_items}
use Rattle.jt_value.proofs.payload.ValueList.append_numbers.Given as goal

abbrev pub invariant-loop-number : goal.invariant-loop-number
invariant-loop-number l = joined_items l.self (numbers_of l.rest) ≡ joined_items l.fn.self (numbers_of l.fn.more)

abbrev pub decreases-loop-number : goal.decreases-loop-number
decreases-loop-number l = items_count (numbers_of l.rest)
