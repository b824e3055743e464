use Rattle.std.proofs.Common.{◌≡◌}
use Rattle.jt_value.specs.Equality.{equal_items}
use Rattle.jt_value.specs.ListItems.{numbers_of, items_count}
use Rattle.jt_value.proofs.equality.are_ranges_equal.Given as goal

abbrev pub invariant-loop-number : goal.invariant-loop-number
invariant-loop-number l =
    equal_items (numbers_of l.fn.numbers) (numbers_of l.fn.others)
    ≡ equal_items (numbers_of l.rest) (numbers_of l.others)

abbrev pub decreases-loop-number : goal.decreases-loop-number
decreases-loop-number l = items_count (numbers_of l.rest)
