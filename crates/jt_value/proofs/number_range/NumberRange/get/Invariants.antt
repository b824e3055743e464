use Rattle.std.proofs.Common.{◌≡◌}
use Rattle.jt_value.specs.ListItems.{numbers_of, items_count, item_at}
use Rattle.jt_value.proofs.number_range.NumberRange.get.Given as goal

abbrev pub invariant-loop-number : goal.invariant-loop-number
invariant-loop-number l = item_at (numbers_of l.fn.self) l.fn.index ≡ item_at (numbers_of l.rest) l.before

abbrev pub decreases-loop-number : goal.decreases-loop-number
decreases-loop-number l = items_count (numbers_of l.rest)
