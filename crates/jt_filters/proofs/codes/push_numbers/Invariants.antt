use Rattle.std.proofs.Common.{◌≡◌, ◌++◌}
use Rattle.jt_value.specs.ListItems.{numbers_of, items_count}
use Rattle.jt_filters.specs.internal.Codes.{items_code}
use Rattle.jt_filters.proofs.codes.push_numbers.Given as goal

abbrev pub invariant-loop-number : goal.invariant-loop-number
invariant-loop-number l =
    l.bytes.items ++ items_code (numbers_of l.rest) ≡ l.initial.bytes.items ++ items_code (numbers_of l.fn.numbers)

abbrev pub decreases-loop-number : goal.decreases-loop-number
decreases-loop-number l = items_count (numbers_of l.rest)
