use Rattle.std.proofs.Common.{◌≡◌, drop}
use Rattle.jt_value.specs.Equality.{equal_items}
use Rattle.jt_value.specs.ListItems.{numbers_of}
use Rattle.jt_value.specs.View.{items_view}
use Rattle.jt_value.proofs.equality.are_numbers.Given as goal

abbrev pub invariant-loop-value : goal.invariant-loop-value
invariant-loop-value l =
    equal_items (numbers_of l.fn.numbers) (items_view l.values)
    ≡ equal_items (numbers_of l.rest) (items_view (drop l.value-index l.values))
