-- Definitions for the contracts of private functions: the numbers of a list are stored.
use Rattle.std.specs.Prelude.{◌≡◌, List}
use Rattle.jt_value.specs.ListItems.{numbers_of}
use Rattle.jt_value.specs.Payload.{joined_items}
use Rattle.jt_value.specs.Tree.{no_items}
use Rattle.jt_value.specs.View.{items_view}
use Rattle.jt_value.specs.declared.number_range.NumberRange.{NumberRange}
use Rattle.jt_value.specs.declared.value.Value.{Value}

-- All items are values now, and they are what the values and the numbers were before.
pub record IsStored (before : List Value) (range : NumberRange) (after : List Value) (rest : NumberRange) : Type 0 where
  pub none : numbers_of rest ≡ no_items
  pub same : items_view after ≡ joined_items (items_view before) (numbers_of range)
