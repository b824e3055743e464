-- How a list is stored.
use Rattle.std.specs.Prelude.{◌≡◌, List, [], ◌⊎◌}
use Rattle.jt_value.specs.ListItems.{numbers_of}
use Rattle.jt_value.specs.Tree.{no_items}
use Rattle.jt_value.specs.declared.number_range.NumberRange.{NumberRange}
use Rattle.jt_value.specs.declared.value.Value.{Value}

-- Holds if a list stores values or the numbers of a range, and not both.
abbrev pub IsOneOf : List Value → NumberRange → Type 0
IsOneOf vs range = (vs ≡ []) ⊎ (numbers_of range ≡ no_items)
