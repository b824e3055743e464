-- The invariants of lists and maps: they store their size and nesting, and maps also the search for
-- their keys.
use Rattle.std.specs.Prelude.{◌≡◌, ◌+◌, ◌-◌, ◌^◌, min}
use Rattle.jt_value.specs.Tree.{Items, Entries, items_size, items_nesting, entries_size, entries_nesting}
use Rattle.jt_value.specs.KeySearch.{Finds}
use Rattle.jt_value.specs.ListItems.{numbers_of}
use Rattle.jt_value.specs.Payload.{joined_items}
use Rattle.jt_value.specs.View.{items_view, entries_view}
use Rattle.jt_value.specs.Stored.{IsOneOf}
use Rattle.jt_value.specs.declared.payload.ValueList.TheInside as list
use Rattle.jt_value.specs.declared.payload.ValueMap.TheInside as map

-- The items of a list: its values, followed by the numbers that are not stored.
abbrev pub list_view : list.Inside → Items
list_view inside = joined_items (items_view inside.values.items) (numbers_of inside.numbers)

abbrev pub IsMeasuredList : list.Inside → Type 0
IsMeasuredList inside =
    IsOneOf inside.values.items inside.numbers
    × (inside.size ≡ min (1 + items_size (list_view inside)) (2 ^ 64 - 1))
    × (inside.nesting ≡ min (1 + items_nesting (list_view inside)) (2 ^ 32 - 1))

abbrev pub map_view : map.Inside → Entries
map_view inside = entries_view inside.entries.items

abbrev pub IsMeasuredMap : map.Inside → Type 0
IsMeasuredMap inside =
    (inside.size ≡ min (1 + entries_size (map_view inside)) (2 ^ 64 - 1))
    × (inside.nesting ≡ min (1 + entries_nesting (map_view inside)) (2 ^ 32 - 1))
    × Finds inside.search (map_view inside)
