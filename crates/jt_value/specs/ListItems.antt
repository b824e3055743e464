-- The items of a list, which are values or the numbers of a range.
use Rattle.std.specs.Prelude.{ℕ, zero, suc, ◌+◌, Option, Some, None}
use Rattle.jt_value.specs.Numbers.{stepped}
use Rattle.jt_value.specs.Tree.{Tree, Items, no_items, item}
use Rattle.jt_value.specs.View.{items_view}
use Rattle.jt_value.specs.declared.number_range.NumberRange.{NumberRange}
use Rattle.jt_value.specs.declared.list_items.ListItems.{ListItems}
use Rattle.jt_value.specs.declared.list_items.ListItems.TheVariants as items

-- The numbers of a range, as items.
abbrev pub numbers_of : NumberRange → Items
numbers_of range = stepped range.count range.first range.step

-- The items, in order.
abbrev pub listed : ListItems → Items
listed (items.Values vs) = items_view vs.now
listed (items.Numbers range) = numbers_of range

-- The number of items.
abbrev pub items_count : Items → ℕ
items_count no_items = 0
items_count (item t ts) = items_count ts + 1

-- The item at an index from 0, if it exists.
abbrev pub item_at : Items → ℕ → Option Tree
item_at no_items i = None
item_at (item t ts) zero = Some t
item_at (item t ts) (suc i) = item_at ts i
