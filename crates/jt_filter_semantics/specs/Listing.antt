-- The filters on the items and the entries of a value.
use Rattle.std.specs.Prelude.{ℕ, false, true, ℤ, ◌+◌, pos, negsuc, Bool, List, length, Result, Ok, Err, if◌then◌else◌}
use Rattle.std.specs.Str.{chars}
use Rattle.jt_value.specs.declared.fault.Fault.{Fault}
use Rattle.jt_value.specs.Iteration.{key_items, items_of_tree}
use Rattle.jt_value.specs.Tree.{Tree, undefined, text, markup, list, map, Items, no_items, item, Entries, no_entries}
use Rattle.jt_value.specs.Tree.{entry}
use Rattle.jt_escape.specs.Joining.{joined_markup, joined_plain}
use Rattle.jt_op_semantics.specs.Arithmetic.{in_range, as_number}
use Rattle.jt_op_semantics.specs.ItemOf.{indexed_item, items_count, or_undefined}
use Rattle.jt_value.specs.Payload.{joined_items}
use Rattle.jt_op_semantics.specs.Operands.{operand_fault_of_one}
use Rattle.jt_filter_semantics.specs.Texts.{backwards}

-- The result of a filter on the items, or the fault if there are no items.
abbrev pub given : (Items → Result Tree Fault) → Result Items Fault → Result Tree Fault
given filter (Ok ts) = filter ts
given filter (Err fault) = Err fault

-- The result of a filter on the items of a value.
abbrev pub on_items : (Items → Result Tree Fault) → Tree → Result Tree Fault
on_items filter t = given filter (items_of_tree t)

-- The item that an index names, or undefined.
abbrev pub item_named : ℤ → Items → Result Tree Fault
item_named i ts = Ok (or_undefined (indexed_item ts i))

-- `first`: the first item, or undefined.
abbrev pub first_item : Items → Result Tree Fault
first_item ts = item_named (pos 0) ts

abbrev pub last_item : Items → Result Tree Fault
last_item ts = item_named (negsuc 0) ts

-- True if an index can name the items of the value.
abbrev pub has_places : Tree → Bool
has_places (text s) = true
has_places (markup s) = true
has_places (list ts) = true
has_places t = false

-- `list`: the list of the items.
abbrev pub listed : Items → Result Tree Fault
listed ts = Ok (list ts)

abbrev pub entries_count : Entries → ℕ
entries_count no_entries = 0
entries_count (entry k t es) = entries_count es + 1

-- The number that a count is, or the fault Overflow if it does not fit 64 signed bits.
abbrev pub counted : ℕ → Result Tree Fault
counted n = as_number (in_range (pos n))

-- `length`: the number of characters, items or entries. The length of undefined is 0.
abbrev pub length_of : Tree → Result Tree Fault
length_of undefined = counted 0
length_of (text s) = counted (length (chars s))
length_of (markup s) = counted (length (chars s))
length_of (list ts) = counted (items_count ts)
length_of (map es) = counted (entries_count es)
length_of t = Err (operand_fault_of_one t)

-- The items in reverse order.
abbrev pub reversed_items : Items → Items
reversed_items no_items = no_items
reversed_items (item t ts) = joined_items (reversed_items ts) (item t no_items)

-- `reverse`. The result for a text is the plain text of its characters in reverse order. The result
-- for a list, a map and undefined is the list of their items in reverse order.
abbrev pub reversed : Tree → Result Tree Fault
reversed undefined = Ok (list no_items)
reversed (text s) = Ok (text (backwards s))
reversed (markup s) = Ok (text (backwards s))
reversed (list ts) = Ok (list (reversed_items ts))
reversed (map es) = Ok (list (reversed_items (key_items es)))
reversed t = Err (operand_fault_of_one t)

-- The list of a key and its value.
abbrev pub pair : List ℕ → Tree → Tree
pair k t = list (item (text k) (item t no_items))

-- The items that `items` returns: each entry as a list of its key and its value.
abbrev pub pair_items : Entries → Items
pair_items no_entries = no_items
pair_items (entry k t es) = item (pair k t) (pair_items es)

-- `items`: the list of the entries, each as a list of its key and its value.
abbrev pub pairs_of : Tree → Result Tree Fault
pairs_of undefined = Ok (list no_items)
pairs_of (map es) = Ok (list (pair_items es))
pairs_of t = Err (operand_fault_of_one t)

-- `join` with a separator. Under autoescaping, if an item or the separator is markup, the result is
-- markup, and plain texts are escaped.
abbrev pub joined_by : Bool → Tree → Items → Result Tree Fault
joined_by autoescape separator ts = if autoescape then joined_markup ts separator else joined_plain ts separator
