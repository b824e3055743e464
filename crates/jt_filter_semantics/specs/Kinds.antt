-- The kinds of items that filters accept.
use Rattle.std.specs.Prelude.{Bool, true, false, ◌||◌, ◌&&◌, if◌then◌else◌}
use Rattle.jt_value.specs.declared.fault.Fault.{Fault}
use Rattle.jt_value.specs.declared.fault.Fault.TheVariants as fault
use Rattle.jt_value.specs.Tree.{Tree, text, Items, no_items, item}
use Rattle.jt_op_semantics.specs.Testing.{is_number, is_undefined}

-- True if the value is a plain text.
abbrev pub is_plain : Tree → Bool
is_plain (text s) = true
is_plain t = false

-- True if each item passes the test.
abbrev pub all_items : (Tree → Bool) → Items → Bool
all_items test no_items = true
all_items test (item t ts) = test t && all_items test ts

abbrev pub all_numbers : Items → Bool
all_numbers ts = all_items is_number ts

abbrev pub all_plain : Items → Bool
all_plain ts = all_items is_plain ts

abbrev pub has_undefined : Items → Bool
has_undefined no_items = false
has_undefined (item t ts) = is_undefined t || has_undefined ts

-- True if the items can be ordered: all are numbers, or all are plain texts.
abbrev pub have_order : Items → Bool
have_order ts = all_numbers ts || all_plain ts

-- The fault of items that a filter does not accept: Undefined if one of them is undefined, else
-- BadType.
abbrev pub operand_fault_of_items : Items → Fault
operand_fault_of_items ts = if has_undefined ts then fault.Undefined else fault.BadType
