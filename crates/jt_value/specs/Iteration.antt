-- The items of a value, as a loop or a filter visits them.
use Rattle.std.specs.Prelude.{ℕ, List, [], ◌∷◌, Result, Ok, Err}
use Rattle.std.specs.Char.{encode_utf8}
use Rattle.std.specs.Str.{chars}
use Rattle.jt_value.specs.Tree.{Tree, undefined, text, markup, list, map, Items, no_items, item, Entries, no_entries}
use Rattle.jt_value.specs.Tree.{entry}
use Rattle.jt_value.specs.declared.fault.Fault.{Fault}
use Rattle.jt_value.specs.declared.fault.Fault.TheVariants as fault

-- The items of a text: each character as a plain text.
abbrev pub character_items : List ℕ → Items
character_items [] = no_items
character_items (c ∷ cs) = item (text (encode_utf8 c)) (character_items cs)

-- The items of a map: the key of each entry as a plain text.
abbrev pub key_items : Entries → Items
key_items no_entries = no_items
key_items (entry k t es) = item (text k) (key_items es)

-- The items of a value:
-- - the items of a list;
-- - the keys of a map;
-- - the characters of a text, plain or markup;
-- - no items of undefined.
-- Any other value has the fault NotIterable.
abbrev pub items_of_tree : Tree → Result Items Fault
items_of_tree undefined = Ok no_items
items_of_tree (text bytes) = Ok (character_items (chars bytes))
items_of_tree (markup bytes) = Ok (character_items (chars bytes))
items_of_tree (list ts) = Ok ts
items_of_tree (map es) = Ok (key_items es)
items_of_tree t = Err fault.NotIterable
