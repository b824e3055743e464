-- The contents of texts, lists and maps.
use Rattle.std.specs.Prelude.{ℕ, List, Option, Some, None, Bool, true, false}
use Rattle.jt_value.specs.Tree as tree
use Rattle.jt_value.specs.Tree.{Tree, Items, no_items, item, Entries}

-- The bytes of a text, plain or markup, if the value is one.
abbrev pub text_of : Tree → Option (List ℕ)
text_of (tree.text bytes) = Some bytes
text_of (tree.markup bytes) = Some bytes
text_of _ = None

-- The items of a list, if the value is one.
abbrev pub items_of_list : Tree → Option Items
items_of_list (tree.list ts) = Some ts
items_of_list _ = None

-- The entries of a map, if the value is one.
abbrev pub entries_of_map : Tree → Option Entries
entries_of_map (tree.map es) = Some es
entries_of_map _ = None

-- True if the value has a payload that its copies share.
abbrev pub has_payload : Tree → Bool
has_payload (tree.text bytes) = true
has_payload (tree.markup bytes) = true
has_payload (tree.list ts) = true
has_payload (tree.map es) = true
has_payload _ = false

-- The items followed by one more item.
abbrev pub more_items : Items → Tree → Items
more_items no_items u = item u no_items
more_items (item t ts) u = item t (more_items ts u)

-- The items of one list followed by the items of another list.
abbrev pub joined_items : Items → Items → Items
joined_items no_items us = us
joined_items (item t ts) us = item t (joined_items ts us)
