-- The item of a value: `v[k]`, and `v.k` with the text `k`.
use Rattle.std.specs.Prelude.{ℕ, ◌-◌, ℤ, pos, negsuc, List, length, nat_lt, if◌then◌else◌, Option, Some}
use Rattle.std.specs.Prelude.{None, option_map, Result, Ok, Err, slice_get, encode_utf8}
use Rattle.std.specs.Option.{option_and_then, unwrap_or}
use Rattle.std.specs.Str.{chars}
use Rattle.jt_value.specs.declared.fault.Fault.{Fault}
use Rattle.jt_value.specs.declared.fault.Fault.TheVariants.{Undefined}
use Rattle.jt_value.specs.Entries.{entry_of}
pub use Rattle.jt_value.specs.ListItems.{items_count, item_at}
use Rattle.jt_value.specs.Tree.{Tree, undefined, number, text, markup, list, map, Items}

-- The position that an index names among `count` items. The first item has index 0; a negative
-- index counts from the end, and the last item has index -1.
abbrev pub place : ℤ → ℕ → Option ℕ
place (pos i) count = if nat_lt i count then Some i else None
place (negsuc i) count = if nat_lt i count then Some (count - 1 - i) else None

-- The item that an index names, if it exists.
abbrev pub indexed_item : Items → ℤ → Option Tree
indexed_item ts i = option_and_then (item_at ts) (place i (items_count ts))

-- The character that an index names, if it exists.
abbrev pub nth_character : List ℕ → ℤ → Option ℕ
nth_character s i = option_and_then (slice_get (chars s)) (place i (length (chars s)))

-- The character that an index names, as a plain text, if it exists.
abbrev pub indexed_character : List ℕ → ℤ → Option Tree
indexed_character s i = option_map (λ c. text (encode_utf8 c)) (nth_character s i)

-- The found value, or undefined.
abbrev pub or_undefined : Option Tree → Tree
or_undefined found = unwrap_or found undefined

-- The item of a value at a key or an index:
-- - of a map the first value of the key;
-- - of a list the item at the index;
-- - of a text the character at the index.
-- The result is undefined if the item does not exist, and for every other pair of values. An item
-- of undefined is a fault.
abbrev pub item_of : Tree → Tree → Result Tree Fault
item_of undefined k = Err Undefined
item_of (map es) (text k) = Ok (or_undefined (entry_of k es))
item_of (map es) (markup k) = Ok (or_undefined (entry_of k es))
item_of (list ts) (number i) = Ok (or_undefined (indexed_item ts i))
item_of (text s) (number i) = Ok (or_undefined (indexed_character s i))
item_of (markup s) (number i) = Ok (or_undefined (indexed_character s i))
item_of t k = Ok undefined
