-- The entries of a map in byte order of their keys: the first entry of each key.
use Rattle.std.specs.Prelude.{◌≡◌, ℕ, List, [], ◌∷◌, drop, length, true}
use Rattle.jt_value.specs.Tree.{Entries, no_entries, entry}
use Rattle.jt_value.specs.Entries.{entry_of, keys, ascends}
use Rattle.jt_value.specs.View.{view, entries_view}
use Rattle.jt_value.specs.declared.text.Text.{Text}
use Rattle.jt_value.specs.declared.value.Value.{Value}
use Rattle.jt_value.specs.declared.in_order.InOrder.{InOrder}
use Rattle.jt_value.specs.declared.in_order.Rest.{Rest}
use Rattle.jt_value.specs.declared.in_order.Rest.TheVariants as rest

-- The first of these entries, followed by the entries `later`; no entries if there is no first one.
abbrev pub first_and : List (Text × Value) → Entries → Entries
first_and [] later = no_entries
first_and (x ∷ xs) later = entry x.0 (view x.1) later

-- The entries at these indices, in order.
abbrev pub entries_at : List (Text × Value) → List ℕ → Entries
entries_at xs [] = no_entries
entries_at xs (p ∷ ps) = first_and (drop p xs) (entries_at xs ps)

-- The entries that an iterator has yet to return.
abbrev pub rest_of : List (Text × Value) → Rest → Entries
rest_of xs (rest.From p) = entries_view (drop p xs)
rest_of xs (rest.At ps) = entries_at xs ps

abbrev pub to_come : InOrder → Entries
to_come iterator = rest_of iterator.entries.now iterator.rest

-- Holds if the keys of `ordered` ascend, and each key has equal first values in `ordered` and in
-- `entries`.
abbrev pub IsInOrder : Entries → Entries → Type 0
IsInOrder ordered entries = (ascends ordered ≡ true) × ((k : List ℕ) → entry_of k ordered ≡ entry_of k entries)

-- Holds if the entries have this number of different keys.
abbrev pub HasKeyCount : ℕ → Entries → Type 0
HasKeyCount n entries = (ordered : Entries) × IsInOrder ordered entries × (length (keys ordered) ≡ n)
