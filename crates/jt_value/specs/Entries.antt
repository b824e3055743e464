-- The entries of a map by their keys. If a caller's map repeats a key, the key has its first value.
use Rattle.std.specs.Prelude.{ℕ, List, [], ◌∷◌, Bool, true, false, ◌&&◌, Option, Some, None, option_map, suc}
use Rattle.std.specs.Prelude.{if◌then◌else◌}
use Rattle.std.specs.Str.{bytes_eq}
use Rattle.std.specs.Ordering.{nat_cmp, is_lt}
use Rattle.std.specs.Cmp.Lexicographic.{slice_cmp}
use Rattle.jt_value.specs.Tree.{Tree, Entries, no_entries, entry}

-- The first value of a key, if the key occurs.
abbrev pub entry_of : List ℕ → Entries → Option Tree
entry_of k no_entries = None
entry_of k (entry l t es) = if bytes_eq l k then Some t else entry_of k es

-- The index of a key's first entry, if the key occurs.
abbrev pub index_of : List ℕ → Entries → Option ℕ
index_of k no_entries = None
index_of k (entry l t es) = if bytes_eq l k then Some 0 else option_map suc (index_of k es)

-- True if the map has the key.
abbrev pub has_key : List ℕ → Entries → Bool
has_key k no_entries = false
has_key k (entry l t es) = if bytes_eq l k then true else has_key k es

-- True if each key of the map passes the test.
abbrev pub all_keys : (List ℕ → Bool) → Entries → Bool
all_keys test no_entries = true
all_keys test (entry k t es) = test k && all_keys test es

-- The keys of a map, one per entry.
abbrev pub keys : Entries → List (List ℕ)
keys no_entries = []
keys (entry k t es) = k ∷ keys es

-- True if two maps have equal keys at each index.
abbrev pub same_keys : Entries → Entries → Bool
same_keys no_entries no_entries = true
same_keys (entry k t es) (entry l u fs) = bytes_eq k l && same_keys es fs
same_keys es fs = false

-- True if the key precedes the first entry's key in byte order, or there are no entries.
abbrev pub stands_before : List ℕ → Entries → Bool
stands_before k no_entries = true
stands_before k (entry l t es) = is_lt (slice_cmp nat_cmp k l)

-- True if each key precedes the next one in byte order.
abbrev pub ascends : Entries → Bool
ascends no_entries = true
ascends (entry k t es) = stands_before k es && ascends es
