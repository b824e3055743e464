-- The search for the keys of a map.
use Rattle.std.specs.Prelude.{◌≡◌, ℕ, List, true}
use Rattle.std.specs.BTreeMap.{get_by_text}
use Rattle.jt_value.specs.Tree.{Entries}
use Rattle.jt_value.specs.Entries.{index_of, ascends}
use Rattle.jt_value.specs.declared.key_search.KeySearch.{KeySearch}
use Rattle.jt_value.specs.declared.key_search.KeySearch.TheVariants as search

-- Holds if the search suits the entries: a binary search needs ascending keys, and an index has to
-- map each key to its first entry.
abbrev pub Finds : KeySearch → Entries → Type 0
Finds search.Linear pairs = Unit {0}
Finds search.Binary pairs = ascends pairs ≡ true
Finds (search.Indexed indices) pairs = (k : List ℕ) → get_by_text indices k ≡ index_of k pairs
