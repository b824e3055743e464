-- What contracts see of the table of a context, and its invariant.
use Rattle.std.specs.Prelude.{◌-◌, ℕ, min}
use Rattle.std.specs.Vec.{vec_len, vec_capacity}
use Rattle.jt_value.specs.KeySearch.{Finds}
use Rattle.jt_value.specs.Pairs.{Pairs, pairs, HasDistinctNames}
use Rattle.jt_value.specs.View.{entries_view}
use Rattle.jt_value.specs.declared.context.Context.TheInside.{Inside}
use Rattle.jt_value.specs.declared.key_search.KeySearch.{KeySearch}
use Rattle.jt_value.specs.declared.key_search.KeySearch.TheVariants as search

-- The number of new names that fit without a growth: the free indices of the table while it has at
-- most 8 names and so no index; else nothing is promised.
abbrev pub room : KeySearch → ℕ → ℕ → ℕ
room search.Linear names indices = min indices 8 - names
room search.Binary names indices = 0
room (search.Indexed index) names indices = 0

abbrev pub context_view : Inside → Pairs × ℕ
context_view inside =
    (pairs inside.entries.items, room inside.search (vec_len inside.entries) (vec_capacity inside.entries))

-- The names are distinct, and the search finds each of them.
abbrev pub IsTable : Inside → Type 0
IsTable inside =
    HasDistinctNames (pairs inside.entries.items) × Finds inside.search (entries_view inside.entries.items)
