-- Entries with one more at the end. Only private clauses cite this.
use Rattle.std.specs.Prelude.{ℕ, List}
use Rattle.jt_value.specs.Tree.{Tree, Entries, no_entries, entry}
use Rattle.jt_value.specs.declared.key_search.KeySearch.{KeySearch}
use Rattle.jt_value.specs.declared.key_search.KeySearch.TheVariants as search

abbrev pub more_entries : Entries → List ℕ → Tree → Entries
more_entries no_entries k u = entry k u no_entries
more_entries (entry l t es) k u = entry l t (more_entries es k u)

-- The search looks at each entry.
abbrev pub IsLinear : KeySearch → Type 0
IsLinear search.Linear = Unit {0}
IsLinear search.Binary = ⊥
IsLinear (search.Indexed indices) = ⊥
