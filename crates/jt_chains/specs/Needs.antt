-- The includes and imports of a template: the templates that they name.
use Rattle.std.specs.Prelude.{◌≡◌, ℕ, Bool, false, true, if◌then◌else◌, List, [], ◌∷◌, ◌++◌, map, flat_map}
use Rattle.jt_chains.specs.Along.{along}
use Rattle.jt_chains.specs.Chain.{Namespace, a_chain, a_library, Template, Text}
use Rattle.jt_chains.specs.Includes.{includes_in, need}
use Rattle.jt_chains.specs.declared.include_tags.NeededTemplate.{NeededTemplate}

-- The name of a template, whether it may be missing, and whether it is a library.
pub record Need : Type 0 where
  pub name : Text
  pub ignoring : Bool
  pub library : Bool

abbrev pub include_need : Text → Bool → List Need
include_need template ignoring = record { name = template; ignoring = ignoring; library = false } ∷ []

-- The includes of the templates at some indices.
abbrev pub includes_along : List Template → List ℕ → List Need
includes_along ts = along ts (λ n b. includes_in include_need b)

-- An imported library; it may not be missing.
abbrev pub library_need : Text → Need
library_need library_name = record { name = library_name; ignoring = false; library = true }

-- The chain or the library that an include or import leads to.
abbrev pub need_namespace : Need → Namespace
need_namespace n = if n.library then a_library n.name else a_chain n.name

-- The names of all includes, or only the names of templates that may not be missing.
abbrev pub needed : Bool → List Need → List Text
needed all = flat_map (λ n. need all n.name n.ignoring)

abbrev pub need_view : NeededTemplate → Need
need_view n = record { name = n.name.now; ignoring = n.ignoring; library = n.is_library }

abbrev pub needs_view : List NeededTemplate → List Need
needs_view = map need_view

-- The new list is the old one with `ns` appended.
abbrev pub AddsNeeds : List NeededTemplate → List NeededTemplate → List Need → Type 0
AddsNeeds old new ns = needs_view new ≡ needs_view old ++ ns
