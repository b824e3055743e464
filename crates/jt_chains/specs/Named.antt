-- The view in contracts of the names of a chain that stand for a macro or a library.
use Rattle.std.specs.Prelude.{◌≡◌, ◌++◌, List, map}
use Rattle.jt_chains.specs.Chain as chain
use Rattle.jt_chains.specs.Chain.{Template, Namespace, a_library, one_macro, library, Text}
use Rattle.jt_chains.specs.Parts.{macro_view}
use Rattle.jt_chains.specs.declared.definitions.Definition.{Definition}
use Rattle.jt_chains.specs.declared.definitions.Definition.TheVariants as v
use Rattle.jt_chains.specs.declared.definitions.DefinedName.{DefinedName}

-- An own macro is defined in the namespace of the name.
module _ (ts : List Template) (namespace : Namespace) where
  abbrev pub given_view : Definition → chain.Definition
  given_view (v.Own m) = one_macro namespace (macro_view ts m)
  given_view (v.Imported n m) = one_macro (a_library n.now) (macro_view ts m)
  given_view (v.Library n) = library n.now

  abbrev pub named_view : DefinedName → Text × chain.Definition
  named_view g = (g.name.now, given_view g.given)

  abbrev pub names_view : List DefinedName → List (Text × chain.Definition)
  names_view = map named_view

-- For each chain or library, the new view is the old one with `more` appended.
abbrev pub Adds : List Template → List DefinedName → List DefinedName → (Namespace → List (Text × chain.Definition))
    → Type 0
Adds ts old new more = (owner : Namespace) → names_view ts owner new ≡ names_view ts owner old ++ more owner
