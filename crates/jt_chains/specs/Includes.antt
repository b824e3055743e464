-- The chains that a chain includes, the libraries that it imports, and the order of both.
use Rattle.std.specs.Prelude.{Bool, true, false, not, ◌||◌, IsTrue, if◌then◌else◌, List, [], ◌∷◌, ◌++◌, map, flat_map}
use Rattle.std.specs.Prelude.{filter}
use Rattle.std.specs.List.{AllByRecursion, AllByRecursion-prop}
use Rattle.std.specs.Coded.{×_prop, Unit-prop, Coded-set, coded_bool}
use Rattle.std.specs.Option.{is_some}
use Rattle.jt_ast.specs.Statements.{Stmt, choose, for_each, set_block, with_values, filter_block, autoescape, macro}
use Rattle.jt_ast.specs.Statements.{include, block, Body, end, stmt, Branches, no_branches, branch}
use Rattle.jt_chains.specs.Chain.{Sources, Namespace, a_chain, a_library, listed, templates, libraries, Text}

-- ---- the includes in statements, in the order of the source

-- `give` returns the items of one include, by the name of its template and by whether the template
-- may be missing.

module _ {A : Type 0} (give : Text → Bool → List A) where
  abbrev mutual
    pub includes_by : Stmt → List A
    includes_by (include line template ignore_missing with_context) = give template ignore_missing
    includes_by (choose branches other) = includes_under branches ++ includes_in other
    includes_by (for_each line targets over condition body other) = includes_in body ++ includes_in other
    includes_by (set_block line target body) = includes_in body
    includes_by (with_values line values body) = includes_in body
    includes_by (filter_block line filters body) = includes_in body
    includes_by (autoescape line on body) = includes_in body
    includes_by (macro line macro_name parameters body) = includes_in body
    includes_by (block line block_name scoped required body) = includes_in body
    includes_by s = []

    pub includes_in : Body → List A
    includes_in end = []
    includes_in (stmt first rest) = includes_by first ++ includes_in rest

    pub includes_under : Branches → List A
    includes_under no_branches = []
    includes_under (branch line condition body rest) = includes_in body ++ includes_under rest

-- The name of an included template, as a list. The list is empty if the include ignores a missing
-- template and `all` is false.
abbrev pub need : Bool → Text → Bool → List Text
need all template ignoring = if all || not ignoring then template ∷ [] else []

abbrev pub needs_by : Bool → Stmt → List Text
needs_by all = includes_by (need all)

abbrev pub needs_in : Bool → Body → List Text
needs_in all = includes_in (need all)

abbrev pub needs_under : Bool → Branches → List Text
needs_under all = includes_under (need all)

-- The names that have a source.
abbrev pub with_source : Sources → List Text → List Text
with_source sources names = filter (λ name. is_some (sources name)) names

-- The chains that a chain or a library includes, and the libraries that it imports.
abbrev pub included : Sources → Namespace → List Namespace
included sources namespace =
    map a_chain (with_source sources (flat_map (λ file. needs_in true file.body) (templates sources namespace)))
    ++ map a_library (with_source sources (libraries sources namespace))

-- ---- the order of chains and libraries

-- Each chain or library occurs once, before the ones that it leads to.

abbrev pub AllIn : List Namespace → List Namespace → Type 0
AllIn members namespaces = AllByRecursion (λ member. IsTrue (listed member namespaces)) members

abbrev pub InOrder : Sources → List Namespace → Type 0
InOrder sources [] = Unit {0}
InOrder sources (first ∷ rest) =
    IsTrue (not (listed first rest)) × (AllIn (included sources first) rest × InOrder sources rest)

pub InOrder-prop : (sources : Sources) (hs : List Namespace) → IsProp (InOrder sources hs)
InOrder-prop sources [] = Unit-prop
InOrder-prop sources (h ∷ hs) =
    ×_prop (Coded-set coded_bool _ _)
    (×_prop (AllByRecursion-prop _ (λ m. Coded-set coded_bool _ _) (included sources h)) (InOrder-prop sources hs))

-- The first namespace is a chain.
abbrev pub begins_with_chain : List Namespace → Bool
begins_with_chain (a_chain entry ∷ rest) = true
begins_with_chain rest = false
