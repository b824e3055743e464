-- Chains: the templates from an entry to the root, the bodies of their blocks, and the callees in
-- them. Libraries: templates that are imported for their macros.
use Rattle.std.specs.Prelude.{ℕ, zero, suc, ◌==◌, nat_lt, Bool, true, false, not, ◌&&◌, ◌||◌, List, [], ◌∷◌, ◌++◌}
use Rattle.std.specs.Prelude.{flat_map, filter, Option, Some, None, codes, if◌then◌else◌}
use Rattle.std.specs.List.{list_any}
use Rattle.std.specs.Str.{bytes_eq}
use Rattle.jt_ast.specs.Expressions.{Expr, name, attribute}
pub use Rattle.jt_ast.specs.Expressions.{is_loop, Text}
use Rattle.jt_ast.specs.Statements.{Parameter, Stmt, data_of, choose, for_each, set_block, with_values, filter_block}
use Rattle.jt_ast.specs.Statements.{autoescape, macro, import_as, import_from, extends, block, Body, end, stmt}
use Rattle.jt_ast.specs.Statements.{Branches, no_branches, branch}

-- The trees of templates by their names; `None` for a name without a source.
abbrev pub Sources : Type 0
Sources = Text → Option Body

pub record Template : Type 0 where
  pub name : Text
  pub body : Body

-- ---- the path to the root

abbrev pub extends_of : Body → Option Text
extends_of end = None
extends_of (stmt (extends line parent) rest) = Some parent
extends_of (stmt first rest) = extends_of rest

abbrev pub parent_of : Option Body → Option Text
parent_of None = None
parent_of (Some body) = extends_of body

-- The first `count` names on the path from a name to the root, with or without a source.
abbrev pub names_up : Sources → ℕ → Option Text → List Text
names_up sources zero start = []
names_up sources (suc count) None = []
names_up sources (suc count) (Some start) = start ∷ names_up sources count (parent_of (sources start))

-- The sources whose trees are the trees of the templates, by their names.
abbrev pub sources_in : List Template → Sources
sources_in [] wanted = None
sources_in (t ∷ ts) wanted = if bytes_eq t.name wanted then Some t.body else sources_in ts wanted

abbrev pub template : Text → Option Body → List Template
template template_name None = []
template template_name (Some body) = record { name = template_name; body = body } ∷ []

-- ---- libraries

-- Space, tab, LF, VT, FF and CR.
abbrev pub is_space : ℕ → Bool
is_space c = (c == 32) || (not (nat_lt c 9) && nat_lt c 14)

-- A library may hold the statement: it is a macro, or whitespace between macros.
abbrev pub of_a_library : Stmt → Bool
of_a_library (data_of text) = not (list_any (λ c. not (is_space c)) text)
of_a_library (macro line macro_name parameters body) = true
of_a_library s = false

abbrev pub holds_macros : Body → Bool
holds_macros end = true
holds_macros (stmt first rest) = of_a_library first && holds_macros rest

abbrev pub is_a_library : Option Body → Bool
is_a_library None = false
is_a_library (Some body) = holds_macros body

-- The template of a library, by its name; none if the tree holds anything other than macros.
abbrev pub library_template : Text → Option Body → List Template
library_template template_name None = []
library_template template_name (Some body) = if holds_macros body then template template_name (Some body) else []

-- ---- namespaces

-- The owner of names and macros: a chain, by the name of its entry, or a library, by its own name.
-- One template may be both.
pub data Namespace : Type 0 where
  a_chain : Text → Namespace
  a_library : Text → Namespace

abbrev pub namespace_name : Namespace → Text
namespace_name (a_chain own_name) = own_name
namespace_name (a_library own_name) = own_name

abbrev pub same_namespace : Namespace → Namespace → Bool
same_namespace (a_chain n) (a_chain m) = bytes_eq n m
same_namespace (a_library n) (a_library m) = bytes_eq n m
same_namespace h k = false

-- The namespace is in the list.
abbrev pub listed : Namespace → List Namespace → Bool
listed wanted [] = false
listed wanted (namespace ∷ rest) = same_namespace namespace wanted || listed wanted rest

-- The greatest number of templates in a chain.
abbrev pub max_templates : ℕ
max_templates = 64

-- The templates of a chain from the entry to the root, at most `max_templates` of them, or the one
-- template of a library.
abbrev pub templates : Sources → Namespace → List Template
templates sources (a_chain own_name) =
    flat_map (λ ancestor. template ancestor (sources ancestor)) (names_up sources max_templates (Some own_name))
templates sources (a_library own_name) = library_template own_name (sources own_name)

-- ---- blocks

-- A body of a block, with the name of its template and the autoescape state at its tag.
pub record BlockBody : Type 0 where
  pub template : Text
  pub name : Text
  pub scoped : Bool
  pub required : Bool
  pub escaping : Bool
  pub body : Body

-- Every block of a template, nested ones included, in the order of the source.
module _ (template : Text) where
  abbrev mutual
    pub blocks_of : Stmt → Bool → List BlockBody
    blocks_of (block line block_name scoped required body) on =
        record {
          template = template;
          name = block_name;
          scoped = scoped;
          required = required;
          escaping = on;
          body = body;
        } ∷ blocks_in body on
    blocks_of (autoescape line now body) on = blocks_in body now
    blocks_of (choose branches other) on = blocks_under branches on ++ blocks_in other on
    blocks_of (for_each line targets over condition body other) on = blocks_in body on ++ blocks_in other on
    blocks_of (set_block line target body) on = blocks_in body on
    blocks_of (with_values line values body) on = blocks_in body on
    blocks_of (filter_block line filters body) on = blocks_in body on
    -- The grammar allows no block in a macro.
    blocks_of (macro line macro_name parameters body) on = blocks_in body on
    blocks_of s on = []

    pub blocks_in : Body → Bool → List BlockBody
    blocks_in end on = []
    blocks_in (stmt first rest) on = blocks_of first on ++ blocks_in rest on

    pub blocks_under : Branches → Bool → List BlockBody
    blocks_under no_branches on = []
    blocks_under (branch line condition body rest) on = blocks_in body on ++ blocks_under rest on

-- All bodies of a chain, the entry's first, and the bodies of one block; `escaping` is the compile
-- option.
abbrev pub all_bodies : Sources → Bool → Namespace → List BlockBody
all_bodies sources escaping namespace =
    flat_map (λ t. blocks_in t.name t.body escaping) (templates sources namespace)

abbrev pub bodies : Sources → Bool → Namespace → Text → List BlockBody
bodies sources escaping namespace block_name =
    filter (λ body. bytes_eq body.name block_name) (all_bodies sources escaping namespace)

-- The bodies that `super()` continues with: the list from its first body that is not required.
abbrev pub from_given : List BlockBody → List BlockBody
from_given [] = []
from_given (body ∷ rest) = if body.required then from_given rest else body ∷ rest

-- ---- macros

pub record MacroBody : Type 0 where
  pub name : Text
  pub template : Text
  pub parameters : List Parameter
  pub body : Body

-- The macros of a body: its `macro` statements at top level, in order.
abbrev pub macros_in : Text → Body → List MacroBody
macros_in template_name end = []
macros_in template_name (stmt (macro line macro_name parameters body) rest) =
    record { name = macro_name; template = template_name; parameters = parameters; body = body }
    ∷ macros_in template_name rest
macros_in template_name (stmt first rest) = macros_in template_name rest

-- All macros of a chain or of a library.
abbrev pub macros : Sources → Namespace → List MacroBody
macros sources namespace = flat_map (λ t. macros_in t.name t.body) (templates sources namespace)

abbrev pub macro_of : Text → List MacroBody → Option MacroBody
macro_of wanted [] = None
macro_of wanted (first ∷ rest) = if bytes_eq first.name wanted then Some first else macro_of wanted rest

-- ---- imports

-- A macro whose name begins with `_` is private: the library does not offer it to importers.
abbrev pub is_private : Text → Bool
is_private [] = false
is_private (c ∷ cs) = c == 95

-- The macro of this name that a library offers to importers.
abbrev pub public_macro : Text → List MacroBody → Option MacroBody
public_macro macro_name all_macros = if is_private macro_name then None else macro_of macro_name all_macros

-- The definition of a name in a chain: a macro, with its namespace, or a library.
pub data Definition : Type 0 where
  one_macro : Namespace → MacroBody → Definition
  library : Text → Definition

-- The macros of a namespace, by their names.
abbrev pub own : Namespace → List MacroBody → List (Text × Definition)
own namespace [] = []
own namespace (first ∷ rest) = (first.name, one_macro namespace first) ∷ own namespace rest

-- The name of an imported macro; none if the library lacks the macro.
abbrev pub given_from : Text → Text → Option MacroBody → List (Text × Definition)
given_from library_name alias None = []
given_from library_name alias (Some found) = (alias, one_macro (a_library library_name) found) ∷ []

module _ (sources : Sources) where
  -- The names that a `from` tag binds.
  abbrev pub all_given_from : Text → List (Text × Text) → List (Text × Definition)
  all_given_from library_name [] = []
  all_given_from library_name (first ∷ rest) =
      given_from library_name first.1 (public_macro first.0 (macros sources (a_library library_name)))
      ++ all_given_from library_name rest

  -- Imports occur only at top level.
  abbrev pub imports_in : Body → List (Text × Definition)
  imports_in end = []
  imports_in (stmt (import_as line library_name alias) rest) = (alias, library library_name) ∷ imports_in rest
  imports_in (stmt (import_from line library_name macro_names) rest) =
      all_given_from library_name macro_names ++ imports_in rest
  imports_in (stmt first rest) = imports_in rest

  -- A library imports nothing.
  abbrev pub imports : Namespace → List (Text × Definition)
  imports (a_chain own_name) = flat_map (λ file. imports_in file.body) (templates sources (a_chain own_name))
  imports (a_library own_name) = []

  -- All names of a namespace that stand for a macro or a library.
  abbrev pub given : Namespace → List (Text × Definition)
  given namespace = own namespace (macros sources namespace) ++ imports namespace

abbrev pub given_to : Text → List (Text × Definition) → Option Definition
given_to wanted [] = None
given_to wanted (first ∷ rest) = if bytes_eq first.0 wanted then Some first.1 else given_to wanted rest

-- The names of the libraries that a template imports, once for each import tag.
abbrev pub libraries_in : Body → List Text
libraries_in end = []
libraries_in (stmt (import_as line library_name alias) rest) = library_name ∷ libraries_in rest
libraries_in (stmt (import_from line library_name macro_names) rest) = library_name ∷ libraries_in rest
libraries_in (stmt first rest) = libraries_in rest

-- The names of the libraries that a chain imports; a library imports none.
abbrev pub libraries : Sources → Namespace → List Text
libraries sources (a_chain own_name) = flat_map (λ file. libraries_in file.body) (templates sources (a_chain own_name))
libraries sources (a_library own_name) = []

-- ---- calls

-- The callee that the expression before the arguments of a call names.
pub data Callee : Type 0 where
  -- A macro, with its namespace.
  a_macro : Namespace → MacroBody → Callee
  a_range : Callee
  a_super : Callee
  a_block : Text → Callee
  a_cycle : Callee
  no_callee : Callee

abbrev pub named_form : Text → Callee
named_form x =
    if bytes_eq x (codes "range")
    then a_range
    else if bytes_eq x (codes "super") then a_super else no_callee

module _ (sources : Sources) where
  -- The callee of a bare name; a library itself is never called.
  abbrev pub named_alone : Option Definition → Text → Callee
  named_alone None x = named_form x
  named_alone (Some (one_macro namespace found)) x = a_macro namespace found
  named_alone (Some (library library_name)) x = no_callee

  -- The macro as a callee, if the library offers it.
  abbrev pub of_library : Text → Option MacroBody → Callee
  of_library library_name None = no_callee
  of_library library_name (Some found) = a_macro (a_library library_name) found

  abbrev pub in_library : Option Definition → Text → Callee
  in_library None macro_name = no_callee
  in_library (Some (one_macro namespace found)) macro_name = no_callee
  in_library (Some (library library_name)) macro_name =
      of_library library_name (public_macro macro_name (macros sources (a_library library_name)))

  -- The callee of an attribute: `self.b`, `loop.cycle`, or a macro of a library that is imported
  -- under a name.
  abbrev pub named_in : Option Definition → Text → Text → Callee
  named_in definition of member =
      if bytes_eq of (codes "self") then a_block member
      else
      if bytes_eq of (codes "loop") then
      (if bytes_eq member (codes "cycle") then a_cycle else no_callee)
      else in_library definition member

  abbrev pub callee : List (Text × Definition) → Expr → Callee
  callee definitions (name x) = named_alone (given_to x definitions) x
  callee definitions (attribute (name of) x) = named_in (given_to of definitions) of x
  callee definitions other = no_callee
