-- The paths on which templates lead from one name to another. Only private clauses cite this
-- module.
use Rattle.std.specs.Prelude.{◌≡◌, ℕ, ◌≤◌, ◌⊎◌, ◌++◌, true, false, IsTrue, List, [], ◌∷◌, Option, Some, None, length}
use Rattle.std.specs.Prelude.{map, slice_get, Result, Ok, Err, Vec}
use Rattle.std.specs.List.{AllByRecursion}
use Rattle.std.specs.declared.alloc.Global.{Global}
use Rattle.jt_ast.specs.Sizes.{body_bytes}
use Rattle.jt_ast.specs.Texts.{among, repeated}
use Rattle.jt_ast.specs.Expressions.{Text}
use Rattle.jt_ast.specs.Statements.{body_weight}
use Rattle.jt_scan.specs.declared.options.Options.{Options}
use Rattle.jt_chains.specs.Along.{AreIndices, templates_at}
use Rattle.jt_chains.specs.Chain.{max_templates, Sources, Namespace, a_chain, a_library, Template, extends_of}
use Rattle.jt_chains.specs.Chain.{sources_in, holds_macros}
use Rattle.jt_chains.specs.Rules.{Reaches}
use Rattle.jt_inherit.specs.Chains.{SourceTexts, AreRead, IsOnly}
use Rattle.jt_inherit.specs.Findings.{Says}
use Rattle.jt_inherit.specs.Refusals.{Breaks}
use Rattle.jt_inherit.specs.Small.{source_len}
use Rattle.jt_inherit.specs.declared.error.ChainError.{ChainError}
use Rattle.jt_inherit.specs.declared.finding.ChainFinding.{ChainFinding}

-- The templates are the next ones on the path from a name; the last name, if any, comes after them.
abbrev pub Leads : Sources → Option Text → List Template → Option Text → Type 0
Leads s o [] p = o ≡ p
Leads s None (t ∷ ts) p = ⊥
Leads s (Some n) (t ∷ ts) p = (t.name ≡ n) × (s n ≡ Some t.body) × Leads s (extends_of t.body) ts p

-- The template of a library holds macros, and no name comes after it.
pub record IsAlone (s : Sources) (n : Text) (ts : List Template) (p : Option Text) : Type 0 where
  pub template : Template
  pub only : ts ≡ template ∷ []
  pub named : template.name ≡ n
  pub source : s n ≡ Some template.body
  pub holds : holds_macros template.body ≡ true
  pub last : p ≡ None

abbrev pub LeadsFrom : Sources → Namespace → List Template → Option Text → Type 0
LeadsFrom s (a_chain n) ts p = Leads s (Some n) ts p
LeadsFrom s (a_library n) ts p = IsAlone s n ts p

-- A tree is no longer than its source.
pub record IsWithin (given : SourceTexts) (t : Template) : Type 0 where
  pub weighs : body_weight t.body ≤ source_len (given t.name)
  pub short : body_bytes t.body ≤ source_len (given t.name)

abbrev pub names : List Template → List Text
names ts = map (λ t. t.name) ts

-- The templates that were read: each once, in the only way, and with no tree longer than its source.
pub record AreKnown (given : SourceTexts) (options : Options) (ts : List Template) : Type 0 where
  pub read : AreRead given options ts
  pub only : AllByRecursion (IsOnly given options) ts
  pub within : AllByRecursion (IsWithin given) ts

-- More templates were read, and each new name is one of those that were asked for.
pub record HasRead (given : SourceTexts) (options : Options) (old new : List Template) (asked : List Text) : Type
    0 where
  pub known : AreKnown given options new
  pub more : List Template
  pub grown : new ≡ old ++ more
  pub from : (n : Text) → IsTrue (among n (names new)) → IsTrue (among n (names old)) ⊎ IsTrue (among n asked)

-- The templates at the indices are the next ones on the path of a chain, or the library's own, each
-- once. The last name, if any, comes after them.
pub record IsExtendsPath (ts : List Template) (h : Namespace) (is : List ℕ) (p : Option Text) : Type 0 where
  pub indices : AreIndices ts is
  pub leads : LeadsFrom (sources_in ts) h (templates_at ts is) p
  pub once : repeated (names (templates_at ts is)) ≡ false
  pub few : length is ≤ max_templates

-- ---- while templates are read

-- The templates of a chain or a library were read, and the path is at the indices.
pub record HasPath (given : SourceTexts) (options : Options) (old new : List Template) (h : Namespace) (is : List ℕ) :
    Type 0 where
  pub read : HasRead given options old new (names (templates_at new is))
  pub led : IsExtendsPath new h is None

-- An error breaks each chain that reaches this chain or library.
abbrev pub BreaksAll : SourceTexts → Options → List Template → Namespace → ChainError → Type 0
BreaksAll given options ts h e =
    (root : Text)
    → Reaches (sources_in ts) options.autoescape (a_chain root) h
    → Breaks e given root options

-- What is said of the place and the subject of an error is true for each such chain.
abbrev pub SaysAll : SourceTexts → Options → List Template → Namespace → ChainFinding → Type 0
SaysAll given options ts h f =
    (root : Text)
    → Reaches (sources_in ts) options.autoescape (a_chain root) h
    → Says given root options f.place f.subject f.error

-- The index of the name is the only one.
abbrev pub IsAt : List Text → Text → Vec ℕ Global → Type 0
IsAt names n is = (i : ℕ) × (is.items ≡ i ∷ []) × (slice_get names i ≡ Some n)

-- The templates of a chain or a library are read, or the finding is true for each chain that reaches
-- it.
abbrev pub Reads : SourceTexts → Options → List Template → List Template → Namespace
    → Result (Vec ℕ Global) ChainFinding → Type 0
Reads given options old new h (Ok is) = HasPath given options old new h is.items
Reads given options old new h (Err f) = BreaksAll given options old h f.error × SaysAll given options old h f
