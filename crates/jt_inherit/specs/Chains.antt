-- The chain that an entry has in a library.
use Rattle.std.specs.Prelude.{◌≡◌, ◌≢◌, ◌≤◌, ◌↔◌, false, ℕ, List, ◌∷◌, Option, Some, None, length, map, chars, IsTrue}
use Rattle.std.specs.List.{AllByRecursion}
use Rattle.jt_scan.specs.Cut.{Segment, IsCut}
use Rattle.jt_scan.specs.LineEnds.{normalized}
use Rattle.jt_scan.specs.SourceView.{max_source_len}
use Rattle.jt_scan.specs.declared.options.Options.{Options}
use Rattle.jt_parse.specs.Grammar.{Spelled}
use Rattle.jt_parse.specs.Kept.{pieces}
use Rattle.jt_parse.specs.Names.{body_unknown}
use Rattle.jt_parse.specs.Refusals.{max_levels}
use Rattle.jt_ast.specs.Texts.{among, repeated}
use Rattle.jt_ast.specs.Expressions.{Text}
use Rattle.jt_ast.specs.Statements.{Body, body_levels}
use Rattle.jt_chains.specs.Chain.{Namespace, a_chain, Template}
use Rattle.jt_chains.specs.Includes.{InOrder}
use Rattle.jt_chains.specs.Names.{IsName}
use Rattle.jt_chains.specs.Rules.{Asks, Reaches, KeepsRules}
use Rattle.jt_chains.specs.View.{Seen, sources_of}

-- The source of each name, before normalization.
abbrev pub SourceTexts : Type 0
SourceTexts = Text → Option Text

-- The characters that are cut into segments: the characters of the source, with LF as its only line
-- end. A trailing line end is dropped unless the options keep it.
abbrev pub scanned : Options → Text → List ℕ
scanned options source = chars (normalized options.keep_trailing_newline source)

-- A source of at most 1,048,576 bytes is cut into segments. With the options they spell the tree.
-- The tree has at most 100 levels, and all of its filters and tests are known.
pub record IsTree (options : Options) (source : Text) (body : Body) : Type 0 where
  pub limited : length source ≤ max_source_len
  pub segments : List Segment
  pub cut : IsCut segments (scanned options source)
  pub spelled : Spelled body (pieces (map (λ s. (options, s)) segments))
  pub levels : body_levels body ≤ max_levels
  pub known : body_unknown body ≡ None

-- The source spells no tree.
abbrev pub HasNoTree : Options → Text → Type 0
HasNoTree options source = (body : Body) → IsTree options source body → ⊥

-- The template has a valid name, and the library has a source of this name that spells the
-- template's tree.
pub record IsRead (given : SourceTexts) (options : Options) (template : Template) : Type 0 where
  pub named : IsName template.name
  pub source : Text
  pub found : given template.name ≡ Some source
  pub tree : IsTree options source template.body

-- No other tree is read by the template's name.
abbrev pub IsOnly : SourceTexts → Options → Template → Type 0
IsOnly given options template =
    (body : Body) → IsRead given options (record { name = template.name; body = body }) → body ≡ template.body

-- Templates of the library, each once.
pub record AreRead (given : SourceTexts) (options : Options) (templates : List Template) : Type 0 where
  pub each : AllByRecursion (IsRead given options) templates
  pub once : repeated (map (λ t. t.name) templates) ≡ false

-- The chain of an entry, with the chains and libraries that its includes and imports reach. It
-- breaks no rule of chains. Its templates are the requested ones that have a source, and its chains
-- and libraries are those that are reached.
pub record IsChain (given : SourceTexts) (entry : Text) (options : Options) (chain : Seen) : Type 0 where
  pub escaping : chain.escaping ≡ options.autoescape
  pub strict : chain.strict ≡ options.strict
  pub read : AreRead given options chain.templates
  pub asked : (name : Text)
      → IsTrue (among name (map (λ t. t.name) chain.templates))
      ↔ (Asks (sources_of chain) chain.escaping (a_chain entry) name × (given name ≢ None))
  pub included : List Namespace
  pub begins : chain.order ≡ a_chain entry ∷ included
  pub reached : AllByRecursion (λ namespace. Reaches (sources_of chain) chain.escaping (a_chain entry) namespace)
      chain.order
  pub order : InOrder (sources_of chain) chain.order
  pub rules : KeepsRules (sources_of chain) chain.escaping (a_chain entry)
