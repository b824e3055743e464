-- The linked chain of an entry: what the entry reaches, before the rules on blocks, macros and imports are checked.
use Rattle.std.specs.Prelude.{◌≡◌, ◌≢◌, ◌↔◌, Bool, List, ◌∷◌, None, map, IsTrue}
use Rattle.std.specs.List.{AllByRecursion}
use Rattle.jt_scan.specs.declared.options.Options.{Options}
use Rattle.jt_ast.specs.Texts.{among}
use Rattle.jt_ast.specs.Expressions.{Text}
use Rattle.jt_chains.specs.Chain.{Sources, Namespace, a_chain}
use Rattle.jt_chains.specs.Includes.{InOrder}
use Rattle.jt_chains.specs.Rules.{Asks, Reaches, is_whole, Missing, BadName, ExtendsCycle, ChainTooLong, IncludeCycle}
use Rattle.jt_chains.specs.Rules.{NotALibrary}
use Rattle.jt_chains.specs.View.{Seen, sources_of}
use Rattle.jt_inherit.specs.Chains.{SourceTexts, AreRead, IsOnly}

-- The entry breaks none of the rules on templates, paths and libraries: C1 to C4, C8 and C12.
pub record KeepsLinkRules (sources : Sources) (escaping : Bool) (entry : Namespace) : Type 0 where
  pub missing : Missing sources escaping entry → ⊥
  pub bad_name : BadName sources escaping entry → ⊥
  pub extends_cycle : ExtendsCycle sources escaping entry → ⊥
  pub too_long : ChainTooLong sources escaping entry → ⊥
  pub include_cycle : IncludeCycle sources escaping entry → ⊥
  pub not_a_library : NotALibrary sources escaping entry → ⊥

-- The chain of an entry, as `IsChain` of `Chains` defines it, but a rule on blocks, macros or imports may be broken.
-- Each template can be read in no other way, and the path of each chain and library is whole.
pub record IsLinked (given : SourceTexts) (entry : Text) (options : Options) (chain : Seen) : Type 0 where
  pub escaping : chain.escaping ≡ options.autoescape
  pub strict : chain.strict ≡ options.strict
  pub read : AreRead given options chain.templates
  pub only : AllByRecursion (IsOnly given options) chain.templates
  pub asked : (name : Text)
      → IsTrue (among name (map (λ t. t.name) chain.templates))
      ↔ (Asks (sources_of chain) chain.escaping (a_chain entry) name × (given name ≢ None))
  pub included : List Namespace
  pub begins : chain.order ≡ a_chain entry ∷ included
  pub reached : AllByRecursion (λ namespace. Reaches (sources_of chain) chain.escaping (a_chain entry) namespace)
      chain.order
  pub order : InOrder (sources_of chain) chain.order
  pub whole : AllByRecursion (λ namespace. IsTrue (is_whole (sources_of chain) chain.escaping namespace)) chain.order
  pub rules : KeepsLinkRules (sources_of chain) chain.escaping (a_chain entry)
