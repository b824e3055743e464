-- The chain of an entry in a library.
use Rattle.std.specs.Prelude.{◌≡◌, ◌≤◌, ◌+◌, ◌*◌, length}
use Rattle.std.specs.List.{AllByRecursion}
use Rattle.jt_scan.specs.declared.options.Options.{Options}
use Rattle.jt_ast.specs.Expressions.{Text}
use Rattle.jt_ast.specs.Sizes.{body_bytes}
use Rattle.jt_chains.specs.Indices.{namespace_at}
use Rattle.jt_chains.specs.View.{Seen, sources_of}
use Rattle.jt_chains.specs.Weights.{chains_weight}
use Rattle.jt_inherit.specs.Chains.{SourceTexts, IsChain}
use Rattle.jt_inherit.specs.Findings.{IsFinding}
use Rattle.jt_inherit.specs.Linked.{IsLinked}
use Rattle.jt_inherit.specs.Small.{chains_len, source_len}
use Rattle.jt_inherit.specs.declared.error.ChainError.TheVariants as chain_error
use Rattle.jt_inherit.specs.declared.finding.ChainFinding.{ChainFinding}
use Rattle.jt_ir.specs.Slots.{Program}
use Rattle.jt_rules.specs.CompileEnv.{cenv_of}
use Rattle.jt_rules.specs.Rules.{KeepsRules}
use Rattle.jt_semantics.specs.Programs.{program}
use Rattle.jt_codegen.specs.Compiled.{IsOnlyChain}
use Rattle.jt_codegen.specs.Passed.{Passes}
use Rattle.jt_codegen.specs.Refusals.{HasProgram}
use Rattle.jt_codegen.specs.declared.emission.EmitError.{EmitError}
use Rattle.jt_codegen.specs.declared.emission.EmitError.TheVariants as emit_error

-- A library, an entry and the options for reading the sources.
pub record Asked : Type 0 where
  pub given : SourceTexts
  pub entry : Text
  pub options : Options

abbrev pub asked_of : SourceTexts → Text → Options → Asked
asked_of given entry options = record { given = given; entry = entry; options = options }

-- The chain is linked, and its trees are no larger than their sources.
pub record IsLinkedOf (asked : Asked) (chain : Seen) : Type 0 where
  pub linked : IsLinked asked.given asked.entry asked.options chain
  pub weighs : chains_weight (sources_of chain) chain.order ≤ chains_len asked.given (sources_of chain) chain.order
  pub short : AllByRecursion (λ template. body_bytes template.body ≤ source_len (asked.given template.name))
      chain.templates
  pub few : 7 * length chain.order ≤ chains_weight (sources_of chain) chain.order + 7

-- The finding is true of the entry. If the entry has a chain, it is lack of memory.
pub record IsFaultOf (asked : Asked) (f : ChainFinding) : Type 0 where
  pub finding : IsFinding asked.given asked.entry asked.options f
  pub only : (other : Seen) → IsChain asked.given asked.entry asked.options other → f.error ≡ chain_error.NoMemory

-- The entry has this chain and no other, and its trees are no larger than their sources.
pub record IsChainOf (asked : Asked) (chain : Seen) : Type 0 where
  pub only : IsOnlyChain asked.given asked.entry asked.options chain
  pub weighs : chains_weight (sources_of chain) chain.order ≤ chains_len asked.given (sources_of chain) chain.order
  pub short : AllByRecursion (λ template. body_bytes template.body ≤ source_len (asked.given template.name))
      chain.templates
  pub few : 7 * length chain.order ≤ chains_weight (sources_of chain) chain.order + 7

-- The program is that of the entry's chain, which keeps the rules of names and calls.
pub record IsProgramOf (asked : Asked) (resolved : Program) : Type 0 where
  pub chain : Seen
  pub of : IsChainOf asked chain
  pub kept : KeepsRules (cenv_of chain) chain.order
  pub is : resolved ≡ program (cenv_of chain) chain.order (namespace_at chain.order 0)

-- The claim of an emission error about the entry: the code of its program passes the limit.
abbrev pub PassesOf : Asked → EmitError → Type 0
PassesOf asked (emit_error.Limit limit) = HasProgram asked.given asked.entry asked.options (Passes limit)
PassesOf asked emit_error.NoMemory = Unit {0}
