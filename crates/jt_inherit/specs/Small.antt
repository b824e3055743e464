-- The lengths of the sources of chains, and the chains that are small.
use Rattle.std.specs.Prelude.{ℕ, ◌+◌, ◌≤◌, List, [], ◌∷◌, Option, Some, None, length}
use Rattle.jt_scan.specs.declared.options.Options.{Options}
use Rattle.jt_ast.specs.Expressions.{Text}
use Rattle.jt_ast.specs.Texts.{ascending}
use Rattle.jt_chains.specs.Chain.{Sources, Namespace, a_chain, a_library, Template, templates, libraries}
use Rattle.jt_chains.specs.View.{Seen, sources_of}
use Rattle.jt_chains.specs.Weights.{NamesFew}
use Rattle.jt_inherit.specs.Chains.{SourceTexts, IsChain}

-- ---- the bytes of sources, before normalization

abbrev pub source_len : Option Text → ℕ
source_len None = 0
source_len (Some source) = length source

abbrev pub templates_len : SourceTexts → List Template → ℕ
templates_len given [] = 0
templates_len given (first ∷ rest) = source_len (given first.name) + templates_len given rest

abbrev pub libraries_len : SourceTexts → Sources → List Text → ℕ
libraries_len given sources [] = 0
libraries_len given sources (first ∷ rest) =
    templates_len given (templates sources (a_library first)) + libraries_len given sources rest

-- A library counts once for each chain that imports it.
abbrev pub chains_len : SourceTexts → Sources → List Namespace → ℕ
chains_len given sources [] = 0
chains_len given sources (a_chain name ∷ rest) =
    templates_len given (templates sources (a_chain name))
    + libraries_len given sources (ascending (libraries sources (a_chain name)))
    + chains_len given sources rest
chains_len given sources (a_library name ∷ rest) = chains_len given sources rest

-- The sources of the chain, of the chains that its includes reach and of the libraries that they
-- import have together at most 2,000 bytes. A source counts once for each chain that reads it, and
-- before normalization. The chains read or bind at most 200 different names.
pub record IsSmall (given : SourceTexts) (entry : Text) (options : Options) : Type 0 where
  pub bytes : (chain : Seen) → IsChain given entry options chain
      → chains_len given (sources_of chain) chain.order ≤ 2000
  pub names : (chain : Seen) → IsChain given entry options chain → NamesFew chain
