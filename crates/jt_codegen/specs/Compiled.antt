-- Correctness of the code of an entry in a library.
use Rattle.std.specs.Prelude.{◌≡◌, ℕ, map, Option, IsTrue}
use Rattle.std.specs.List.{AllByRecursion}
use Rattle.jt_value.specs.Pairs.{Pairs}
use Rattle.jt_value.specs.declared.fault.Fault.{Fault}
use Rattle.jt_scan.specs.declared.options.Options.{Options}
use Rattle.jt_image.specs.Code.{Code}
use Rattle.jt_image.specs.declared.version.Version.TheVariants as version
use Rattle.jt_image.specs.IsCode.{IsCode}
use Rattle.jt_image.specs.Typed.{IsTyped}
use Rattle.jt_image.specs.Config as config
use Rattle.jt_image.specs.Config.{Budget}
use Rattle.jt_image.specs.Run.{Run}
use Rattle.jt_image.specs.Enough.{Enough}
use Rattle.jt_value.specs.Place.{Place}
use Rattle.jt_eval.specs.Eval.{gives, fails}
use Rattle.jt_ast.specs.Expressions.{Text}
use Rattle.jt_ast.specs.Texts.{among}
use Rattle.jt_inherit.specs.Chains.{SourceTexts, IsOnly, IsChain}
use Rattle.jt_chains.specs.Chain.{a_chain}
use Rattle.jt_chains.specs.View.{Seen}
use Rattle.jt_rules.specs.Rules.{KeepsRules}
use Rattle.jt_rules.specs.CompileEnv.{CompileEnv, cenv_of}
use Rattle.jt_semantics.specs.Layout.{names}
use Rattle.jt_semantics.specs.Meaning.{mean}

-- The code agrees with the meaning of the entry. A text in which a run ends, or a fault with its
-- place, is the entry's meaning with calls of some depth. For each such meaning, some budget is
-- enough.
pub record DoesChain (cenv : CompileEnv) (entry : Text) (code : Code) : Type 0 where
  pub texts : (context : Pairs) (budget : Budget) (text : Text) → Run code context budget (config.text text)
      → (depth : ℕ) × (mean cenv entry context depth ≡ gives text)
  pub faults : (context : Pairs) (budget : Budget) (fault : Fault) (place : Option Place)
      → Run code context budget (config.fault fault place)
      → (depth : ℕ) × (mean cenv entry context depth ≡ fails fault place)
  pub enough_text : (context : Pairs) (depth : ℕ) (text : Text) → mean cenv entry context depth ≡ gives text
      → Enough code context (config.text text)
  pub enough_fault : (context : Pairs) (depth : ℕ) (fault : Fault) (place : Option Place)
      → mean cenv entry context depth ≡ fails fault place → Enough code context (config.fault fault place)

-- The entry has this chain, each template of which can be read in no other way. Any other chain
-- differs only in the order of its parts: the compile environment is the same.
pub record IsOnlyChain (given : SourceTexts) (entry : Text) (options : Options) (chain : Seen) : Type 0 where
  pub is : IsChain given entry options chain
  pub each : AllByRecursion (IsOnly given options) chain.templates
  pub only : (other : Seen) → IsChain given entry options other → cenv_of other ≡ cenv_of chain

-- The entry's chain breaks no rule. The code has a spelling, and is of version 2, so that it has the
-- places of its tags. Each of its names is one that the chain, or a chain that it includes, reads or
-- binds. Each template of its places is one of the chain. It is typed and agrees with the meaning of
-- the chain.
pub record IsCompiled (given : SourceTexts) (entry : Text) (options : Options) (code : Code) : Type 0 where
  pub chain : Seen
  pub is : IsOnlyChain given entry options chain
  pub lawful : KeepsRules (cenv_of chain) chain.order
  pub whole : IsCode code
  pub newest : code.version ≡ version.Two
  pub named : AllByRecursion (λ name. IsTrue (among name.text (names (cenv_of chain) chain.order (a_chain entry))))
      code.names
  pub placed : AllByRecursion (λ name. IsTrue (among name (map (λ t. t.name) chain.templates))) code.templates
  pub typed : IsTyped code
  pub does : DoesChain (cenv_of chain) entry code
