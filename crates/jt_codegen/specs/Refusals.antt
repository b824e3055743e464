-- The claims of a refusal to compile about a library and an entry.
use Rattle.std.specs.Prelude.{◌≢◌}
use Rattle.jt_scan.specs.declared.options.Options.{Options}
use Rattle.jt_ast.specs.Expressions.{Text}
use Rattle.jt_inherit.specs.Chains.{SourceTexts, IsChain}
use Rattle.jt_chains.specs.Chain.{a_chain}
use Rattle.jt_chains.specs.View.{Seen}
use Rattle.jt_inherit.specs.Refusals as inherit
use Rattle.jt_inherit.specs.declared.error.ChainError.{ChainError}
use Rattle.jt_inherit.specs.declared.error.ChainError.TheVariants as chain_error
use Rattle.jt_ir.specs.Slots.{Program}
use Rattle.jt_rules.specs.Rules as rules
use Rattle.jt_rules.specs.Rules.{KeepsRules}
use Rattle.jt_rules.specs.CompileEnv.{cenv_of}
use Rattle.jt_rules.specs.declared.error.ScopeError.{ScopeError}
use Rattle.jt_rules.specs.declared.error.ScopeError.TheVariants as scope_error
use Rattle.jt_semantics.specs.Programs.{program}
use Rattle.jt_codegen.specs.Compiled.{IsOnlyChain}
use Rattle.jt_codegen.specs.Limits.{IsTooLong, NeedsTooMany}
use Rattle.jt_codegen.specs.Passed.{error_of}
use Rattle.jt_codegen.specs.declared.emission.EmitError.{EmitError}
use Rattle.jt_codegen.specs.declared.emission.EmitError.TheVariants as emit_error
use Rattle.jt_codegen.specs.declared.error.CompileError.{CompileError}
use Rattle.jt_codegen.specs.declared.error.CompileError.TheVariants as error

-- ---- refusals of other crates are passed on, and lack of memory is one refusal

abbrev pub of_chain : ChainError → CompileError
of_chain chain_error.NoMemory = error.NoMemory
of_chain e = error.Chain e

abbrev pub of_scope : ScopeError → CompileError
of_scope scope_error.NoMemory = error.NoMemory
of_scope e = error.Scope e

abbrev pub of_emit : EmitError → CompileError
of_emit (emit_error.Limit limit) = error_of limit
of_emit emit_error.NoMemory = error.NoMemory

-- ---- the claims of refusals

module _ (given : SourceTexts) (entry : Text) (options : Options) where
  -- No chain of the entry keeps the rules of chains.
  abbrev pub HasNoChain : Type 0
  HasNoChain = (c : Seen) → IsChain given entry options c → ⊥

  -- The reported rule of names and calls is broken by the entry's chain, or by a chain that its
  -- includes reach.
  pub record BreaksRule (e : ScopeError) : Type 0 where
    pub chain : Seen
    pub is : IsOnlyChain given entry options chain
    pub fault : e ≢ scope_error.NoMemory
    pub broken : rules.Breaks e (cenv_of chain) chain.order

  -- The entry's chain breaks no rule, and the fact holds of its resolved program.
  pub record HasProgram (Fact : Program → Type 0) : Type 0 where
    pub chain : Seen
    pub is : IsOnlyChain given entry options chain
    pub lawful : KeepsRules (cenv_of chain) chain.order
    pub fact : Fact (program (cenv_of chain) chain.order (a_chain entry))

  -- The claim of a refusal; `NoMemory` claims nothing.
  abbrev pub Breaks : CompileError → Type 0
  Breaks (error.Chain e) =
      (e ≢ chain_error.NoMemory) × inherit.Breaks e given entry options × HasNoChain
  Breaks (error.Scope e) = BreaksRule e
  Breaks error.CodeTooLong = HasProgram IsTooLong
  Breaks error.NoMemory = Unit {0}
  Breaks error.StackTooDeep = HasProgram NeedsTooMany

-- The refusal names a limit of images or of entries.
abbrev pub NamesLimit : CompileError → Type 0
NamesLimit (error.Chain e) = ⊥
NamesLimit (error.Scope e) = ⊥
NamesLimit error.CodeTooLong = Unit {0}
NamesLimit error.NoMemory = ⊥
NamesLimit error.StackTooDeep = Unit {0}
