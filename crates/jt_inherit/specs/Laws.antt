-- The law of refusals: a rule that the templates read so far break is broken in each reading of the
-- library. Templates that are not read yet cannot mend it. `Refusals.Shows` defines the templates
-- read so far.
use Rattle.std.specs.Prelude.{◌≡◌, Bool, Some}
use Rattle.jt_scan.specs.declared.options.Options.{Options}
use Rattle.jt_ast.specs.Expressions.{Text}
use Rattle.jt_ast.specs.Statements.{Body}
use Rattle.jt_chains.specs.Chain.{Sources, Namespace, a_chain}
use Rattle.jt_chains.specs.Rules.{Missing, BadName, ExtendsCycle, ChainTooLong, DoubleBlock, RequiredNotGiven, NoSuper}
use Rattle.jt_chains.specs.Rules.{IncludeCycle, MacroTwice, NoMacro, NotALibrary}
use Rattle.jt_inherit.specs.Chains.{SourceTexts, IsRead}
use Rattle.jt_inherit.specs.Refusals.{ShowsRule, IsMissing}

-- A reading of a library: one tree for each template name whose source spells a tree, and no
-- others.
pub record IsReading (given : SourceTexts) (options : Options) (sources : Sources) : Type 0 where
  pub each : (name : Text) (body : Body) → IsRead given options (record { name = name; body = body })
      → (tree : Body) × (sources name ≡ Some tree)
  pub read : (name : Text) (body : Body) → sources name ≡ Some body
      → IsRead given options (record { name = name; body = body })

-- A rule that is shown to be broken is broken in each reading.
abbrev pub IsLasting : (Sources → Bool → Namespace → Type 0) → Type 0
IsLasting Rule =
    (given : SourceTexts) (options : Options) (entry : Text) (sources : Sources)
    → IsReading given options sources
    → ShowsRule Rule given entry options
    → Rule sources options.autoescape (a_chain entry)

pub record RefusalLaws : Type 0 where
  pub missing : (given : SourceTexts) (options : Options) (entry : Text) (sources : Sources)
      → IsReading given options sources → IsMissing given entry options
      → Missing sources options.autoescape (a_chain entry)
  pub bad_name : IsLasting BadName
  pub extends_cycle : IsLasting ExtendsCycle
  pub too_long : IsLasting ChainTooLong
  pub double_block : IsLasting DoubleBlock
  pub required_not_given : IsLasting RequiredNotGiven
  pub no_super : IsLasting NoSuper
  pub include_cycle : IsLasting IncludeCycle
  pub macro_twice : IsLasting MacroTwice
  pub no_macro : IsLasting NoMacro
  pub not_a_library : IsLasting NotALibrary
