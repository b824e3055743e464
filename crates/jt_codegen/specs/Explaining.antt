-- What an explanation says of an entry in a library.
use Rattle.std.specs.Prelude.{◌≡◌, ◌≢◌, ◌⊎◌, IsTrue, Option, Some, None, option_map, string_bytes}
use Rattle.std.specs.Option.{is_some}
use Rattle.jt_scan.specs.declared.options.Options.{Options}
use Rattle.jt_ast.specs.Expressions.{Text}
use Rattle.jt_expr.specs.declared.named.Named.TheVariants as named
use Rattle.jt_parse.specs.declared.error.ParseError.{ParseError}
use Rattle.jt_parse.specs.declared.error.ParseError.TheVariants as parse_error
use Rattle.jt_chains.specs.View.{Seen}
use Rattle.jt_checks.specs.Findings as findings
use Rattle.jt_image.specs.Code.{Code}
use Rattle.jt_inherit.specs.Chains.{SourceTexts}
use Rattle.jt_inherit.specs.Findings.{Says}
use Rattle.jt_inherit.specs.Lines as errors
use Rattle.jt_inherit.specs.declared.error.ChainError.{ChainError}
use Rattle.jt_inherit.specs.declared.error.ChainError.TheVariants as chain_error
use Rattle.jt_inherit.specs.declared.finding.ChainSubject.{ChainSubject}
use Rattle.jt_inherit.specs.declared.finding.TagPlace.{TagPlace}
use Rattle.jt_rules.specs.CompileEnv.{cenv_of}
use Rattle.jt_rules.specs.declared.error.ScopeError.{ScopeError}
use Rattle.jt_codegen.specs.Compiled.{IsCompiled, IsOnlyChain}
use Rattle.jt_codegen.specs.Passed.{Passes, error_of}
use Rattle.jt_codegen.specs.Refusals.{Breaks, HasProgram}
use Rattle.jt_codegen.specs.Unknown.{HasUnknown}
use Rattle.jt_codegen.specs.declared.error.CompileError.{CompileError}
use Rattle.jt_codegen.specs.declared.error.CompileError.TheVariants as error
use Rattle.jt_codegen.specs.declared.finding.Explained.{Explained}
use Rattle.jt_codegen.specs.declared.finding.Explained.TheVariants as explained
use Rattle.jt_codegen.specs.declared.finding.Finding.{Finding}
use Rattle.jt_codegen.specs.declared.finding.Subject.{Subject}
use Rattle.jt_codegen.specs.declared.finding.Subject.TheVariants as v

-- The subject as the rules of names and calls have it.
abbrev pub subject_view : Subject → Option findings.Subject
subject_view (v.Name x) = Some (findings.a_name (string_bytes x))
subject_view (v.LoopField k) = Some (findings.a_loop_field (string_bytes k))
subject_view (v.CalledName x) = Some (findings.a_called_name (string_bytes x))
subject_view (v.CalledField of k) = Some (findings.a_called_field (string_bytes of) (string_bytes k))
subject_view v.CalledExpression = Some findings.a_called_expression
subject_view (v.Filter x) = Some (findings.a_filter (string_bytes x))
subject_view (v.Test x) = Some (findings.a_test (string_bytes x))
subject_view (v.Macro x) = Some (findings.a_macro (string_bytes x))
subject_view v.Bindings = Some findings.the_bindings
subject_view v.Names = Some findings.the_names
subject_view (v.Chain s) = None
subject_view (v.Limit l) = None

-- The broken rule of names and calls that a place and a subject state.
abbrev pub rule_at : ScopeError → TagPlace → findings.Subject → findings.Finding
rule_at rule place about = record {
  rule = rule;
  template = string_bytes place.template;
  line = place.line;
  subject = about;
}

-- The finding states that broken rule.
pub record IsBroken (found : findings.Finding) (f : Finding) : Type 0 where
  pub place : TagPlace
  pub subject : Subject
  pub about : findings.Subject
  pub states : f ≡ record { error = error.Scope found.rule; place = Some place; subject = Some subject }
  pub subject_is : subject_view subject ≡ Some about
  pub is : rule_at found.rule place about ≡ found

module _ (given : SourceTexts) (options : Options) where
  -- The subject of a source that spells no allowed tree, if it is known: the unknown filter or test that
  -- the first such tag at the line names.
  abbrev pub IsUnread : Text → ParseError → Option Subject → Type 0
  IsUnread template e None = Unit {0}
  IsUnread template (parse_error.UnknownFilter line) (Some (v.Filter x)) =
      HasUnknown given options template line named.Filter (string_bytes x)
  IsUnread template (parse_error.UnknownTest line) (Some (v.Test x)) =
      HasUnknown given options template line named.Test (string_bytes x)
  IsUnread template e subject = ⊥

  -- The subject of an error of a chain. Only an unknown filter or test has one.
  abbrev pub IsUnknown : ChainError → Option Subject → Type 0
  IsUnknown (chain_error.Parse name e) subject = IsUnread (string_bytes name) e subject
  IsUnknown e subject = subject ≡ None

  -- The place and the subject of a source that spells no allowed tree.
  pub record IsSourcePlace (e : ChainError) (place : Option TagPlace) (subject : Option Subject) : Type 0 where
    pub source : IsTrue (is_some (errors.place e))
    pub at : option_map (λ p. (string_bytes p.template, p.line)) place ≡ errors.place e
    pub about : IsUnknown e subject

module _ (given : SourceTexts) (entry : Text) (options : Options) where
  -- What a rule of chains is about. What is said of it and of the place is true.
  pub record IsRulePlace (e : ChainError) (place : Option TagPlace) (subject : Option Subject) : Type 0 where
    pub about : ChainSubject
    pub is : subject ≡ Some (v.Chain about)
    pub says : Says given entry options place (Some about) e

  -- The place and the subject of an error of a chain: those of a source, or of a rule of chains.
  abbrev pub IsChainPlace : ChainError → Option TagPlace → Option Subject → Type 0
  IsChainPlace e place subject = IsSourcePlace given options e place subject ⊎ IsRulePlace e place subject

  -- The finding states the error of a chain.
  pub record IsOfChain (e : ChainError) (f : Finding) : Type 0 where
    pub some : e ≢ chain_error.NoMemory
    pub states : f.error ≡ error.Chain e
    pub placed : IsChainPlace e f.place f.subject

  -- A chain of the entry breaks the rule at the place, in the subject.
  pub record IsTrueOfChain (found : findings.Finding) : Type 0 where
    pub chain : Seen
    pub is : IsOnlyChain given entry options chain
    pub holds : findings.Holds found (cenv_of chain) chain.order

  abbrev pub IsRuleOf : ScopeError → TagPlace → Option findings.Subject → Type 0
  IsRuleOf rule place (Some about) = IsTrueOfChain (rule_at rule place about)
  IsRuleOf rule place None = ⊥

  -- The subject is a limit of this error, and the image of the entry would pass it.
  abbrev pub IsLimit : CompileError → Option Subject → Type 0
  IsLimit e (Some (v.Limit limit)) = (error_of limit ≡ e) × HasProgram given entry options (Passes limit)
  IsLimit e subject = ⊥

  -- The place and the subject are those of the error. A broken rule of names and calls has both, and an
  -- image that would be too large always has its limit.
  abbrev pub IsPlaceOf : CompileError → Option TagPlace → Option Subject → Type 0
  IsPlaceOf (error.Scope rule) (Some place) (Some subject) = IsRuleOf rule place (subject_view subject)
  IsPlaceOf (error.Scope rule) place subject = ⊥
  IsPlaceOf (error.Chain e) place subject = IsChainPlace e place subject
  IsPlaceOf error.CodeTooLong place subject = (place ≡ None) × IsLimit error.CodeTooLong subject
  IsPlaceOf error.StackTooDeep place subject = (place ≡ None) × IsLimit error.StackTooDeep subject
  IsPlaceOf e place subject = (place ≡ None) × (subject ≡ None)

  -- The finding is true: `compile` may answer the error, and its place and subject are right.
  pub record IsFinding (f : Finding) : Type 0 where
    pub some : f.error ≢ error.NoMemory
    pub broken : Breaks given entry options f.error
    pub placed : IsPlaceOf f.error f.place f.subject

  -- What is said of the entry holds.
  abbrev pub IsExplained : Explained → Type 0
  IsExplained explained.Compiles = (code : Code) × IsCompiled given entry options code
  IsExplained (explained.Refused f) = IsFinding f
