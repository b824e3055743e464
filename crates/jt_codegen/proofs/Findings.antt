-- What an explanation states is true of the entry.
use Rattle.std.proofs.Common.{◌≡◌, ℕ, true, List, [], ◌∷◌, Option, Some, None, refl, sym, ap, ◌∙◌, subst, inl, inr}
use Rattle.std.specs.Prelude.{◌≢◌, ◌⊎◌, Result, Ok, Err, IfOk, IfErr}
use Rattle.std.specs.Option.{is_some}
use Rattle.jt_scan.specs.declared.options.Options.{Options}
use Rattle.jt_ast.specs.Expressions.{Text}
use Rattle.jt_chains.specs.Chain.{Namespace, Template}
use Rattle.jt_chains.specs.Indices.{namespace_at}
use Rattle.jt_chains.specs.View.{Seen, sources_of}
use Rattle.jt_checks.specs.Findings as findings
use Rattle.jt_checks.specs.Findings.{IsFoundAt, IsFoundIn, BreaksAt}
use Rattle.jt_inherit.specs.Chains.{SourceTexts, IsChain}
use Rattle.jt_inherit.specs.Findings as inherit_findings
use Rattle.jt_inherit.specs.Findings.{Says}
use Rattle.jt_inherit.specs.Lines as lines
use Rattle.jt_inherit.specs.Refusals as inherit
use Rattle.jt_inherit.specs.declared.error.ChainError.{ChainError}
use Rattle.jt_inherit.specs.declared.error.ChainError.TheVariants as chain_error
use Rattle.jt_inherit.specs.declared.finding.ChainFinding.{ChainFinding}
use Rattle.jt_inherit.specs.declared.finding.TagPlace.{TagPlace}
use Rattle.jt_rules.specs.CompileEnv.{CompileEnv, cenv_of}
use Rattle.jt_rules.specs.Rules as rules
use Rattle.jt_rules.specs.Rules.{ForSome, KeepsRules}
use Rattle.jt_rules.specs.declared.error.ScopeError.{ScopeError}
use Rattle.jt_rules.specs.declared.error.ScopeError.TheVariants as scope_error
use Rattle.jt_uses.specs.Uses.{Site, body_uses, outside}
use Rattle.jt_ir.specs.Slots.{Program}
use Rattle.jt_semantics.specs.Programs.{program}
use Rattle.jt_codegen.specs.Compiled.{IsOnlyChain}
use Rattle.jt_codegen.specs.Explaining.{IsBroken, IsFinding, IsOfChain, IsPlaceOf, IsRuleOf}
use Rattle.jt_codegen.specs.Passed.{error_of}
use Rattle.jt_codegen.specs.Refusals.{Breaks}
use Rattle.jt_codegen.specs.internal.Asked.{Asked, IsChainOf, IsFaultOf, IsLinkedOf, IsProgramOf, PassesOf}
use Rattle.jt_codegen.specs.internal.ErrorsAlone.{StatesError}
use Rattle.jt_codegen.proofs.ChainImages.{limit_breaks, only_chain}
use Rattle.jt_codegen.specs.declared.emission.EmitError.TheVariants as emit_error
use Rattle.jt_codegen.specs.declared.finding.Finding.{Finding}
use Rattle.jt_codegen.specs.declared.finding.Limit.{Limit}
use Rattle.jt_codegen.specs.declared.finding.Limit.TheVariants as limit
use Rattle.jt_codegen.specs.declared.finding.Subject.{Subject}
use Rattle.jt_codegen.specs.declared.finding.Subject.TheVariants as v

-- A linked chain that breaks no rule of chains is that of the entry.
pub linked_asked : (asked : Asked) (c : Seen) → IsLinkedOf asked c → IsChain asked.given asked.entry asked.options c
    → ((d : Seen) → IsChain asked.given asked.entry asked.options d → (n : Text) → sources_of c n ≡ sources_of d n)
    → IsChainOf asked c
linked_asked asked c linked is one = record {
  only = only_chain asked.given asked.entry asked.options c is linked.linked.only one;
  weighs = linked.weighs;
  short = linked.short;
  few = linked.few;
}

pub fault_asked : (asked : Asked) (f : ChainFinding)
    → inherit_findings.IsFinding asked.given asked.entry asked.options f
    → ((d : Seen) → IsChain asked.given asked.entry asked.options d → f.error ≡ chain_error.NoMemory)
    → IsFaultOf asked f
fault_asked asked f finding only = record { finding = finding; only = only }

pub faults_asked : {A : Type 0} (asked : Asked) (r : Result A ChainFinding)
    → IfErr r (inherit_findings.IsFinding asked.given asked.entry asked.options)
    → ((d : Seen) → IsChain asked.given asked.entry asked.options d → IfErr r (λ f. f.error ≡ chain_error.NoMemory))
    → IfErr r (IsFaultOf asked)
faults_asked asked (Ok x) finding only = tt
faults_asked asked (Err f) finding only = fault_asked asked f finding only

pub no_memory_asked : (asked : Asked) (f : ChainFinding) → inherit_findings.IsNoMemory f → IsFaultOf asked f
no_memory_asked asked f is =
    fault_asked asked f (rw is (record { broken = tt; says = refl })) (λ d i. ap (λ (x : ChainFinding). x.error) is)

-- What no item has, none of the items of a list has.
some_not : {A : Type 0} (P : A → Type 0) (xs : List A) → ((x : A) → P x → ⊥) → ForSome P xs → ⊥
some_not P [] none s = s
some_not P (x ∷ xs) none (inl p) = none x p
some_not P (x ∷ xs) none (inr s) = some_not P xs none s

-- Lack of memory is no broken rule.
site_not : (cenv : CompileEnv) (h : Namespace) (f : findings.Finding) → f.rule ≡ scope_error.NoMemory → (s : Site)
    → IsFoundAt cenv h f s → ⊥
site_not cenv h f e s at = subst (λ r. BreaksAt cenv h r s.made s.place.around) e at.broken

template_not : (cenv : CompileEnv) (h : Namespace) (f : findings.Finding) → f.rule ≡ scope_error.NoMemory
    → (t : Template) → IsFoundIn cenv h f t → ⊥
template_not cenv h f e t found = of found.found
  where
    of : ForSome (IsFoundAt cenv h f) (body_uses t.body outside) ⊎ findings.PassesBindings cenv h f t → ⊥
    of (inl s) = some_not (IsFoundAt cenv h f) (body_uses t.body outside) (site_not cenv h f e) s
    of (inr b) = let is = b.rule in cc

pub memory_not : (cenv : CompileEnv) (order : List Namespace) (f : findings.Finding) → findings.Holds f cenv order
    → f.rule ≡ scope_error.NoMemory → ⊥
memory_not cenv order f (inl s) e =
    some_not _ order (λ h. some_not (IsFoundIn cenv h f) _ (template_not cenv h f e)) s
memory_not cenv order f (inr p) e = let is = p.rule in cc

abbrev finding_of : ScopeError → Text → ℕ → findings.Subject → findings.Finding
finding_of rule t line a = record { rule = rule; template = t; line = line; subject = a }

-- Findings are equal if their templates and subjects are.
pub same_finding : (rule : ScopeError) (t u : Text) (line : ℕ) (a b : findings.Subject) → t ≡ u → a ≡ b
    → finding_of rule t line a ≡ finding_of rule u line b
same_finding rule t u line a b e f =
    ap (λ (x : Text). finding_of rule x line a) e ∙ ap (λ (x : findings.Subject). finding_of rule u line x) f

-- The finding of a broken rule of names and calls.
pub rule_found : (given : SourceTexts) (entry : Text) (options : Options) (c : Seen)
    → IsOnlyChain given entry options c → (found : findings.Finding) → rules.Breaks found.rule (cenv_of c) c.order
    → findings.Holds found (cenv_of c) c.order → (f : Finding) → IsBroken found f → IsFinding given entry options f
rule_found given entry options c is found broken holds f b =
    subst (IsFinding given entry options) (sym b.states) (record {
      some = λ q. cc;
      broken =
          record { chain = c; is = is; fault = memory_not (cenv_of c) c.order found holds; broken = broken };
      placed = subst (IsRuleOf given entry options found.rule b.place) (sym b.subject_is) (record {
        chain = c;
        is = is;
        holds = subst (λ z. findings.Holds z (cenv_of c) c.order) (sym b.is) holds;
      });
    })

-- ---- errors of chains

module _ (given : SourceTexts) (entry : Text) (options : Options) where
  -- An error that is said without a subject is that of a source.
  of_source : (e : ChainError) → e ≢ chain_error.NoMemory → (p : Option TagPlace)
      → Says given entry options p None e → is_some (lines.place e) ≡ true
  of_source (chain_error.Scan name x) some p says = refl
  of_source (chain_error.Parse name x) some p says = refl
  of_source chain_error.NoMemory some p says = absurd (some refl)
  of_source e some None says = absurd (cc)
  of_source e some (Some p) says = absurd (cc)

  -- The finding of an error that has no subject of its own.
  pub alone_found : {E : Type 0} (e : ChainError) → e ≢ chain_error.NoMemory → (p : Option TagPlace)
      → Says given entry options p None e → (r : Result Finding E) → IfOk r (StatesError given options e)
      → IfOk r (IsOfChain given entry options e)
  alone_found e some p says (Ok f) h =
      record {
        some = some;
        states = h.states;
        placed = inl (record { source = of_source e some p says; at = h.at; about = h.about });
      }
  alone_found e some p says (Err x) h = tt

-- The finding of an error of a chain.
pub chain_found : (given : SourceTexts) (entry : Text) (options : Options) (e : ChainError)
    → inherit.Breaks e given entry options → ((c : Seen) → IsChain given entry options c → e ≡ chain_error.NoMemory)
    → (f : Finding) → IsOfChain given entry options e f → IsFinding given entry options f
chain_found given entry options e broken none f of = record {
  some = λ q. let is = of.states in cc;
  broken =
      subst (Breaks given entry options) (sym of.states) (of.some, broken, λ c is. of.some (none c is));
  placed = subst (λ x. IsPlaceOf given entry options x f.place f.subject) (sym of.states) of.placed;
}

-- The program of the entry.
pub program_asked : (asked : Asked) (c : Seen) → IsChainOf asked c → KeepsRules (cenv_of c) c.order → (q : Program)
    → q ≡ program (cenv_of c) c.order (namespace_at c.order 0) → IsProgramOf asked q
program_asked asked c of kept q is = record { chain = c; of = of; kept = kept; is = is }

-- The finding of an image that would pass a limit.
pub limit_found : (asked : Asked) (l : Limit) → PassesOf asked (emit_error.Limit l)
    → IsFinding asked.given asked.entry asked.options
    (record { error = error_of l; place = None; subject = Some (v.Limit l) })
limit_found asked limit.Entries h =
    let broken = limit_breaks asked (emit_error.Limit limit.Entries) h in
    record { some = λ q. cc; broken = broken; placed = (refl, (refl, h)) }
limit_found asked l h =
    record { some = λ q. cc; broken = limit_breaks asked (emit_error.Limit l) h; placed = (refl, (refl, h)) }
