use Rattle.std.proofs.Common.{IfOk, OnOk, IfErr, subst, ◌≡◌}
use Rattle.jt_chains.specs.Indices.{namespace_at}
use Rattle.jt_chains.specs.View.{chain_view}
use Rattle.jt_chains.specs.declared.chain.Chain.{Chain}
use Rattle.jt_ir.specs.View.{program_of}
use Rattle.jt_rules.specs.CompileEnv.{cenv_of}
use Rattle.jt_rules.specs.Rules.{KeepsRules, Breaks}
use Rattle.jt_semantics.specs.Programs.{program}
use Rattle.jt_scopes.specs.Means.{Means}
use Rattle.jt_scopes.proofs.resolving.resolve.Goals as goal

pub returns-clause-resolved : goal.returns-clause-resolved
returns-clause-resolved c =
    subst (λ (z : Chain). IfOk c.resolve_facts.result (λ made. program_of made
    ≡ program (cenv_of (chain_view z)) (chain_view z).order (namespace_at (chain_view z).order 0)))
    c.in_ok-facts.ensures.chain c.resolve_facts.ensures.resolved

pub returns-clause-means : goal.returns-clause-means
returns-clause-means c =
    subst (λ (z : Chain). IfOk c.resolve_facts.result (λ made. Means (chain_view z) (program_of made)))
    c.in_ok-facts.ensures.chain c.resolve_facts.ensures.means

pub returns-clause-kept : goal.returns-clause-kept
returns-clause-kept c =
    subst (λ (z : Chain). OnOk c.resolve_facts.result (KeepsRules (cenv_of (chain_view z)) (chain_view z).order))
    c.in_ok-facts.ensures.chain c.resolve_facts.ensures.kept

pub returns-clause-refused : goal.returns-clause-refused
returns-clause-refused c =
    subst (λ (z : Chain). IfErr c.resolve_facts.result (λ e. Breaks e (cenv_of (chain_view z)) (chain_view z).order))
    c.in_ok-facts.ensures.chain c.resolve_facts.ensures.refused
