use Rattle.std.proofs.Common.{refl, subst, sym, None}
use Rattle.std.proofs.lemmas.Result.{err_from_is_err_and}
use Rattle.jt_chains.specs.View.{chain_view}
use Rattle.jt_chains.specs.declared.chain.Chain.{Chain}
use Rattle.jt_inherit.specs.declared.error.ChainError.TheVariants as chain_error
use Rattle.jt_codegen.specs.internal.Asked.{IsLinkedOf}
use Rattle.jt_codegen.proofs.Findings.{fault_asked, linked_asked, no_memory_asked}
use Rattle.jt_codegen.proofs.linking.checked_facts.Goals as goal

pub returns-clause-kept : goal.returns-clause-kept
returns-clause-kept c = λ asked of.
    let linked = subst (λ (z : Chain). IsLinkedOf asked (chain_view z)) (sym c.in_ok-facts.ensures.chain) of in
    linked_asked asked (chain_view c.in_ok-facts.facts.chain.now) linked
    (c.in_ok-check_chains.ensures.kept asked.given asked.entry asked.options linked.linked)
    (c.in_ok-check_chains.ensures.only asked.given asked.entry asked.options linked.linked)

pub returns-in_err-facts-clause-refused : goal.returns-in_err-facts-clause-refused
returns-in_err-facts-clause-refused c =
    let p = err_from_is_err_and c.from_residual.result c.from_residual.ensures.1 in
    rw (p.1, p.2) (λ asked of.
    no_memory_asked asked (record { error = chain_error.NoMemory; place = None; subject = None }) refl)

pub returns-in_err-check_chains-clause-refused : goal.returns-in_err-check_chains-clause-refused
returns-in_err-check_chains-clause-refused c =
    let p =
    err_from_is_err_and c.from_residual-in_err-check_chains.result c.from_residual-in_err-check_chains.ensures.1 in
    rw (p.1, p.2) (λ asked of.
    let linked = subst (λ (z : Chain). IsLinkedOf asked (chain_view z)) (sym c.in_ok-facts.ensures.chain) of in
    fault_asked asked _ (c.in_err-check_chains.ensures.refused asked.given asked.entry asked.options linked.linked)
    (c.in_err-check_chains.ensures.only asked.given asked.entry asked.options linked.linked))
