use Rattle.jt_inherit.proofs.Vocabulary.{◌≡◌, ◌<◌, ◌≤◌, subst, sym, arith, ⊎_elim, cases_lt, passed_on}
use Rattle.jt_inherit.specs.internal.Breaking.{KeepsAt}
use Rattle.jt_inherit.proofs.ChainsChecked.{checked, only_chain, only_memory, rule_finds}
use Rattle.std.proofs.lemmas.Result.{err_from_is_err_and}
use Rattle.jt_inherit.proofs.rules.check_chains.Goals as goal

pub loop-namespace-preserved : goal.loop-namespace-preserved
loop-namespace-preserved c = λ i lt.
    let n = c.loop-namespace.namespace in
    ⊎_elim (λ (before : i < n). c.loop-namespace.invariant i before)
    (λ (le : n ≤ i).
    let this : i ≡ n = omega arith in
    subst (KeepsAt c.args.facts.now.chain.now) (sym this) c.in_ok-check_rules.ensures.kept)
    (cases_lt i n)

pub returns-clause-kept : goal.returns-clause-kept
returns-clause-kept c = λ given entry options l.
    checked c.args.facts.now.chain.now l
    (λ i lt. c.loop-namespace.invariant i
    (omega (arith, lt, c.len-namespace-end.ensures, c.loop-namespace-test.false)))

pub returns-clause-only : goal.returns-clause-only
returns-clause-only c = λ given entry options l other is.
    let whole = c.args.facts.now.chain.now in
    only_chain whole l other is
    (checked whole l
    (λ i lt. c.loop-namespace.invariant i
    (omega (arith, lt, c.len-namespace-end.ensures, c.loop-namespace-test.false))))

pub returns-in_err-check_rules-clause-refused : goal.returns-in_err-check_rules-clause-refused
returns-in_err-check_rules-clause-refused c =
    λ given entry options l. passed_on _ c.from_residual.result c.from_residual.ensures.1
    (rule_finds c.args.facts.now.chain.now l c.loop-namespace.namespace
    (omega (arith, c.len-namespace-end.ensures, c.loop-namespace-test.true)) c.in_err-check_rules.field-0.0
    c.in_err-check_rules.ensures.broken)

pub returns-in_err-check_rules-clause-only : goal.returns-in_err-check_rules-clause-only
returns-in_err-check_rules-clause-only c =
    let whole = c.args.facts.now.chain.now in
    let e = c.in_err-check_rules.field-0.0 in
    let p = err_from_is_err_and c.from_residual.result c.from_residual.ensures.1 in
    rw (p.1, p.2) (λ given entry options l other is.
    only_memory whole l other is e
    (rule_finds whole l c.loop-namespace.namespace
    (omega (arith, c.len-namespace-end.ensures, c.loop-namespace-test.true)) e
    c.in_err-check_rules.ensures.broken))
