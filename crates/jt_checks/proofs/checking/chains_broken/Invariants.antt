use Rattle.jt_checks.specs.internal.RuleTests as broken
use Rattle.jt_checks.proofs.checking.chains_broken.Given as goal
use Rattle.jt_checks.proofs.{cenv_in, ◌≡◌, drop, chain_view}

abbrev pub invariant-loop-namespace : goal.invariant-loop-namespace
invariant-loop-namespace l =
    broken.chains_broken (cenv_in l.facts.chain.now) (drop l.namespace (chain_view l.facts.chain.now).order)
    ≡ broken.chains_broken (cenv_in l.facts.chain.now) (chain_view l.facts.chain.now).order
