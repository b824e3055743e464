use Rattle.jt_checks.proofs.checking.has_few_names.Given as goal
use Rattle.jt_checks.proofs.{cenv_in, ◌≡◌, ◌+◌, ◌≤◌, drop, chain_view, names_counted}

abbrev pub invariant-loop-namespace : goal.invariant-loop-namespace
invariant-loop-namespace l = record {
  within : l.left ≤ 65535;
  sum : l.left + names_counted (cenv_in l.facts.chain.now) (chain_view l.facts.chain.now).order
      ≡ 65535 + names_counted (cenv_in l.facts.chain.now) (drop l.namespace (chain_view l.facts.chain.now).order);
}
