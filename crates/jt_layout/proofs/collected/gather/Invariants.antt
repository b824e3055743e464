use Rattle.jt_layout.proofs.collected.gather.Given as goal
use Rattle.jt_layout.proofs.{drop, AreNames, its_order}

abbrev pub invariant-loop-namespace : goal.invariant-loop-namespace
invariant-loop-namespace l =
    AreNames l.facts.chain.now (drop l.namespace (its_order l.facts.chain.now)) l.collected
