use Rattle.jt_names.proofs.chains.facts_of_namespaces.Given as goal
use Rattle.jt_names.proofs.{EachKnown, ◌≡◌, length}

abbrev pub invariant-loop-namespace : goal.invariant-loop-namespace
invariant-loop-namespace l = record {
  all : length l.found.items ≡ l.namespace;
  each : EachKnown l.chain l.found.items;
}
