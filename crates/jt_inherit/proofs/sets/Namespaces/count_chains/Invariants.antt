use Rattle.jt_inherit.proofs.Vocabulary.{◌≡◌, ◌+◌, ◌≤◌, length, drop, chains_of, keys_view}
use Rattle.jt_inherit.proofs.sets.Namespaces.count_chains.Given as goal

abbrev pub invariant-loop-namespace : goal.invariant-loop-namespace
invariant-loop-namespace l = record {
  counted : l.count + length (chains_of (keys_view (drop l.namespace-index l.namespace-items)))
      ≡ length (chains_of (keys_view l.self.items.items));
  few : l.count ≤ l.namespace-index;
}
