use Rattle.jt_chains.proofs.chain.Chain.libraries.Given as goal
use Rattle.jt_chains.proofs.{libraries, ◌≡◌, ◌++◌, ◌<◌, ◌≤◌, [], length, map, drop, along, libraries_in, its_templates}
use Rattle.jt_chains.proofs.{body_view, its_sources, namespace_in}

abbrev pub invariant-loop-index : goal.invariant-loop-index
invariant-loop-index l = record {
  there : l.namespace < length l.self.namespaces.items
      → map (λ n. n.now) l.found.items
      ++ along (its_templates l.self) (λ n b. libraries_in b) (drop l.index-index l.index-items)
      ≡ libraries (its_sources l.self) (namespace_in l.self l.namespace);
  nowhere : length l.self.namespaces.items ≤ l.namespace → l.found.items ≡ [];
}

abbrev pub invariant-loop-statement : goal.invariant-loop-statement
invariant-loop-statement l =
    map (λ n. n.now) l.found.items ++ libraries_in (body_view (drop l.statement-index l.statement-items))
    ≡ map (λ n. n.now) l.initial.found.items ++ libraries_in (body_view l.statement-items)
