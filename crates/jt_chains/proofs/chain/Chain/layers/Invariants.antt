use Rattle.jt_chains.proofs.chain.Chain.layers.Given as goal
use Rattle.jt_chains.specs.Layers.{layer_view}
use Rattle.jt_chains.proofs.{templates, ◌≡◌, ◌++◌, ◌<◌, ◌≤◌, [], length, map, drop, layers_along, its_templates}
use Rattle.jt_chains.proofs.{its_sources, namespace_in}

abbrev pub invariant-loop-index : goal.invariant-loop-index
invariant-loop-index l = record {
  there : l.namespace < length l.self.namespaces.items
      → map (layer_view (its_templates l.self)) l.found.items
      ++ layers_along (its_templates l.self) (drop l.index-index l.indices)
      ≡ templates (its_sources l.self) (namespace_in l.self l.namespace);
  nowhere : length l.self.namespaces.items ≤ l.namespace → l.found.items ≡ [];
}
