use Rattle.jt_names.proofs.chains.facts_of_namespace.Given as goal
use Rattle.jt_chains.specs.Chain.{all_bodies, blocks_in, macros, macros_in, templates}
use Rattle.jt_chains.specs.Parts.{macros_view, blocks_view}
use Rattle.jt_chains.specs.Uses.{body_names, own_names, scope_names_in, scope_names}
use Rattle.jt_names.proofs.{needs_in, AllByRecursion, its_sources, its_templates, namespace_in, ◌≡◌, ◌<◌}
use Rattle.jt_names.proofs.{◌++◌, length, drop, all_inserted, ascending, along, flat_map, texts, true}

abbrev pub invariant-loop-index : goal.invariant-loop-index
invariant-loop-index l = record {
  within : AllByRecursion (λ i. i < length l.templates) l.index-items;
  all_names : all_inserted (along (its_templates l.chain) (λ n b. body_names b) (drop l.index-index l.index-items))
      (texts l.names.keys)
      ≡ ascending (own_names (its_sources l.chain) (namespace_in l.chain l.namespace));
  in_scopes : all_inserted (along (its_templates l.chain) (λ n b. scope_names_in b) (drop l.index-index l.index-items))
      (texts l.scope_names.keys)
      ≡ scope_names (its_sources l.chain) (namespace_in l.chain l.namespace);
  all_macros : macros_view (its_templates l.chain) l.macros.items
      ++ along (its_templates l.chain) macros_in (drop l.index-index l.index-items)
      ≡ macros (its_sources l.chain) (namespace_in l.chain l.namespace);
  all_blocks : blocks_view (its_templates l.chain) l.blocks.items
      ++ along (its_templates l.chain) (λ n b. blocks_in n b l.chain.autoescape) (drop l.index-index l.index-items)
      ≡ all_bodies (its_sources l.chain) l.chain.autoescape (namespace_in l.chain l.namespace);
  all_includes : texts l.includes.items
      ++ along (its_templates l.chain) (λ n b. needs_in true b) (drop l.index-index l.index-items)
      ≡ flat_map (λ t. needs_in true t.body) (templates (its_sources l.chain) (namespace_in l.chain l.namespace));
}
