use Rattle.jt_semantics.specs.Programs as programs
use Rattle.jt_bind.proofs.{◌≡◌, [], drop, flat_map, values, cenv_in, order_in, templates_in, RoutinesLead}
use Rattle.jt_bind.proofs.namespaces.resolve_namespaces.Given as goal

abbrev pub invariant-loop-namespace : goal.invariant-loop-namespace
invariant-loop-namespace l = record {
  same : l.tables.chain.now ≡ l.initial.tables.chain.now;
  lead : RoutinesLead (templates_in l.initial.tables)
      (programs.routines (cenv_in l.initial.tables) (order_in l.initial.tables))
      (flat_map (programs.chain_routines (cenv_in l.initial.tables) (order_in l.initial.tables))
      (drop l.namespace (order_in l.initial.tables)))
      [] l.routines.items (values l.initial.pool) (values l.pool);
}
