use Rattle.jt_bind.proofs
use proofs.{chained_in, files_in, map, drop, layer_view, followed, values, BodyLeads, templates_in, Stmts}
use Rattle.jt_bind.proofs.routines.resolve_layers.Given as goal

abbrev pub invariant-loop-index : goal.invariant-loop-index
invariant-loop-index l = (left : Stmts) → BodyLeads (templates_in l.tables)
    (followed (chained_in l.tables
    (map (layer_view (files_in l.tables)) l.layers)) left)
    (followed (chained_in l.tables
    (map (layer_view (files_in l.tables)) (drop l.index l.layers))) left)
    l.initial.done.items l.done.items (values l.initial.pool) (values l.pool)
