use Rattle.jt_bind.proofs.{drop, pairs_view, keywords, parameters_view, filled_some, locals_from, values, RowLeads}
use Rattle.jt_bind.proofs.resolver.Resolver.fill_filter.Given as goal

abbrev pub invariant-loop-index : goal.invariant-loop-index
invariant-loop-index l =
    RowLeads (filled_some (parameters_view l.rest) 0 (keywords (pairs_view l.arguments.pairs.now))
    (locals_from l.self.senv.free (keywords (pairs_view l.arguments.pairs.now))))
    (filled_some (parameters_view (drop l.index l.rest)) 0 (keywords (pairs_view l.arguments.pairs.now))
    (locals_from l.self.senv.free (keywords (pairs_view l.arguments.pairs.now))))
    l.initial.done.items l.done.items (values l.initial.pool) (values l.pool)
