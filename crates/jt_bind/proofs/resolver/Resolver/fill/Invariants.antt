use Rattle.jt_bind.proofs.{List, drop, Tree, pairs_view, keywords, parameters_view, filled, locals_from, RowLeads}
use Rattle.jt_bind.proofs.resolver.Resolver.fill.Given as goal

abbrev pub invariant-loop-parameter : goal.invariant-loop-parameter
invariant-loop-parameter l =
    (p : List Tree) → RowLeads (filled (parameters_view l.parameter-items) 0 l.initial.default
    (locals_from l.self.senv.free (keywords (pairs_view l.arguments.pairs.now))))
    (filled (parameters_view (drop l.parameter-index l.parameter-items)) 0 l.default
    (locals_from l.self.senv.free (keywords (pairs_view l.arguments.pairs.now))))
    l.initial.done.items l.done.items p p
