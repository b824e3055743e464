use Rattle.jt_bind.proofs.{drop, pairs_view, values, BodyLeads, templates_of, values_of, Stmts}
use Rattle.jt_bind.proofs.resolver.Resolver.resolve_values.Given as goal

abbrev pub invariant-loop-value : goal.invariant-loop-value
invariant-loop-value l =
    (behind : Stmts) → BodyLeads (templates_of l.self) (values_of l.self (pairs_view l.pairs) l.line behind)
    (values_of (record l.self { senv = l.senv }) (pairs_view (drop l.value-index l.pairs)) l.line behind)
    l.initial.done.items l.done.items (values l.initial.pool) (values l.pool)
