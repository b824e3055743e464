use Rattle.jt_bind.proofs.{drop, followed, body_view, values, BodyLeads, templates_of, sets_of, Stmts}
use Rattle.jt_bind.proofs.resolver.Resolver.resolve_sets.Given as goal

abbrev pub invariant-loop-statement : goal.invariant-loop-statement
invariant-loop-statement l =
    (left : Stmts) → BodyLeads (templates_of l.self) (followed (sets_of l.self (body_view l.body)) left)
    (followed (sets_of l.self (body_view (drop l.statement-index l.body))) left) l.initial.done.items l.done.items
    (values l.initial.pool) (values l.pool)
