use Rattle.jt_bind.proofs.{drop_all, arith, rules, sets_next, lead_both, lead_of, statements_left}
use Rattle.jt_bind.proofs.resolver.Resolver.resolve_sets.Goals as goal

pub loop-statement-preserved : goal.loop-statement-preserved
loop-statement-preserved c = search (arith, rules, lead_both, lead_of, sets_next, statements_left)

pub returns : goal.returns
returns c = λ left.
    rw (drop_all c.loop-statement.statement-index c.args.body.now (omega arith)) at (c.loop-statement.invariant left)
