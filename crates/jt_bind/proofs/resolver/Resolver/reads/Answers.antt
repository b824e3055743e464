use Rattle.jt_bind.proofs.{None, drop_all, arith, reads_next, lead_of, lead_both, row_entry}
use Rattle.jt_bind.proofs.resolver.Resolver.reads.Goals as goal

pub returns : goal.returns
returns c = λ p. rw (drop_all c.loop-name.name-index c.args.names.now (omega arith)) at (c.loop-name.invariant p)

pub loop-name-preserved : goal.loop-name-preserved
loop-name-preserved c = λ p.
    lead_both (c.loop-name.invariant p)
    (lead_of (reads_next _ c.args.names.now c.loop-name.name-index _ c.slot.result c.loop-name-test.true c.slot.ensures)
    (row_entry None _ (c.reading.ensures p) c.in_ok-push.ensures.items))
