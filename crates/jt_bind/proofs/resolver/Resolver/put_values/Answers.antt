use Rattle.jt_bind.proofs
use proofs.{[], if◌then◌else◌, expr_view, slot_view, table_of, templates_of, line_of, drop_all, arith, lead_both}
use proofs.{assign_emitted, assign_step}
use Rattle.jt_bind.proofs.resolver.Resolver.put_values.Goals as goal

pub loop-name-preserved : goal.loop-name-preserved
loop-name-preserved c = λ left p.
    let l = c.loop-name in
    let r = c.args.self.now in
    lead_both (l.invariant left p)
    (assign_step (templates_of r) (line_of r c.args.line) (if c.args.with_context then table_of r else [])
    c.args.names.now l.name-index (slot_view l.slot) _ _ (expr_view c.handed-value.result) l.done.items
    c.put_assign.new.done.items c.loop-name-test.true c.in_ok-slot.ensures
    (λ k q u h. assign_emitted r c.args.line _ k _ _ _ q u h c.in_ok-put_assign.ensures)
    c.handed-value.ensures left p)

pub returns : goal.returns
returns c = λ p left.
    rw (drop_all c.loop-name.name-index c.args.names.now (omega arith)) at (c.loop-name.invariant left p)
