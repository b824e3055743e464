use Rattle.jt_bind.proofs
use proofs.{◌+◌, drop, pairs_view, Resolver, values_of, drop_all, ◌∙◌, arith, add-one, lead_both, assign_emitted}
use proofs.{values_followed, pairs_left, freed}
use Rattle.jt_bind.proofs.resolver.Resolver.resolve_values.Goals as goal

pub returns : goal.returns
returns c = λ left.
    let l = c.loop-value in
    rw values_followed (rw (drop_all l.value-index c.args.pairs.now (omega arith)) at (l.invariant left))

pub loop-value-preserved : goal.loop-value-preserved
loop-value-preserved c = λ behind.
    let l = c.loop-value in
    let r : Resolver = record c.args.self.now { senv = l.senv } in
    let ps = c.args.pairs.now in
    lead_both (rw (
      pairs_left ps l.value-index c.loop-value-item.result c.loop-value-test.true c.loop-value-item.is,
      ← (c.in_ok-senv.ensures ∙ add-one l.senv.free),
    ) at (l.invariant behind))
    (assign_emitted r c.args.line _ _ _ _ _ _ _ c.in_ok-given.ensures c.in_ok-put_assign.ensures
    (values_of (freed r c.in_ok-senv.field-0) (pairs_view (drop (l.value-index + 1) ps)) c.args.line behind))
