use Rattle.jt_bind.proofs
use proofs.{None, drop_all, arith, add-one, rules, lead_of, lead_both, row_entry, filled_behind, parameters_behind}
use proofs.{parameters_left}
use Rattle.jt_bind.proofs.resolver.Resolver.fill.Goals as goal

pub returns : goal.returns
returns c = λ p.
    let qs = c.behind-parameter-items.result.now in
    let all = rw (drop_all c.loop-parameter.parameter-index qs (omega arith)) at (c.loop-parameter.invariant p) in
    rw (filled_behind, parameters_behind _ qs _ c.behind-parameter-items.ensures, ← c.in_ok-default.ensures) all

pub loop-parameter-preserved : goal.loop-parameter-preserved
loop-parameter-preserved c = search (arith, rules, lead_both, lead_of, add-one, parameters_left, row_entry None)
