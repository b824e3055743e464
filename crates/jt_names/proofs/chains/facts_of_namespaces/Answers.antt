use Rattle.jt_names.proofs.chains.facts_of_namespaces.Goals as goal
use Rattle.jt_names.proofs.{IsKnown, each_pushed}

pub loop-namespace-preserved : goal.loop-namespace-preserved
loop-namespace-preserved c =
    let l = c.loop-namespace.invariant in
    let r = each_pushed (IsKnown c.args.chain.now) _ _ _ c.in_ok-push.ensures.items l.all l.each
    c.in_ok-facts_of_namespace.ensures in
    record { all = r.0; each = r.1 }
