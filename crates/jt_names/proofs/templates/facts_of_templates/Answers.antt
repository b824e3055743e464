use Rattle.jt_names.proofs.templates.facts_of_templates.Goals as goal
use Rattle.jt_names.proofs.{IsKnownTemplate, each_pushed}

pub loop-index-preserved : goal.loop-index-preserved
loop-index-preserved c =
    let l = c.loop-index.invariant in
    let r = each_pushed (IsKnownTemplate c.args.chain.now) _ _ _ c.in_ok-push.ensures.items l.all l.each
    c.in_ok-facts_of_template.ensures in
    record { all = r.0; each = r.1 }
