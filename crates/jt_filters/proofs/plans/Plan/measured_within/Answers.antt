use Rattle.jt_filters.specs.internal.Plans.{made}
use Rattle.jt_filters.proofs.plans.Plan.measured_within.Goals as goal

pub returns-in-Ok : goal.returns-in-Ok
returns-in-Ok c =
    let wanted = made c.args.self in
    c.built.ensures c.args.limits wanted (c.in-Ok.ensures.ok wanted c.measure.ensures) c.build.ensures

pub returns-in-Err : goal.returns-in-Err
returns-in-Err c = c.in-Err.ensures.refused (made c.args.self) c.measure.ensures
