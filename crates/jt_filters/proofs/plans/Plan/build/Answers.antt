use Rattle.jt_filters.proofs.PlanPayloads.{plan_built}
use Rattle.jt_filters.proofs.plans.Plan.build.Goals as goal

pub returns-in_default : goal.returns-in_default
returns-in_default c = plan_built c.args.self c.build_new.result c.in_default.not-Operand c.build_new.ensures
