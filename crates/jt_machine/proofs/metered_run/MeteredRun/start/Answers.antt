use Rattle.std.proofs.Common.{◌≡◌}
use Rattle.std.specs.Arc.{arc_value}
use Rattle.jt_machine.proofs.LeastBudget.{uses_least}
use Rattle.jt_machine.proofs.MeteredSlices.{all_safe}
use Rattle.jt_machine.proofs.SlicesAddUp.{runs_in_slices}
use Rattle.jt_machine.proofs.metered_run.MeteredRun.start.Goals as goal

pub returns-clause-safe : goal.returns-clause-safe
returns-clause-safe c =
    let is : c.deref.result.now ≡ arc_value c.args.image = cc (c.deref.ensures) in
    λ x b. all_safe c.code_laws.ensures c.deref.result.now (arc_value c.args.image) is c.image.ensures.whole
    c.image.ensures.typed x b

pub returns-clause-slices : goal.returns-clause-slices
returns-clause-slices c =
    let is : c.deref.result.now ≡ arc_value c.args.image = cc (c.deref.ensures) in
    λ x b. runs_in_slices (arc_value c.args.image) x b (all_safe c.code_laws.ensures c.deref.result.now
    (arc_value c.args.image) is c.image.ensures.whole c.image.ensures.typed x b)

pub returns-in_err-stage-clause-safe : goal.returns-in_err-stage-clause-safe
returns-in_err-stage-clause-safe c =
    let is : c.deref.result.now ≡ arc_value c.args.image = cc (c.deref.ensures) in
    λ x b. all_safe c.code_laws.ensures c.deref.result.now (arc_value c.args.image) is c.image.ensures.whole
    c.image.ensures.typed x b

pub returns-in_err-stage-clause-slices : goal.returns-in_err-stage-clause-slices
returns-in_err-stage-clause-slices c =
    let is : c.deref.result.now ≡ arc_value c.args.image = cc (c.deref.ensures) in
    λ x b. runs_in_slices (arc_value c.args.image) x b (all_safe c.code_laws.ensures c.deref.result.now
    (arc_value c.args.image) is c.image.ensures.whole c.image.ensures.typed x b)

pub returns-clause-least : goal.returns-clause-least
returns-clause-least c =
    let is : c.deref.result.now ≡ arc_value c.args.image = cc (c.deref.ensures) in
    λ x b. uses_least c.code_laws.ensures c.deref.result.now (arc_value c.args.image) is c.image.ensures.whole
    c.image.ensures.typed x b

pub returns-in_err-stage-clause-least : goal.returns-in_err-stage-clause-least
returns-in_err-stage-clause-least c =
    let is : c.deref.result.now ≡ arc_value c.args.image = cc (c.deref.ensures) in
    λ x b. uses_least c.code_laws.ensures c.deref.result.now (arc_value c.args.image) is c.image.ensures.whole
    c.image.ensures.typed x b
