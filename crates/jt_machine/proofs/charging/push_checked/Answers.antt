use Rattle.jt_machine.proofs.Vocabulary.{step_on, config_view, view}
use Rattle.std.proofs.Common.{sym}
use Rattle.jt_machine.proofs.AllocationPoints.{lost}
use Rattle.jt_machine.proofs.StepLemmas.{push_fits, push_goes_on}
use Rattle.jt_machine.proofs.charging.push_checked.Goals as goal

pub returns : goal.returns
returns c =
    let on = rw c.in_ok-push.ensures at c.step_on.ensures in
    rw (push_fits (view c.args.value) (config_view c.args.state.now) step_on (sym c.requires.fits)) on

pub returns-in_err-push : goal.returns-in_err-push
returns-in_err-push c =
    lost _ _ _ c.from_residual.result c.from_residual.ensures.1
    (push_goes_on (view c.args.value) (config_view c.args.state.now) (sym c.requires.fits))
