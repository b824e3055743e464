use Rattle.jt_machine.proofs.AllocationPoints.{lost}
use Rattle.jt_machine.proofs.loops.push_loop_over.Goals as goal

pub returns-in_err-frame : goal.returns-in_err-frame
returns-in_err-frame c = lost _ _ _ c.from_residual.result c.from_residual.ensures.1 tt

pub returns-in_err-push : goal.returns-in_err-push
returns-in_err-push c = lost _ _ _ c.from_residual-in_err-push.result c.from_residual-in_err-push.ensures.1 tt

pub returns : goal.returns
returns c = rw (c.in_ok-push.ensures, c.in_ok-frame.ensures) at c.step_on.ensures
