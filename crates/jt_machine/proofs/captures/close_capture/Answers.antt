use Rattle.std.proofs.Common.{arith}
use Rattle.jt_machine.proofs.AllocationPoints.{lost}
use Rattle.jt_machine.proofs.StepLemmas.{push_spent, push_goes_on, captured_size, captured_flat}
use Rattle.jt_machine.proofs.captures.close_capture.Goals as goal

pub returns-in-Some : goal.returns-in-Some
returns-in-Some c = grind (arith, push_spent, captured_size, captured_flat)

pub push_checked-requires-clause-fits : goal.push_checked-requires-clause-fits
push_checked-requires-clause-fits c = grind (arith, captured_size, captured_flat)

pub returns-in_err-captured : goal.returns-in_err-captured
returns-in_err-captured c = grind (arith, lost, push_goes_on, captured_size, captured_flat)

pub returns : goal.returns
returns c =
    rw (c.pop_capture.ensures, c.pop_outer-around.ensures)
    (rw (c.in_ok-captured.ensures, c.replace-text.ensures.value, c.replace-text.ensures.after) at
    c.push_checked.ensures)
