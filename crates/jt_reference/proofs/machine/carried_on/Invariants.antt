use Rattle.std.proofs.Common.{◌≤◌}
use Rattle.jt_reference.specs.internal.Output.{most}
use Rattle.jt_reference.proofs.machine.carried_on.Given as goal

abbrev pub invariant-loop : goal.invariant-loop
invariant-loop l = most l.buffers ≤ most l.fn.buffers
