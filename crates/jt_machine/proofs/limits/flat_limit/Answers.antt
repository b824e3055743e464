use Rattle.std.proofs.Common.{arith}
use Rattle.jt_machine.proofs.limits.flat_limit.Goals as goal

pub returns : goal.returns
returns c = λ t size flat. c.limit_by.ensures t (omega arith) (omega arith)
