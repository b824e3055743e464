use Rattle.std.proofs.Common.{length}
use Rattle.jt_machine.proofs.measure.+lasting.Given as goal

abbrev pub decreases-lasting : goal.decreases-lasting
decreases-lasting l = length l.pairs.now
