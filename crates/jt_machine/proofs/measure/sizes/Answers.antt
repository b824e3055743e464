use Rattle.std.proofs.Common.{arith}
use Rattle.jt_machine.proofs.TopValues.{held_size-more}
use Rattle.jt_machine.proofs.measure.sizes.Goals as goal

pub entries-preserved : goal.entries-preserved
entries-preserved c = grind (arith, held_size-more)
