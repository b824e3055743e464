use Rattle.std.proofs.Common.{arith, rules}
use Rattle.jt_filters.proofs.DistinctItems.{whole_next}
use Rattle.jt_filters.proofs.unique.unseen_measure.Goals as goal

pub loop-item-preserved : goal.loop-item-preserved
loop-item-preserved c = search (arith, rules, whole_next)
