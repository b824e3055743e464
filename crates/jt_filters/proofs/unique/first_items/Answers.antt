use Rattle.std.proofs.Common.{arith, rules}
use Rattle.jt_filters.proofs.DistinctItems.{whole_next}
use Rattle.jt_value.proofs.Lists.{joined_none}
use Rattle.jt_filters.proofs.unique.first_items.Goals as goal

pub loop-item-preserved : goal.loop-item-preserved
loop-item-preserved c = search (arith, rules, whole_next)

pub returns : goal.returns
returns c = search (arith, rules, joined_none)
