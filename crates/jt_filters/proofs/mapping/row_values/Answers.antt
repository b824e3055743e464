use Rattle.std.proofs.Common.{arith}
use Rattle.jt_filters.proofs.ItemResults.{front_values}
use Rattle.jt_filters.proofs.mapping.row_values.Goals as goal

pub loop-item-preserved : goal.loop-item-preserved
loop-item-preserved c = grind (arith, front_values)

pub returns-clause-ok : goal.returns-clause-ok
returns-clause-ok c = grind (arith, front_values)
