use Rattle.std.proofs.Common.{arith}
use Rattle.jt_filters.specs.internal.Operands.{tree_of, items_in}
use Rattle.jt_filters.specs.internal.Rows.{gives}
use Rattle.jt_filters.proofs.ItemResults.{behind_item_fault, rest_measures}
use Rattle.jt_filters.proofs.mapping.row_measure.Goals as goal

pub returns-in-Err : goal.returns-in-Err
returns-in-Err c =
    behind_item_fault (gives c.args.change) (items_in c.loop-item.items) (items_in c.in-Some.behind)
    (tree_of c.in-Some.item) c.loop-item.size c.loop-item.nesting c.in-Err.fault _ c.in-Some.ensures.some
    c.in-Err.ensures c.loop-item.invariant.same

pub loop-item-preserved : goal.loop-item-preserved
loop-item-preserved c = grind (arith, rest_measures)
