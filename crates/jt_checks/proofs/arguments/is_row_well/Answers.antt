use Rattle.jt_checks.proofs.arguments.is_row_well.Goals as goal
use Rattle.jt_checks.proofs.{arith, rules, turn}

pub returns-then-not-is_argument_well : goal.returns-then-not-is_argument_well
returns-then-not-is_argument_well c =
    let next = turn c.args.filter c.args.row.now c.loop-index.index c.index-row-index.result (omega arith)
    c.index-row-index.is in
    search (arith, rules)

pub loop-index-preserved : goal.loop-index-preserved
loop-index-preserved c =
    let next = turn c.args.filter c.args.row.now c.loop-index.index c.index-row-index.result (omega arith)
    c.index-row-index.is in
    search (arith, rules)
