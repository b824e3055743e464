use Rattle.jt_checks.proofs.arguments.reached.Goals as goal
use Rattle.jt_checks.proofs.{arith, nat_tests, reached_more}

pub loop-left-preserved-then-not-named : goal.loop-left-preserved-then-not-named
loop-left-preserved-then-not-named c =
    let more = reached_more c.args.names.now c.args.parameters.now c.loop-left.left c.index-parameters-left.result
    (omega arith) (omega arith) c.index-parameters-left.is _ c.as_str.ensures.value _ _ _ c.contains-named.ensures.value
    c.loop-left.invariant.count c.loop-left.invariant.filled in
    grind (arith, nat_tests)

pub loop-left-preserved : goal.loop-left-preserved
loop-left-preserved c =
    let more = reached_more c.args.names.now c.args.parameters.now c.loop-left.left c.index-parameters-left.result
    (omega arith) (omega arith) c.index-parameters-left.is _ c.as_str.ensures.value _ _ _ c.contains-named.ensures.value
    c.loop-left.invariant.count c.loop-left.invariant.filled in
    grind (arith, nat_tests)
