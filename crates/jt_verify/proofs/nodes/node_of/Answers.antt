use Rattle.std.proofs.Common.{arith}
use Rattle.jt_verify.proofs.SkipLinks.{at_some}
use Rattle.jt_verify.proofs.nodes.node_of.Goals as goal

pub returns-then-node-eq0 : goal.returns-then-node-eq0
returns-then-node-eq0 c = rw c.if-node-eq0.true c.none.ensures

pub returns : goal.returns
returns c = at_some c.args.nodes.now c.args.node c.node_at.result (omega (arith, c.if-node-eq0.false)) c.node_at.ensures
