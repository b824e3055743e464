use Rattle.std.proofs.Common.{arith}
use Rattle.jt_verify.specs.Arena.{lists_of}
use Rattle.jt_verify.proofs.SkipLinks.{under_same, jump_is, further}
use Rattle.jt_verify.proofs.nodes.jump_on.Goals as goal

pub node_of-requires-2 : goal.node_of-requires-2
node_of-requires-2 c =
    omega (
      arith,
      (jump_is c.args.nodes.now c.requires.jumps c.args.below c.node_of.result c.node_of.ensures).0,
      c.requires.within,
    )

pub returns-then-near-far-clause-older : goal.returns-then-near-far-clause-older
returns-then-near-far-clause-older c =
    (further c.args.nodes.now c.requires.jumps c.args.below c.node_of.result c.node_of-2.result c.node_of.ensures
    c.node_of-2.ensures).0

pub returns-then-near-far-clause-under : goal.returns-then-near-far-clause-under
returns-then-near-far-clause-under c =
    (further c.args.nodes.now c.requires.jumps c.args.below c.node_of.result c.node_of-2.result c.node_of.ensures
    c.node_of-2.ensures).1

pub returns-clause-under : goal.returns-clause-under
returns-clause-under c = under_same (lists_of c.args.nodes.now) c.args.below
