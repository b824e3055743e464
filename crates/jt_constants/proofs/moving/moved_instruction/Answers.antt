use Rattle.jt_constants.proofs.MovedWires.{moves, stays}
use Rattle.jt_constants.proofs.moving.moved_instruction.Goals as goal

pub returns-then-op-eq-DATA : goal.returns-then-op-eq-DATA
returns-then-op-eq-DATA c = moves c.args.instruction c.args.indices.now c.moved.result
    c.moved.ensures c.if-op-eq-DATA.either

pub returns-else-op-eq-DATA : goal.returns-else-op-eq-DATA
returns-else-op-eq-DATA c = stays c.args.instruction c.args.indices.now c.if-op-eq-DATA.false.0 c.if-op-eq-DATA.false.1
