use Rattle.jt_layout.proofs.indices.next_bodies.Goals as goal
use Rattle.jt_layout.proofs.{common_steps, arith, rules, given_turn, nexts_turn, required_turn}

pub loop-index-preserved-then-block : goal.loop-index-preserved-then-block
loop-index-preserved-then-block c = search (arith, rules, common_steps, required_turn, nexts_turn)

pub loop-index-preserved : goal.loop-index-preserved
loop-index-preserved c = search (arith, rules, common_steps, given_turn, nexts_turn)
