use Rattle.jt_bind.proofs.{arith, rules, part_put, defaults_left}
use Rattle.jt_bind.proofs.shared.add_macros.Goals as goal

pub loop-entry-preserved : goal.loop-entry-preserved
loop-entry-preserved c = search (arith, rules, part_put, defaults_left)
