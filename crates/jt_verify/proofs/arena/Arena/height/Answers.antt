use Rattle.std.proofs.Common.{arith, rules}
use Rattle.jt_verify.proofs.ShapesAreUnique.{height_in}
use Rattle.jt_verify.proofs.arena.Arena.height.Goals as goal

pub returns-clause-length : goal.returns-clause-length
returns-clause-length c = search (arith, rules, height_in)
