use Rattle.std.proofs.Common.{arith, rules}
use Rattle.jt_verify.proofs.ShapesAreUnique.{equal_is}
use Rattle.jt_verify.proofs.arena.Arena.is_equal.Goals as goal

pub returns : goal.returns
returns c = search (arith, rules, equal_is)
