use Rattle.std.proofs.Common.{arith}
use Rattle.jt_scan.proofs.EndsLaws.{never_longer}
use Rattle.jt_scan.proofs.source.Source.new.Goals as goal

pub invariant_of-result : goal.invariant_of-result
invariant_of-result c = grind (arith, never_longer)
