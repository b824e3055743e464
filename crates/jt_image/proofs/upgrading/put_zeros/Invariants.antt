use Rattle.std.proofs.Common.{◌≡◌, ◌++◌, replicate}
use Rattle.jt_image.proofs.upgrading.put_zeros.Given as goal

abbrev pub invariant-zeros : goal.invariant-zeros
invariant-zeros l = l.out.items ≡ l.fn.out.items ++ replicate l.counter 0
