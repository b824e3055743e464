use Rattle.std.proofs.Common.{arith, rules}
use Rattle.jt_image.proofs.UpgradeCorrect.{unplaced_len}
use Rattle.jt_image.proofs.upgrading.spelled.Goals as goal

pub returns-then-len-gt-MAX_BYTES-clause-named : goal.returns-then-len-gt-MAX_BYTES-clause-named
returns-then-len-gt-MAX_BYTES-clause-named c = search (arith, rules, unplaced_len)

pub returns-clause-short : goal.returns-clause-short
returns-clause-short c = search (arith, rules, unplaced_len)
