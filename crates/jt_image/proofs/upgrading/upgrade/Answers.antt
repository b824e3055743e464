use Rattle.std.proofs.Common.{arith, rules}
use Rattle.jt_image.proofs.UpgradeCorrect.{same_run}
use Rattle.jt_image.proofs.upgrading.upgrade.Goals as goal

pub returns-in-Ok-clause-runs : goal.returns-in-Ok-clause-runs
returns-in-Ok-clause-runs c = search (arith, rules, same_run)
