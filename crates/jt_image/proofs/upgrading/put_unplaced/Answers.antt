use Rattle.std.proofs.Common.{rules, arith}
use Rattle.std.proofs.lemmas.Grind.{common_steps}
use Rattle.std.proofs.lemmas.List.{take_rest}
use Rattle.jt_image.proofs.UpgradeCorrect.{unplaced_spelled, put_together}
use Rattle.jt_image.proofs.upgrading.put_unplaced.Goals as goal

pub returns : goal.returns
returns c = search (arith, rules, common_steps, take_rest, put_together, unplaced_spelled)
