use Rattle.std.proofs.Common.{arith}
use Rattle.std.proofs.lemmas.Grind.{common_steps}
use Rattle.jt_image.proofs.UnitOffsets.{constant_stands}
use Rattle.jt_image.proofs.offsets.constant_start.Goals as goal

pub returns : goal.returns
returns c = grind (arith, common_steps, constant_stands)
