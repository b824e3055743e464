use Rattle.std.proofs.Common.{arith}
use Rattle.std.proofs.lemmas.Grind.{common_steps}
use Rattle.jt_image.proofs.LookupById.{test_is}
use Rattle.jt_verify.proofs.effect.takes.Goals as goal

pub returns : goal.returns
returns c =
    rw (← test_is c.args.test c.by_id.result c.by_id.ensures.found c.by_id.ensures.only) (grind (arith, common_steps))
