use Rattle.std.proofs.Common.{arith}
use Rattle.std.proofs.lemmas.Grind.{common_steps}
use Rattle.jt_image.proofs.LookupById.{filter_is}
use Rattle.jt_verify.proofs.effect.accepts.Goals as goal

pub returns : goal.returns
returns c =
    rw (← filter_is c.args.filter c.by_id.result c.by_id.ensures.found c.by_id.ensures.only)
    (grind (arith, common_steps))
