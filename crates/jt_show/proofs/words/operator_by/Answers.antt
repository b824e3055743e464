use Rattle.jt_image.proofs.LookupById.{operator_is}
use Rattle.jt_show.proofs.words.operator_by.Goals as goal

pub returns : goal.returns
returns c = operator_is c.args.id c.by_id.result c.by_id.ensures.found c.by_id.ensures.only
