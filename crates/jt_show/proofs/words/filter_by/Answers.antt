use Rattle.jt_image.proofs.LookupById.{filter_is}
use Rattle.jt_show.proofs.words.filter_by.Goals as goal

pub returns : goal.returns
returns c = filter_is c.args.id c.by_id.result c.by_id.ensures.found c.by_id.ensures.only
