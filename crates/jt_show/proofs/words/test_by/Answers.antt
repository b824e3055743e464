use Rattle.jt_image.proofs.LookupById.{test_is}
use Rattle.jt_show.proofs.words.test_by.Goals as goal

pub returns : goal.returns
returns c = test_is c.args.id c.by_id.result c.by_id.ensures.found c.by_id.ensures.only
