use Rattle.jt_ops.proofs.Places.{item_at_view}
use Rattle.jt_ops.proofs.item.at.Goals as goal

pub returns : goal.returns
returns c = item_at_view _ _ c.get.result c.get.ensures.lookup
