use Rattle.std.proofs.Common.{rules, tests}
use Rattle.std.proofs.lemmas.Iterator.{YieldsList-from_slice}
use Rattle.jt_image.specs.IsCode.{IsSourceLoc}
use Rattle.jt_image.specs.View.{loc_view}
use Rattle.jt_image.proofs.AllDecides.{all_seen}
use Rattle.jt_image.proofs.assembling.locs_are_in_order.Goals as goal

pub returns : goal.returns
returns c =
    all_seen _ _ _ loc_view (IsSourceLoc c.args.templates) c.all.ensures.ran (YieldsList-from_slice c.args.locs.now cc)
    (λ x b q k. search (rules, tests))
