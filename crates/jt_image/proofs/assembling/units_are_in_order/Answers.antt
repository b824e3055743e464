use Rattle.std.proofs.Common.{rules, tests}
use Rattle.std.proofs.lemmas.Iterator.{YieldsList-from_slice}
use Rattle.jt_image.specs.Parts.{IsUnitInOrder}
use Rattle.jt_image.specs.View.{unit_view}
use Rattle.jt_image.proofs.AllDecides.{all_seen}
use Rattle.jt_image.proofs.assembling.units_are_in_order.Goals as goal

pub returns : goal.returns
returns c =
    all_seen _ _ _ unit_view IsUnitInOrder c.all.ensures.ran (YieldsList-from_slice c.args.units.now cc)
    (λ x b q k. search (rules, tests))
