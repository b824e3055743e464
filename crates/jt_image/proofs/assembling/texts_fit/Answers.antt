use Rattle.std.proofs.Common.{◌≤◌, length, rules, tests}
use Rattle.std.proofs.lemmas.Iterator.{YieldsList-from_slice}
use Rattle.jt_image.specs.Code.{Name}
use Rattle.jt_image.specs.IsCode.{max_count}
use Rattle.jt_image.specs.View.{name_view}
use Rattle.jt_image.proofs.AllDecides.{all_seen}
use Rattle.jt_image.proofs.assembling.texts_fit.Goals as goal

pub returns : goal.returns
returns c =
    all_seen _ _ _ name_view (λ (n : Name). length n.text ≤ max_count) c.all.ensures.ran
    (YieldsList-from_slice c.args.names.now cc) (λ x b q k. search (rules, tests))
