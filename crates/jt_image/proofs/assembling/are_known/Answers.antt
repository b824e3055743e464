use Rattle.std.proofs.Common.{sym, ◌∙◌, rules, tests}
use Rattle.std.proofs.lemmas.Bool.{false≢true}
use Rattle.std.proofs.lemmas.Iterator.{YieldsList-from_slice}
use Rattle.jt_image.specs.Parts.{IsWritable}
use Rattle.jt_image.specs.View.{unit_view, IsKnownUnit}
use Rattle.jt_image.proofs.AllDecides.{all_tell}
use Rattle.jt_image.proofs.PartsForAssembly.{known_units, unknown_units}
use Rattle.jt_image.proofs.assembling.are_known.Goals as goal

pub returns : goal.returns
returns c =
    let us = c.args.units.now in
    let t = all_tell _ _ c.all.result unit_view IsKnownUnit IsWritable c.all.ensures.ran (YieldsList-from_slice us cc)
    (λ x b q k. search (rules, tests)) in
    record {
      known = t.0.0;
      fits = t.1;
      seen = λ yes. known_units us (t.0.0 yes);
      unknown = λ no. unknown_units us (λ all. false≢true (sym no ∙ t.0.1 all));
    }
