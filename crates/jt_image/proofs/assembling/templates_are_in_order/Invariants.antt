use Rattle.std.proofs.Common.{[], take}
use Rattle.jt_image.specs.View.{texts_view}
use Rattle.jt_image.proofs.DecodeSoundLemmas.{AllGood}
use Rattle.jt_image.proofs.TrailerRoundTrip.{Follows}
use Rattle.jt_image.proofs.assembling.templates_are_in_order.Given as goal

abbrev pub invariant-templates : goal.invariant-templates
invariant-templates l = AllGood Follows [] (texts_view (take l.index l.templates))
