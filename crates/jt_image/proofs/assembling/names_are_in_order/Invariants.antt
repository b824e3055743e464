use Rattle.std.proofs.Common.{[], take}
use Rattle.jt_image.specs.View.{names_view}
use Rattle.jt_image.specs.Reading.{IsTable}
use Rattle.jt_image.proofs.DecodeSoundLemmas.{AllGood}
use Rattle.jt_image.proofs.DecodeSound.{IsNamed}
use Rattle.jt_image.proofs.assembling.names_are_in_order.Given as goal

abbrev pub invariant-names : goal.invariant-names
invariant-names l = record {
  named : AllGood (IsNamed l.globals) [] (names_view (take l.index l.names));
  table : IsTable l.used.items l.globals (names_view (take l.index l.names));
}
