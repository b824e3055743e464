use Rattle.std.proofs.Common.{◌≡◌, [], take, drop}
use Rattle.jt_image.specs.InPlace.{sections_in, HasUnit, AreCounted, AreRead}
use Rattle.jt_image.specs.internal.HeaderView.{headers_view}
use Rattle.jt_image.specs.Reading.{each_at, section_at, header_total}
use Rattle.jt_image.proofs.UnitOffsets.{unit_total}
use Rattle.jt_image.proofs.sections.offsets_at.Given as goal

abbrev pub invariant-offsets : goal.invariant-offsets
invariant-offsets l = record {
  so_far : each_at section_at (headers_view (drop l.header-index l.headers)) (sections_in l.bytes l.offsets.items)
      l.rest
      ≡ each_at section_at (headers_view l.headers) [] l.front;
  read : AreRead (HasUnit l.bytes) l.bytes l.offsets.items l.rest;
  counted : AreCounted 0 l.offsets.items;
  total : unit_total l.offsets.items ≡ l.first;
  first : l.first ≡ header_total (headers_view (take l.header-index l.headers));
}
