use Rattle.std.proofs.Common.{◌≡◌, ◌-◌, ◌≤◌, []}
use Rattle.jt_image.specs.internal.HeaderView.{headers_view}
use Rattle.jt_image.specs.Reading.{many_at, header_at, header_total, is_first}
use Rattle.jt_image.proofs.units.headers_at.Given as goal

abbrev pub invariant-headers : goal.invariant-headers
invariant-headers l = record {
  so_far : many_at header_at (l.count - l.counter) (headers_view l.headers.items) l.rest
      ≡ many_at header_at l.count [] l.bytes;
  total : l.total ≡ header_total (headers_view l.headers.items);
  within : l.total ≤ 262144;
  first : l.first ≡ is_first (headers_view l.headers.items);
}
