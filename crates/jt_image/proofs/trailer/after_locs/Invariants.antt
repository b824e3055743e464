use Rattle.std.proofs.Common.{◌≡◌, ◌-◌, [], List}
use Rattle.jt_image.specs.Code.{SourceLoc}
use Rattle.jt_image.specs.Reading.{many_at, loc_at}
use Rattle.jt_image.proofs.trailer.after_locs.Given as goal

abbrev pub invariant-locs : goal.invariant-locs
invariant-locs l =
    (before : List SourceLoc) × (many_at (λ _. loc_at l.templates) (l.count - l.counter) before l.rest
    ≡ many_at (λ _. loc_at l.templates) l.count [] l.bytes)
