use Rattle.std.proofs.Common.{◌≡◌, length}
use Rattle.jt_hints.specs.Forms as spec
use Rattle.jt_hints.specs.internal.PlaceView.{place_view}
use Rattle.jt_hints.proofs.syntax.first_hint.Given as goal

abbrev pub invariant-tokens : goal.invariant-tokens
invariant-tokens l =
    spec.first_hint (place_view l.place) l.rest ≡ spec.first_hint (spec.start l.fn.form) l.tokens

abbrev pub decreases-tokens : goal.decreases-tokens
decreases-tokens l = length l.rest
