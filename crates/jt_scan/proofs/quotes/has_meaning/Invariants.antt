use Rattle.std.proofs.Common.{◌≡◌, length}
use denote.Text.{Utf8}
use denote.Shadow.{shadow}
use Rattle.std.specs.Str.{chars}
use Rattle.jt_scan.specs.Literals.{pieces}
use Rattle.jt_scan.proofs.quotes.has_meaning.Given as goal

abbrev pub invariant-pieces : goal.invariant-pieces
invariant-pieces l = shadow (Utf8 l.rest) × ((pieces 0 (chars l.raw)).1 ≡ (pieces 0 (chars l.rest)).1)

abbrev pub decreases-pieces : goal.decreases-pieces
decreases-pieces l = length (chars l.rest)
