use Rattle.std.proofs.Common.{◌≡◌, length}
use denote.Text.{Utf8}
use denote.Shadow.{shadow}
use Rattle.std.specs.Str.{chars}
use Rattle.jt_scan.specs.Cut.{last_mark, last_from}
use Rattle.jt_scan.proofs.marks.last_mark.Given as goal

abbrev pub invariant-text : goal.invariant-text
invariant-text l = shadow (Utf8 l.rest) × (last_mark (chars l.text) ≡ last_from l.mark (chars l.rest))

abbrev pub decreases-text : goal.decreases-text
decreases-text l = length (chars l.rest)
