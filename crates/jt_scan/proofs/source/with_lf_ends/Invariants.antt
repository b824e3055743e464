use Rattle.std.proofs.Common.{◌≡◌, ◌++◌, false, length}
use denote.Text.{Utf8}
use denote.Shadow.{shadow}
use Rattle.std.specs.String.{string_bytes}
use Rattle.jt_scan.specs.LineEnds.{lf_ends}
use Rattle.jt_scan.proofs.source.with_lf_ends.Given as goal

abbrev pub invariant-ends : goal.invariant-ends
invariant-ends l = shadow (Utf8 l.rest) × (string_bytes l.held ++ lf_ends false l.rest ≡ lf_ends false l.text)

abbrev pub decreases-ends : goal.decreases-ends
decreases-ends l = length l.rest
