use Rattle.std.proofs.Common.{◌≡◌, ◌+◌, length}
use denote.Text.{Utf8}
use denote.Shadow.{shadow}
use Rattle.std.specs.Str.{chars}
use Rattle.jt_scan.specs.Cut.{lines}
use Rattle.jt_scan.specs.View.{cut_of, HaveOptions}
use Rattle.jt_scan.proofs.TokenLoop.{IsCutOff}
use Rattle.jt_scan.proofs.scanner.read_segments.Given as goal

abbrev pub invariant-segments : goal.invariant-segments
invariant-segments l =
    shadow (Utf8 l.rest) × (l.line + lines (chars l.rest) ≡ 1 + lines (chars l.text))
    × IsCutOff (chars l.text) (cut_of l.segments.items) (chars l.rest)
    × HaveOptions l.options l.segments.items

abbrev pub decreases-segments : goal.decreases-segments
decreases-segments l = length (chars l.rest)
