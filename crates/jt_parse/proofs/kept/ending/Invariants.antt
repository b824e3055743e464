use Rattle.std.proofs.Common.{length}
use denote.Text.{Utf8}
use denote.Shadow.{shadow}
use Rattle.std.specs.Str.{chars}
use Rattle.jt_parse.specs.internal.SideView.{test_of}
use Rattle.jt_parse.proofs.TrimmedEnds.{IsRun}
use Rattle.jt_parse.proofs.kept.ending.Given as goal

abbrev pub invariant-text : goal.invariant-text
invariant-text l =
    shadow (Utf8 l.run) × shadow (Utf8 l.rest)
    × IsRun (test_of l.space) l.start (chars l.text) l.starts (chars l.run) (chars l.rest)

abbrev pub decreases-text : goal.decreases-text
decreases-text l = length (chars l.rest)
