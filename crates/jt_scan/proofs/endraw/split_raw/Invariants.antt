use Rattle.std.proofs.Common.{length}
use denote.Text.{Utf8}
use denote.Shadow.{shadow}
use Rattle.std.specs.Str.{chars}
use Rattle.jt_scan.specs.Cut.{ends_raw}
use Rattle.jt_scan.proofs.RawText.{IsClearTo}
use Rattle.jt_scan.proofs.endraw.split_raw.Given as goal

abbrev pub invariant-raw : goal.invariant-raw
invariant-raw l = shadow (Utf8 l.rest) × IsClearTo ends_raw (chars l.text) (chars l.rest)

abbrev pub decreases-raw : goal.decreases-raw
decreases-raw l = length (chars l.rest)
