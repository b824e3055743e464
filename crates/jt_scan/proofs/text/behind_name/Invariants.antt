use Rattle.std.proofs.Common.{◌≡◌, length}
use denote.Text.{Utf8}
use denote.Shadow.{shadow}
use Rattle.std.specs.Str.{chars}
use Rattle.jt_scan.specs.internal.Scanning.{run}
use Rattle.jt_scan.proofs.text.behind_name.Given as goal

abbrev pub invariant-name : goal.invariant-name
invariant-name l = shadow (Utf8 l.rest) × ((run (chars l.text)).1 ≡ (run (chars l.rest)).1)

abbrev pub decreases-name : goal.decreases-name
decreases-name l = length (chars l.rest)
