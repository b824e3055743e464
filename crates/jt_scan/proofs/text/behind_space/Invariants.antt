use Rattle.std.proofs.Common.{◌≡◌, length}
use denote.Text.{Utf8}
use denote.Shadow.{shadow}
use Rattle.std.specs.Str.{chars}
use Rattle.jt_scan.specs.Cut.{after_space}
use Rattle.jt_scan.proofs.text.behind_space.Given as goal

abbrev pub invariant-space : goal.invariant-space
invariant-space l = shadow (Utf8 l.rest) × (after_space (chars l.text) ≡ after_space (chars l.rest))

abbrev pub decreases-space : goal.decreases-space
decreases-space l = length (chars l.rest)
