use Rattle.std.proofs.Common.{◌≡◌, ◌++◌, length}
use denote.Text.{Utf8}
use denote.Shadow.{shadow}
use Rattle.std.specs.Str.{chars}
use Rattle.std.specs.String.{string_bytes}
use lib.Utf8.{encodes}
use Rattle.jt_scan.specs.Literals.{unescaped}
use Rattle.jt_scan.proofs.quotes.text_value.Given as goal

abbrev pub invariant-pieces : goal.invariant-pieces
invariant-pieces l =
    shadow (Utf8 l.rest)
    × (string_bytes l.value ++ encodes (unescaped (chars l.rest)) ≡ encodes (unescaped (chars l.raw)))

abbrev pub decreases-pieces : goal.decreases-pieces
decreases-pieces l = length (chars l.rest)
