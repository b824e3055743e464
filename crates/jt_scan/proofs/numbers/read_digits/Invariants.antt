use Rattle.std.proofs.Common.{length}
use denote.Text.{Utf8}
use denote.Shadow.{shadow}
use Rattle.std.specs.Str.{chars}
use Rattle.jt_scan.proofs.NumberLoop.{IsSum}
use Rattle.jt_scan.proofs.numbers.read_digits.Given as goal

abbrev pub invariant-digits : goal.invariant-digits
invariant-digits l = shadow (Utf8 l.rest) × IsSum l.base l.start (chars l.text) l.number (chars l.rest)

abbrev pub decreases-digits : goal.decreases-digits
decreases-digits l = length (chars l.rest)
