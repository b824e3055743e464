use denote.Text.{Utf8}
use denote.Shadow.{shadow}
use Rattle.std.specs.Str.{chars}
use Rattle.jt_scan.proofs.QuoteLoop.{IsPart}
use Rattle.jt_scan.proofs.quotes.some_digits.Given as goal

abbrev pub invariant-digits : goal.invariant-digits
invariant-digits l =
    shadow (Utf8 l.rest) × IsPart l.base l.most l.start (chars l.text) l.missing l.number (chars l.rest)

abbrev pub decreases-digits : goal.decreases-digits
decreases-digits l = l.missing
