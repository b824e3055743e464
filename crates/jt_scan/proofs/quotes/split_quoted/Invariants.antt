use Rattle.std.proofs.Common.{length}
use denote.Text.{Utf8}
use denote.Shadow.{shadow}
use Rattle.std.specs.Str.{chars}
use Rattle.jt_scan.proofs.QuoteLoop.{IsPassed}
use Rattle.jt_scan.proofs.quotes.split_quoted.Given as goal

abbrev pub invariant-quoted : goal.invariant-quoted
invariant-quoted l = shadow (Utf8 l.rest) × IsPassed l.quote (chars l.text) l.escaped (chars l.rest)

abbrev pub decreases-quoted : goal.decreases-quoted
decreases-quoted l = length (chars l.rest)
