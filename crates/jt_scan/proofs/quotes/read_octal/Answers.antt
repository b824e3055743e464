use Rattle.std.proofs.Common.{◌≡◌, true, false, sym, ◌∙◌}
use lib.Utf8.{scalar}
use Rattle.std.specs.Str.{chars}
use Rattle.jt_scan.proofs.QuoteLoop.{octal_fits}
use Rattle.jt_scan.proofs.quotes.read_octal.Goals as goal

pub returns-in_err-character : goal.returns-in_err-character
returns-in_err-character c =
    let so : scalar c.some_digits-missing.result.1 ≡ true = octal_fits c.args.c c.from.result
    c.some_digits-missing.result.1 (chars c.args.more.now) (c.from.ensures ∙ c.digit_value.ensures)
    c.some_digits-missing.ensures.number in
    let no : scalar c.some_digits-missing.result.1 ≡ false = c.in_err-character.ensures in
    let f = sym so ∙ no in absurd cc
