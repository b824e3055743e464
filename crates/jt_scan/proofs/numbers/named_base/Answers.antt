use Rattle.std.proofs.Common.{◌≡◌, false, rules}
use Rattle.std.specs.Str.{chars}
use Rattle.jt_scan.specs.Literals.{names_base}
use Rattle.jt_scan.proofs.NumberLoop.{named_not, named_so}
use Rattle.jt_scan.proofs.numbers.named_base.Goals as goal

pub returns-in_err-_digit : goal.returns-in_err-_digit
returns-in_err-_digit c =
    let g : names_base (chars c.args.text.now) ≡ false = named_not (chars c.args.text.now)
    (chars c.in_ok-letter.more.now) c.in_ok-letter.letter c.base_of-base.result c.in_ok-letter.ensures
    c.base_of-base.ensures c.in_err-_digit.ensures in
    search rules

pub returns : goal.returns
returns c =
    named_so (chars c.args.text.now) (chars c.in_ok-letter.more.now) c.in_ok-letter.letter c.base_of-base.result _
    c.in_ok-letter.ensures c.base_of-base.ensures c.in_ok-_digit.ensures
