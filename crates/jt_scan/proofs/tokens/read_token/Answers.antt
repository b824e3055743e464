use Rattle.std.proofs.Common.{◌≡◌, false, sym, ap, ◌∙◌, arith}
use Rattle.std.specs.Str.{chars}
use Rattle.jt_scan.specs.Literals.{is_digit}
use Rattle.jt_scan.specs.internal.Scanning.{signed}
use Rattle.jt_scan.proofs.TokenLaws.{token_ended, token_numbered, token_quoted, token_signed, below_ten, not_below_ten}
use Rattle.jt_scan.proofs.TokenLoop.{name_end, token_named}
use Rattle.jt_scan.proofs.tokens.read_token.Goals as goal

pub returns-in_default : goal.returns-in_default
returns-in_default c = token_ended c.args.line (chars c.args.text.now) c.in_default.ensures

pub before-requires : goal.before-requires
before-requires c =
    name_end c.in-Some.c (chars c.args.text.now) (chars c.in-Some.more.now) (chars c.behind_name-rest.result.now)
    c.in-Some.ensures c.behind_name-rest.ensures

pub returns-then-starts_name : goal.returns-then-starts_name
returns-then-starts_name c =
    token_named c.args.line c.in-Some.c (chars c.args.text.now) (chars c.in-Some.more.now)
    (chars c.before-then-starts_name.result.now) (chars c.behind_name-rest.result.now) c.in-Some.ensures
    (sym c.if-starts_name.ensures) c.behind_name-rest.ensures c.before-then-starts_name.ensures

pub returns-then-digit_value-lt10 : goal.returns-then-digit_value-lt10
returns-then-digit_value-lt10 c = grind (arith, below_ten, token_numbered)

pub returns-then-is_quote : goal.returns-then-is_quote
returns-then-is_quote c =
    rw (token_quoted c.args.line c.in-Some.c (chars c.args.text.now) (chars c.in-Some.more.now) c.in-Some.ensures
    (sym c.if-is_quote.ensures))
    c.text_token.ensures

pub returns-in-Some-read_sign : goal.returns-in-Some-read_sign
returns-in-Some-read_sign c =
    let d : is_digit 10 c.in-Some.c ≡ false =
    not_below_ten c.digit_value.result c.in-Some.c c.digit_value.ensures (omega (arith, c.if-digit_value-lt10.false)) in
    token_signed c.args.line c.in-Some.c (chars c.args.text.now) (chars c.in-Some.more.now) c.in-Some.ensures
    (sym c.if-starts_name.ensures) d (sym c.if-is_quote.ensures)
    ∙
    ap (signed c.args.line) c.in-Some-read_sign.ensures

pub returns-in-None : goal.returns-in-None
returns-in-None c =
    let d : is_digit 10 c.in-Some.c ≡ false =
    not_below_ten c.digit_value.result c.in-Some.c c.digit_value.ensures (omega (arith, c.if-digit_value-lt10.false)) in
    token_signed c.args.line c.in-Some.c (chars c.args.text.now) (chars c.in-Some.more.now) c.in-Some.ensures
    (sym c.if-starts_name.ensures) d (sym c.if-is_quote.ensures)
    ∙
    ap (signed c.args.line) c.in-None.ensures
