use Rattle.std.proofs.Common.{sym, rules}
use Rattle.std.specs.Str.{chars}
use Rattle.jt_scan.proofs.QuoteLoop.{passed_none, passed_on, passed_found, passed_all}
use Rattle.jt_scan.proofs.quotes.split_quoted.Goals as goal

pub quoted-init : goal.quoted-init
quoted-init c = (search rules, passed_none c.args.quote (chars c.args.text.now))

pub returns-then-is_bare : goal.returns-then-is_bare
returns-then-is_bare c =
    passed_found c.args.quote c.in-Some.c (chars c.args.text.now) c.quoted.escaped (chars c.quoted.rest.now)
    (chars c.in-Some.more.now) (chars c.before-then-is_bare.result.now)
    c.quoted.invariant.1 c.in-Some.ensures (sym c.if-is_bare.ensures) c.before-then-is_bare.ensures

pub quoted-preserved : goal.quoted-preserved
quoted-preserved c = (
  search rules,
  passed_on c.args.quote c.in-Some.c (chars c.args.text.now) c.quoted.escaped c.is_bare-escaped.result
      (chars c.quoted.rest.now) (chars c.in-Some.more.now) c.quoted.invariant.1 c.in-Some.ensures
      (sym c.if-is_bare.ensures) c.is_bare-escaped.ensures,
)

pub returns : goal.returns
returns c =
    passed_all c.args.quote (chars c.args.text.now) c.quoted.escaped (chars c.quoted.rest.now) c.quoted.invariant.1
    c.in_default.ensures
