use Rattle.std.proofs.Common.{sym, rules}
use Rattle.std.specs.Str.{chars}
use Rattle.jt_scan.specs.Cut.{ends_raw}
use Rattle.jt_scan.proofs.RawText.{clear_none, clear_more, clear_stops, clear_whole, stops_there}
use Rattle.jt_scan.proofs.endraw.split_raw.Goals as goal

pub raw-init : goal.raw-init
raw-init c = (search rules, clear_none ends_raw (chars c.args.text.now))

pub returns-then-ends_raw : goal.returns-then-ends_raw
returns-then-ends_raw c =
    clear_stops ends_raw (chars c.args.text.now) (chars c.before-then-ends_raw.result.now) (chars c.raw.rest.now)
    c.raw.invariant.1 c.before-then-ends_raw.ensures
    (stops_there ends_raw (chars c.raw.rest.now) (sym c.if-ends_raw.ensures))

pub raw-preserved : goal.raw-preserved
raw-preserved c = (
  search rules,
  clear_more ends_raw (chars c.args.text.now) (chars c.raw.rest.now) c.in-Some._c (chars c.in-Some.more.now)
      c.raw.invariant.1 c.in-Some.ensures (sym c.if-ends_raw.ensures),
)

pub returns : goal.returns
returns c = clear_whole ends_raw (chars c.args.text.now) (chars c.raw.rest.now) c.raw.invariant.1 c.in_default.ensures
