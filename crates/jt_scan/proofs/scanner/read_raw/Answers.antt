use Rattle.std.specs.Str.{chars}
use Rattle.jt_scan.proofs.TokenLoop.{raw_read, raw_open}
use Rattle.jt_scan.proofs.scanner.read_raw.Goals as goal

pub returns-in-Some : goal.returns-in-Some
returns-in-Some c =
    raw_read c.args.line c.args.marks (chars c.args.text.now) (chars c.split_raw.result.0.now)
    (chars c.split_raw.result.1.now) c.in-Some.ends (chars c.in-Some.rest.now) c.split_raw.ensures c.in-Some.ensures

pub returns-in-None : goal.returns-in-None
returns-in-None c =
    raw_open c.args.line c.args.marks (chars c.args.text.now) (chars c.split_raw.result.0.now)
    (chars c.split_raw.result.1.now) c.split_raw.ensures c.in-None.ensures
