use Rattle.std.proofs.Common.{rules}
use Rattle.std.specs.Str.{chars}
use Rattle.jt_scan.specs.internal.Scanning.{front_at, IsGiven}
use Rattle.jt_scan.specs.View.{token_view}
use Rattle.jt_scan.proofs.TokenLoop.{front_closed, front_spelled, front_refused}
use Rattle.jt_scan.proofs.tokens.read_front.Goals as goal

pub returns-in-Some : goal.returns-in-Some
returns-in-Some c =
    front_closed c.args.kind c.args.line c.args.depth (chars c.args.text.now) c.in-Some.mark (chars c.in-Some.rest.now)
    c.in-Some.ensures

pub returns-in_err-token : goal.returns-in_err-token
returns-in_err-token c =
    let g : IsGiven c.in_err-token.field-0.0 (front_at c.args.kind c.args.line c.args.depth (chars c.args.text.now)) =
    front_refused c.args.kind c.args.line c.args.depth (chars c.args.text.now) c.in_err-token.field-0.0
    c.in_default.ensures c.in_err-token.ensures in
    search rules

pub returns : goal.returns
returns c =
    front_spelled c.args.kind c.args.line c.args.depth (chars c.args.text.now) (token_view c.in_ok-token.token)
    (chars c.in_ok-token.rest.now) c.in_default.ensures c.in_ok-token.ensures
