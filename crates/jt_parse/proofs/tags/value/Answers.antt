use Rattle.std.proofs.Common.{rules, refl, Ok, Err}
use Rattle.jt_expr.specs.Cursor.{ahead}
use Rattle.jt_parse.proofs.TagParts.{value_unnamed, value_unassigned, value_last}
use Rattle.jt_parse.proofs.tags.value.Goals as goal

pub returns-in_err-name : goal.returns-in_err-name
returns-in_err-name c =
    let q =
    value_unnamed c.args.levels (ahead c.args.cursor.now) _ _ (ahead c.target.new.cursor) c.in_err-name.ensures in
    search rules

pub returns-in_err-expect : goal.returns-in_err-expect
returns-in_err-expect c =
    let q = value_unassigned c.args.levels (ahead c.args.cursor.now) c.in_ok-name.name (ahead c.target.new.cursor)
    c.in_ok-name.ensures _ _ (ahead c.expect.new.self) c.in_err-expect.ensures in
    search rules

pub returns-in_err-value : goal.returns-in_err-value
returns-in_err-value c =
    let q = value_last c.args.levels (ahead c.args.cursor.now) c.in_ok-name.name (ahead c.target.new.cursor)
    c.in_ok-name.ensures (ahead c.expect.new.self) c.in_ok-expect.ensures (Err c.in_err-value.field-0.0) _
    c.in_err-value.ensures (ahead c.expression.new.cursor) in
    search rules

pub returns : goal.returns
returns c =
    value_last c.args.levels (ahead c.args.cursor.now) c.in_ok-name.name (ahead c.target.new.cursor)
    c.in_ok-name.ensures (ahead c.expect.new.self) c.in_ok-expect.ensures (Ok c.in_ok-value.value)
    (ahead c.expression.new.cursor) c.in_ok-value.ensures (c.in_ok-name.name, c.in_ok-value.value) refl
