use Rattle.std.proofs.Common.{rules, Err}
use Rattle.jt_expr.specs.Cursor.{ahead}
use Rattle.jt_parse.proofs.TagParts.{imported_unnamed, imported_last, imported_done}
use Rattle.jt_parse.proofs.tags.imported.Goals as goal

pub returns-in_err-name : goal.returns-in_err-name
returns-in_err-name c =
    let q = imported_unnamed (ahead c.args.cursor.now) _ _ (ahead c.target.new.cursor) c.in_err-name.ensures in
    search rules

pub returns-in_err-given : goal.returns-in_err-given
returns-in_err-given c =
    let q = imported_last (ahead c.args.cursor.now) c.in_ok-name.name (ahead c.target.new.cursor) c.in_ok-name.ensures
    (Err c.in_err-given.field-0.0) _ c.in_err-given.ensures (ahead c.given.new.cursor) in
    search rules

pub returns : goal.returns
returns c =
    imported_done (ahead c.args.cursor.now) c.in_ok-name.name (ahead c.target.new.cursor) c.in_ok-name.ensures
    c.in_ok-given.given (ahead c.given.new.cursor) c.in_ok-given.ensures c.given_or.result c.given_or.ensures
