use Rattle.std.proofs.Common.{rules, refl, Ok, Err}
use Rattle.jt_expr.specs.Cursor.{ahead}
use Rattle.jt_parse.proofs.TagParts.{parameter_unnamed, parameter_last}
use Rattle.jt_parse.proofs.tags.parameter.Goals as goal

pub returns-in_err-name : goal.returns-in_err-name
returns-in_err-name c =
    let q = parameter_unnamed (ahead c.args.cursor.now) _ _ (ahead c.target.new.cursor) c.in_err-name.ensures in
    search rules

pub returns-in_err-default : goal.returns-in_err-default
returns-in_err-default c =
    let q = parameter_last (ahead c.args.cursor.now) c.in_ok-name.name (ahead c.target.new.cursor) c.in_ok-name.ensures
    (Err c.in_err-default.field-0.0) _ c.in_err-default.ensures (ahead c.default_of.new.cursor) in
    search rules

pub returns : goal.returns
returns c =
    parameter_last (ahead c.args.cursor.now) c.in_ok-name.name (ahead c.target.new.cursor) c.in_ok-name.ensures
    (Ok c.in_ok-default.default) (ahead c.default_of.new.cursor) c.in_ok-default.ensures
    (record { name = c.in_ok-name.name; default = c.in_ok-default.default }) refl
