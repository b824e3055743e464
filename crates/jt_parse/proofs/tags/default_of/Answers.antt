use Rattle.std.proofs.Common.{rules, refl, Some, Ok, Err}
use Rattle.jt_scan.specs.declared.segment.Sign.TheVariants as s
use Rattle.jt_expr.specs.Cursor.{ahead}
use Rattle.jt_parse.proofs.TokenPrefixes.{sign_taken}
use Rattle.jt_parse.proofs.TagParts.{default_last}
use Rattle.jt_parse.proofs.tags.default_of.Goals as goal

pub returns-in_err-default : goal.returns-in_err-default
returns-in_err-default c =
    let q = default_last (ahead c.args.cursor.now) (ahead c.eat.new.self)
    (sign_taken s.Assign _ _ c.eat.result c.eat.ensures.found c.eat.ensures.rest c.if-not-eat.false)
    (Err c.in_err-default.field-0.0) _ c.in_err-default.ensures (ahead c.literal.new.cursor) in
    search rules

pub returns : goal.returns
returns c =
    default_last (ahead c.args.cursor.now) (ahead c.eat.new.self)
    (sign_taken s.Assign _ _ c.eat.result c.eat.ensures.found c.eat.ensures.rest c.if-not-eat.false)
    (Ok c.in_ok-default.default) (ahead c.literal.new.cursor) c.in_ok-default.ensures (Some c.in_ok-default.default)
    refl
