use Rattle.std.proofs.Common.{rules, refl, ℕ, Ok, Err}
use Rattle.jt_expr.specs.Cursor.{ahead}
use Rattle.jt_parse.specs.declared.opening_tags.Head.TheVariants as h
use Rattle.jt_parse.proofs.FirstTags.{if_last}
use Rattle.jt_parse.proofs.tags.if_head.Goals as goal

pub returns-in_err-condition : goal.returns-in_err-condition
returns-in_err-condition c =
    let q = λ (line : ℕ). if_last line c.args.levels (ahead c.args.cursor.now) (Err c.in_err-condition.field-0.0) _
    c.in_err-condition.ensures (ahead c.expression.new.cursor) in
    search rules

pub returns : goal.returns
returns c = λ line.
    if_last line c.args.levels (ahead c.args.cursor.now)
    (Ok c.in_ok-condition.condition) (ahead c.expression.new.cursor) c.in_ok-condition.ensures
    (h.If c.in_ok-condition.condition) refl
