use Rattle.std.proofs.Common.{rules, ap, Ok, Err}
use Rattle.jt_scan.specs.declared.segment.Sign.TheVariants as s
use Rattle.jt_expr.specs.Cursor.{ahead}
use Rattle.jt_parse.specs.Tags.{a_statement}
use Rattle.jt_parse.specs.declared.opening_tags.Head.TheVariants as h
use Rattle.jt_ast.specs.declared.statement.Stmt.TheVariants as stmt
use Rattle.jt_parse.proofs.TokenPrefixes.{sign_taken, sign_left, no_sign}
use Rattle.jt_parse.proofs.FirstTags.{set_unnamed, set_last, captures}
use Rattle.jt_ast.proofs.StatementViews.{view_Set}
use Rattle.jt_parse.proofs.tags.set_head.Goals as goal

pub returns-in_err-targets : goal.returns-in_err-targets
returns-in_err-targets c =
    let q = set_unnamed c.args.line c.args.levels (ahead c.args.cursor.now) _ _ (ahead c.targets.new.cursor)
    c.in_err-targets.ensures in
    search rules

pub returns-then-not-eat : goal.returns-then-not-eat
returns-then-not-eat c =
    rw (sign_left s.Assign (ahead c.targets.new.cursor) (ahead c.eat.new.self) c.eat.result c.eat.ensures.found
    c.eat.ensures.rest c.if-not-eat.true)
    (captures c.args.line c.args.levels (ahead c.args.cursor.now) c.in_ok-targets.targets (ahead c.targets.new.cursor)
    c.in_ok-targets.ensures (no_sign s.Assign _ _ c.eat.result c.eat.ensures.found c.eat.ensures.rest c.if-not-eat.true)
    c.only_name.result c.only_name.ensures)

pub returns-in_err-value : goal.returns-in_err-value
returns-in_err-value c =
    let q = set_last c.args.line c.args.levels (ahead c.args.cursor.now) c.in_ok-targets.targets
    (ahead c.targets.new.cursor) c.in_ok-targets.ensures (ahead c.eat.new.self)
    (sign_taken s.Assign _ _ c.eat.result c.eat.ensures.found c.eat.ensures.rest c.if-not-eat.false)
    (Err c.in_err-value.field-0.0) _ c.in_err-value.ensures (ahead c.expression.new.cursor) in
    search rules

pub returns : goal.returns
returns c =
    set_last c.args.line c.args.levels (ahead c.args.cursor.now) c.in_ok-targets.targets (ahead c.targets.new.cursor)
    c.in_ok-targets.ensures (ahead c.eat.new.self)
    (sign_taken s.Assign _ _ c.eat.result c.eat.ensures.found c.eat.ensures.rest c.if-not-eat.false)
    (Ok c.in_ok-value.value) (ahead c.expression.new.cursor) c.in_ok-value.ensures
    (h.Statement (stmt.Set c.args.line c.in_ok-targets.targets c.in_ok-value.value))
    (ap (λ z. a_statement z) (view_Set c.args.line c.in_ok-targets.targets c.in_ok-value.value))
