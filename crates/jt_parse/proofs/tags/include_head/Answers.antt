use Rattle.std.proofs.Common.{rules, ap, ℕ, Ok, Err}
use Rattle.jt_expr.specs.Cursor.{ahead}
use Rattle.jt_parse.specs.Tags.{a_statement}
use Rattle.jt_parse.specs.declared.opening_tags.Head.TheVariants as h
use Rattle.jt_ast.specs.StatementView.{is_ignored, passes_context}
use Rattle.jt_ast.specs.declared.statement.Stmt.TheVariants as stmt
use Rattle.jt_parse.proofs.FirstTags.{include_unnamed, include_ignoring, include_last}
use Rattle.jt_ast.proofs.StatementViews.{view_Include}
use Rattle.jt_parse.proofs.tags.include_head.Goals as goal

pub returns-in_err-name : goal.returns-in_err-name
returns-in_err-name c =
    let q = λ (limit : ℕ).
    include_unnamed c.args.line limit (ahead c.args.cursor.now) _ _ (ahead c.text.new.cursor) c.in_err-name.ensures in
    search rules

pub returns-in_err-missing : goal.returns-in_err-missing
returns-in_err-missing c =
    let q = λ (limit : ℕ). include_ignoring c.args.line limit (ahead c.args.cursor.now) c.in_ok-name.name
    (ahead c.text.new.cursor) c.in_ok-name.ensures _ _ (ahead c.missing.new.cursor) c.in_err-missing.ensures in
    search rules

pub returns-in_err-names : goal.returns-in_err-names
returns-in_err-names c =
    let q = λ (limit : ℕ). include_last c.args.line limit (ahead c.args.cursor.now) c.in_ok-name.name
    (ahead c.text.new.cursor) c.in_ok-name.ensures (is_ignored c.in_ok-missing.missing) (ahead c.missing.new.cursor)
    c.in_ok-missing.ensures (Err c.in_err-names.field-0.0) _ c.in_err-names.ensures (ahead c.context.new.cursor) in
    search rules

pub returns : goal.returns
returns c = λ limit.
    include_last c.args.line limit (ahead c.args.cursor.now) c.in_ok-name.name (ahead c.text.new.cursor)
    c.in_ok-name.ensures (is_ignored c.in_ok-missing.missing) (ahead c.missing.new.cursor) c.in_ok-missing.ensures
    (Ok (passes_context c.in_ok-names.names)) (ahead c.context.new.cursor) c.in_ok-names.ensures
    (h.Statement (stmt.Include c.args.line c.in_ok-name.name c.in_ok-missing.missing c.in_ok-names.names))
    (ap (λ z. a_statement z) (view_Include c.args.line c.in_ok-name.name c.in_ok-missing.missing c.in_ok-names.names))
