use Rattle.std.proofs.Common.{rules, ap, ℕ, Ok, Err}
use Rattle.jt_expr.specs.Cursor.{ahead}
use Rattle.jt_parse.specs.Tags.{a_statement}
use Rattle.jt_parse.specs.declared.opening_tags.Head.TheVariants as h
use Rattle.jt_ast.specs.declared.statement.Stmt.TheVariants as stmt
use Rattle.jt_parse.proofs.FirstTags.{extends_last}
use Rattle.jt_ast.proofs.StatementViews.{view_Extends}
use Rattle.jt_parse.proofs.tags.extends_head.Goals as goal

pub returns-in_err-name : goal.returns-in_err-name
returns-in_err-name c =
    let q = λ (limit : ℕ). extends_last c.args.line limit (ahead c.args.cursor.now) (Err c.in_err-name.field-0.0) _
    c.in_err-name.ensures (ahead c.text.new.cursor) in
    search rules

pub returns : goal.returns
returns c = λ limit.
    extends_last c.args.line limit (ahead c.args.cursor.now)
    (Ok c.in_ok-name.name) (ahead c.text.new.cursor) c.in_ok-name.ensures
    (h.Statement (stmt.Extends c.args.line c.in_ok-name.name))
    (ap (λ z. a_statement z) (view_Extends c.args.line c.in_ok-name.name))
