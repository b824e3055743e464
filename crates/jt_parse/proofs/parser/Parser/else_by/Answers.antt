use Rattle.std.proofs.Common.{◌≡◌, ◌∷◌, rules, subst, Global, Vec}
use Rattle.std.proofs.lemmas.Result.{err_from_is_err_and}
use Rattle.jt_ast.specs.StatementView.{body_view}
use Rattle.jt_ast.specs.declared.statement.Stmt.{Stmt}
use Rattle.jt_parse.specs.internal.Gives.{Refuses, open_stmt_view, open_stmts_view}
use Rattle.jt_parse.specs.internal.Reading as reading
use Rattle.jt_parse.proofs.parser.Parser.else_by.Goals as goal

pub returns-in_err-kind : goal.returns-in_err-kind
returns-in_err-kind c =
    let p = err_from_is_err_and c.from_residual.result c.from_residual.ensures.1 in
    let e : c.replace-body.result ≡ c.args.self.now.body = search rules in
    rw (p.1, p.2, c.in-Some.ensures)
    (subst (λ (b : Vec Stmt Global). Refuses (λ o. o ≡ reading.else_by (body_view b.items)
    (open_stmt_view c.in-Some.field-0 ∷ open_stmts_view c.pop_open_stmt.new.open_stmts.items)) c.in_err-kind.field-0.0)
    e (c.in_err-kind.ensures _ _ _))
