use Rattle.std.proofs.Common.{suc, ◌+◌, length, map, ap, ◌∙◌}
use Rattle.std.proofs.lemmas.Result.{err_from_is_err_and}
use Rattle.jt_scan.specs.View.{token_view}
use Rattle.jt_ast.specs.Expressions.{levels}
use Rattle.jt_expr.specs.Grammar.{Spells, whole}
use Rattle.jt_ast.specs.ExpressionView.{expr_view}
use Rattle.jt_ast.specs.Statements.{print}
use Rattle.jt_parse.specs.internal.Reading.{grown, state, then_one}
use Rattle.jt_parse.specs.internal.Gives.{state_view}
use Rattle.jt_ast.proofs.StatementViews.{view_Print}
use Rattle.jt_parse.proofs.TagSteps.{only_ok, only_refused}
use Rattle.jt_parse.proofs.parser.Parser.print_tag.Goals as goal

pub returns-in_err-printed : goal.returns-in_err-printed
returns-in_err-printed c =
    let p = err_from_is_err_and c.from_residual.result c.from_residual.ensures.1 in
    let st = state_view c.args.self.now in
    rw (p.1, p.2)
    (only_refused expr_view (λ e. Spells whole e (map token_view c.args.tokens.now))
    (λ e. suc (length st.open_stmts) + levels e) 100 (λ e. grown st (print c.args.line e)) _ c.in_err-printed.ensures)

pub returns : goal.returns
returns c =
    let st = state_view c.args.self.now in
    only_ok expr_view (λ e. Spells whole e (map token_view c.args.tokens.now))
    (λ e. suc (length st.open_stmts) + levels e) 100 (λ e. grown st (print c.args.line e)) c.in_ok-printed.printed _
    c.in_ok-printed.ensures
    (ap (λ b. state b st.open_stmts)
    (c.in_ok-push_statement.ensures ∙ ap (then_one st.body) (view_Print c.args.line c.in_ok-printed.printed)))
