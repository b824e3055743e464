use Rattle.std.proofs.Common.{suc, ◌+◌, length, map}
use Rattle.std.proofs.lemmas.Result.{err_from_is_err_and}
use Rattle.jt_scan.specs.View.{token_view}
use Rattle.jt_ast.specs.Expressions.{levels}
use Rattle.jt_expr.specs.Grammar.{Spells, whole}
use Rattle.jt_ast.specs.ExpressionView.{expr_view}
use Rattle.jt_parse.specs.internal.Gives.{open_in}
use Rattle.jt_parse.proofs.TagSteps.{enclosed, expression_over, one_left, too_deep}
use Rattle.jt_parse.proofs.parser.Parser.expression.Goals as goal

pub returns-in_err-levels : goal.returns-in_err-levels
returns-in_err-levels c =
    let p = err_from_is_err_and c.from_residual.result c.from_residual.ensures.1 in
    let outer = length (open_in c.args.self.now) in
    rw (p.1, p.2)
    (too_deep expr_view (λ e. Spells whole e (map token_view c.args.tokens.now)) (λ e. suc outer + levels e) 100
    c.args.line _ c.in_err-levels.ensures.refused.0
    (λ b d. expression_over c.depth.result outer 100 (levels b) c.in_err-levels.ensures.refused.1 c.depth.ensures))

pub returns : goal.returns
returns c =
    let outer = length (open_in c.args.self.now) in
    enclosed expr_view (λ e. Spells whole e (map token_view c.args.tokens.now)) levels (suc outer) c.in_ok-levels.levels
    100
    (one_left c.depth.result outer 100 c.in_ok-levels.levels c.in_ok-levels.ensures.left.1 c.depth.ensures
    c.in_ok-levels.ensures.left.0)
    c.expression.result c.expression.ensures
