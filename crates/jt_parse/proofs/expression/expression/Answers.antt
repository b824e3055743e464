use Rattle.std.proofs.Common.{map, subst, sym, Err}
use Rattle.jt_scan.specs.View.{token_view}
use Rattle.jt_ast.specs.Expressions.{levels}
use Rattle.jt_expr.specs.Grammar.{Spells, whole}
use Rattle.jt_ast.specs.ExpressionView.{expr_view}
use Rattle.jt_parse.specs.internal.Gives.{GivesOnly}
use Rattle.jt_parse.proofs.TagSteps.{expression_refused}
use Rattle.jt_parse.proofs.expression.expression.Goals as goal

pub returns-in-Ok : goal.returns-in-Ok
returns-in-Ok c = (c.in-Ok.ensures.spelled.0, c.in-Ok.ensures.spelled.1, c.in-Ok.ensures.alone)

pub returns-in-Err : goal.returns-in-Err
returns-in-Err c =
    subst
    (λ x. GivesOnly expr_view (λ e. Spells whole e (map token_view c.args.tokens.now)) levels c.args.levels (Err x))
    (sym c.refused.ensures)
    (expression_refused c.args.levels c.args.line (map token_view c.args.tokens.now) c.in-Err.refusal
    c.in-Err.ensures.syntax c.in-Err.ensures.deep)
