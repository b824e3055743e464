use Rattle.std.proofs.Common.{◌∙◌, ap}
use Rattle.jt_ast.specs.Expressions as trees
use Rattle.jt_ast.specs.ExpressionView.{is_negated, expr_view, exprs_view, pairs_view}
use Rattle.jt_ast.proofs.ExpressionViews.{view_Test}
use Rattle.jt_expr.proofs.builders.make_test.Goals as goal

pub returns : goal.returns
returns c =
    ap expr_view c.in_ok-new.ensures.ok
    ∙ view_Test c.args.value c.args.polarity c.in_ok-name.name c.args.row.items c.args.row.pairs
    ∙ ap (λ x. trees.test (expr_view c.args.value.value) (is_negated c.args.polarity) x
    (exprs_view c.args.row.items.items) (pairs_view c.args.row.pairs.items))
    c.in_ok-name.ensures
