use Rattle.std.proofs.Common.{◌∙◌, ap, arith}
use Rattle.jt_expr.specs.internal.Collecting.{then_exprs}
use Rattle.jt_ast.specs.Expressions.{Exprs, Pairs, expr, exprs_levels, no_exprs}
use Rattle.jt_ast.specs.ExpressionView.{expr_view, exprs_view, pairs_view}
use Rattle.jt_expr.proofs.AppendedParts.{exprs-push}
use Rattle.jt_expr.proofs.RowCollection.{exprs_levels-one}
use Rattle.jt_expr.proofs.part.LeveledList.push_item.Goals as goal

pub invariant_of-self-2 : goal.invariant_of-self-2
invariant_of-self-2 c = grind (arith, exprs-push, exprs_levels-one)

pub returns : goal.returns
returns c =
    let old = c.args.self.now.items.items in
    let pairs = pairs_view c.args.self.now.pairs.items in
    let f : Exprs → Exprs × Pairs = λ z. (z, pairs) in
    ap f (ap exprs_view c.in_ok-push.ensures.items ∙ exprs-push old c.into_inner.result
    ∙ ap (λ t. then_exprs (exprs_view old) (expr (expr_view t) no_exprs)) c.into_inner.ensures)
