use Rattle.std.proofs.Common.{◌∙◌, ap, arith, string_bytes}
use Rattle.jt_expr.specs.internal.Collecting.{then_pairs}
use Rattle.jt_ast.specs.Expressions.{Exprs, Pairs, no_pairs, pair, pairs_levels}
use Rattle.jt_ast.specs.ExpressionView.{expr_view, exprs_view, pairs_view}
use Rattle.jt_expr.proofs.AppendedParts.{pairs-push}
use Rattle.jt_expr.proofs.RowCollection.{pairs_levels-one}
use Rattle.jt_expr.proofs.part.LeveledList.push_pair.Goals as goal

pub invariant_of-self-2 : goal.invariant_of-self-2
invariant_of-self-2 c = grind (arith, pairs-push, string_bytes, pairs_levels-one)

pub returns : goal.returns
returns c =
    let old = c.args.self.now.pairs.items in
    let items = exprs_view c.args.self.now.items.items in
    let f : Pairs → Exprs × Pairs = λ z. (items, z) in
    ap f (ap pairs_view c.in_ok-push.ensures.items ∙ pairs-push old (c.args.key, c.into_inner.result)
    ∙ ap (λ t. then_pairs (pairs_view old) (pair (string_bytes c.args.key) (expr_view t) no_pairs))
    c.into_inner.ensures)
