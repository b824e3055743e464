use Rattle.std.proofs.Common.{◌≡◌, ◌+◌, ◌*◌, max, drop}
use denote.Param.Weighed.{most}
use Rattle.jt_ast.specs.declared.expression.Expr.{size-Expr}
use Rattle.jt_ast.specs.ExpressionView.{exprs_view, pairs_view}
use Rattle.jt_expr.specs.Named.{exprs_have_unknown, pairs_have_unknown}
use Rattle.jt_expr.proofs.named.+names.Given as goal

-- ---- the measure: the size of the trees, and the rank of a function that passes its tree on

abbrev pub decreases-has_unknown : goal.decreases-has_unknown
decreases-has_unknown l = 4 * size-Expr l.expr.now

abbrev pub decreases-any_unknown : goal.decreases-any_unknown
decreases-any_unknown l = 4 * most (λ x. size-Expr x) l.items.now + 1

abbrev pub decreases-any_unknown_pair : goal.decreases-any_unknown_pair
decreases-any_unknown_pair l = 4 * most (λ x. size-Expr x.1) l.pairs.now + 1

abbrev pub decreases-any_unknown_argument : goal.decreases-any_unknown_argument
decreases-any_unknown_argument l =
    4 * max (most (λ x. size-Expr x) l.arguments.now) (most (λ x. size-Expr x.1) l.keywords.now) + 2

abbrev pub decreases-has_unknown_with : goal.decreases-has_unknown_with
decreases-has_unknown_with l =
    4 * max (size-Expr l.value.now)
    (max (most (λ x. size-Expr x) l.arguments.now) (most (λ x. size-Expr x.1) l.keywords.now))
    + 3

-- ---- the remaining parts

abbrev pub invariant-any_unknown-loop-item : goal.invariant-any_unknown-loop-item
invariant-any_unknown-loop-item l =
    exprs_have_unknown l.named (exprs_view l.items)
    ≡ exprs_have_unknown l.named (exprs_view (drop l.item-index l.items))

abbrev pub invariant-any_unknown_pair-loop-value : goal.invariant-any_unknown_pair-loop-value
invariant-any_unknown_pair-loop-value l =
    pairs_have_unknown l.named (pairs_view l.pairs)
    ≡ pairs_have_unknown l.named (pairs_view (drop l.value-index l.pairs))
