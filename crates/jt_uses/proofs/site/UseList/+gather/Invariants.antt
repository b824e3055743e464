use Rattle.std.proofs.Common.{◌≡◌, ◌+◌, ◌*◌, ◌++◌, max, drop}
use denote.Param.Weighed.{most}
use Rattle.jt_ast.specs.declared.expression.Expr.{size-Expr}
use Rattle.jt_ast.specs.ExpressionView.{exprs_view, pairs_view}
use Rattle.jt_uses.specs.Uses.{row_uses, pair_uses}
use Rattle.jt_uses.specs.UseView.{sites_view}
use Rattle.jt_uses.proofs.site.UseList.+gather.Given as goal

-- ---- the depth of the remaining trees

abbrev pub decreases-add_expression : goal.decreases-add_expression
decreases-add_expression l = 8 * size-Expr l.expr.now

abbrev pub decreases-add_callee : goal.decreases-add_callee
decreases-add_callee l = 8 * size-Expr l.callee.now + 1

abbrev pub decreases-add_arguments : goal.decreases-add_arguments
decreases-add_arguments l = 8 * max (most (λ x. size-Expr x) l.row.now) (most (λ x. size-Expr x.1) l.pairs.now) + 2

abbrev pub decreases-add_row : goal.decreases-add_row
decreases-add_row l = 8 * most (λ x. size-Expr x) l.row.now + 1

abbrev pub decreases-add_pairs : goal.decreases-add_pairs
decreases-add_pairs l = 8 * most (λ x. size-Expr x.1) l.pairs.now + 1

-- ---- the uses of the remaining items

abbrev pub invariant-add_row-loop-expr : goal.invariant-add_row-loop-expr
invariant-add_row-loop-expr l = sites_view l.self.sites.items ++ row_uses (exprs_view (drop l.expr-index l.row)) l.place
    ≡ sites_view l.initial.self.sites.items ++ row_uses (exprs_view l.row) l.place

abbrev pub invariant-add_pairs-loop-value : goal.invariant-add_pairs-loop-value
invariant-add_pairs-loop-value l = sites_view l.self.sites.items ++ pair_uses (pairs_view (drop l.value-index l.pairs))
    l.place ≡ sites_view l.initial.self.sites.items ++ pair_uses (pairs_view l.pairs) l.place
