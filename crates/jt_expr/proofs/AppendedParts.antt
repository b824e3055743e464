-- Sequences of expressions with one more part.
use Rattle.std.proofs.Common.{◌≡◌, List, [], ◌∷◌, ◌++◌, refl, ap, String, Global, string_bytes}
use Rattle.jt_ast.specs.Expressions.{no_exprs, expr, no_pairs, pair}
use Rattle.jt_ast.specs.ExpressionView.{expr_view, exprs_view, pairs_view}
use Rattle.jt_ast.specs.declared.expression.Expr.{Expr}
use Rattle.jt_expr.specs.internal.Collecting.{then_exprs, then_pairs}

pub exprs-push : (ts : List Expr) (t : Expr)
    → exprs_view (ts ++ t ∷ []) ≡ then_exprs (exprs_view ts) (expr (expr_view t) no_exprs)
exprs-push [] t = refl
exprs-push (x ∷ ts) t = ap (expr (expr_view x)) (exprs-push ts t)

pub pairs-push : (ps : List (String Global × Expr)) (p : String Global × Expr)
    → pairs_view (ps ++ p ∷ []) ≡ then_pairs (pairs_view ps) (pair (string_bytes p.0) (expr_view p.1) no_pairs)
pairs-push [] p = refl
pairs-push (q ∷ ps) p = ap (pair (string_bytes q.0) (expr_view q.1)) (pairs-push ps p)
