-- The only argument, if it is a keyword argument.
use Rattle.std.proofs.Common.{◌≡◌, ℕ, ◌≤◌, List, [], ◌∷◌, length, refl, arith, Option, None, String, Global}
use Rattle.jt_ast.specs.Written.{only_name}
use Rattle.jt_ast.specs.Expressions.{no_exprs, Pairs}
use Rattle.jt_ast.specs.ExpressionView.{exprs_view, pairs_view}
use Rattle.jt_ast.specs.declared.expression.Expr.{Expr}

pub some_by_place : (ts : List Expr) (ps : Pairs) → 1 ≤ length ts
    → ◌≡◌ {A = Option (List ℕ)} None (only_name (exprs_view ts) ps)
some_by_place [] ps h = absurd (omega arith)
some_by_place (t ∷ ts) ps h = refl

pub several : (ps : List (String Global × Expr)) → 2 ≤ length ps
    → ◌≡◌ {A = Option (List ℕ)} None (only_name no_exprs (pairs_view ps))
several [] h = absurd (omega arith)
several (p ∷ []) h = absurd (omega arith)
several (p ∷ q ∷ qs) h = refl
