-- Trees with one more statement or branch.
use Rattle.std.proofs.Common.{◌≡◌, List, [], ◌∷◌, ◌++◌, refl, ap}
use Rattle.jt_ast.specs.Statements as trees
use Rattle.jt_ast.specs.ExpressionView.{expr_view}
use Rattle.jt_ast.specs.StatementView.{stmt_view, body_view, branches_view}
use Rattle.jt_ast.specs.declared.statement.Stmt.{Stmt}
use Rattle.jt_ast.proofs.RemainingParts.{Branch}
use Rattle.jt_parse.specs.internal.Reading.{then_one, then_branch}

pub body-push : (ss : List Stmt) (x : Stmt) → body_view (ss ++ x ∷ []) ≡ then_one (body_view ss) (stmt_view x)
body-push [] x = refl
body-push (y ∷ ss) x = ap (trees.stmt (stmt_view y)) (body-push ss x)

pub branches-push : (bs : List Branch) (b : Branch)
    → branches_view (bs ++ b ∷ [])
    ≡ then_branch (branches_view bs) b.line (expr_view b.condition) (body_view b.body.items)
branches-push [] b = refl
branches-push (c ∷ bs) b =
    ap (trees.branch c.line (expr_view c.condition) (body_view c.body.items)) (branches-push bs b)
