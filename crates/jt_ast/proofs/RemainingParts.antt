-- The remaining parts of lists of expressions, pairs, names, statements and branches.
use Rattle.std.proofs.Common.{◌≡◌, ℕ, ◌+◌, ◌<◌, List, ◌∷◌, length, drop, get_or, sym, ap, ◌∙◌, String, Global}
use Rattle.std.proofs.Common.{string_bytes, Vec}
use Rattle.std.proofs.lemmas.List.{drop_more}
use Rattle.jt_ast.specs.Expressions as expressions
use Rattle.jt_ast.specs.ExpressionView.{expr_view, exprs_view, pairs_view}
use Rattle.jt_ast.specs.Statements as trees
use Rattle.jt_ast.specs.StatementView.{names_view, stmt_view, body_view, branches_view}
use Rattle.jt_ast.specs.declared.expression.Expr.{Expr}
use Rattle.jt_ast.specs.declared.statement.Branch as branch
use Rattle.jt_ast.specs.declared.statement.Stmt.{Stmt}

-- A key of a map literal or a keyword, with its value.
abbrev pub Entry : Type 0
Entry = String Global × Expr

-- A branch of an `if`.
abbrev pub Branch : Type 0
Branch = branch.Branch Stmt

pub row_left : (ts : List Expr) (i : ℕ) (t : Expr) → i < length ts → t ≡ get_or ts i t
    → exprs_view (drop i ts) ≡ expressions.expr (expr_view t) (exprs_view (drop (i + 1) ts))
row_left ts i t lt is =
    ap exprs_view (drop_more ts i t lt)
    ∙ ap (λ (z : Expr). expressions.expr (expr_view z) (exprs_view (drop (i + 1) ts))) (sym is)

pub pairs_left : (ps : List Entry) (i : ℕ) (p : Entry) → i < length ps → p ≡ get_or ps i p
    → pairs_view (drop i ps) ≡ expressions.pair (string_bytes p.0) (expr_view p.1) (pairs_view (drop (i + 1) ps))
pairs_left ps i p lt is =
    ap pairs_view (drop_more ps i p lt)
    ∙ ap (λ (z : Entry). expressions.pair (string_bytes z.0) (expr_view z.1) (pairs_view (drop (i + 1) ps))) (sym is)

pub names_left : (ks : List (String Global)) (i : ℕ) (k : String Global) → i < length ks → k ≡ get_or ks i k
    → names_view (drop i ks) ≡ string_bytes k ∷ names_view (drop (i + 1) ks)
names_left ks i k lt is =
    ap names_view (drop_more ks i k lt)
    ∙ ap (λ (z : String Global). string_bytes z ∷ names_view (drop (i + 1) ks)) (sym is)

pub statements_left : (ss : List Stmt) (i : ℕ) (s : Stmt) → i < length ss → s ≡ get_or ss i s
    → body_view (drop i ss) ≡ trees.stmt (stmt_view s) (body_view (drop (i + 1) ss))
statements_left ss i s lt is =
    ap body_view (drop_more ss i s lt)
    ∙ ap (λ (z : Stmt). trees.stmt (stmt_view z) (body_view (drop (i + 1) ss))) (sym is)

pub branches_left : (bs : List Branch) (i : ℕ) (b : Branch) → i < length bs → b ≡ get_or bs i b
    → branches_view (drop i bs)
    ≡ trees.branch b.line (expr_view b.condition) (body_view b.body.items) (branches_view (drop (i + 1) bs))
branches_left bs i b lt is =
    ap branches_view (drop_more bs i b lt) ∙ ap (λ (z : Branch).
    trees.branch z.line (expr_view z.condition) (body_view z.body.items) (branches_view (drop (i + 1) bs))) (sym is)
