-- Lists that are collected from statements, one statement at a time.
use Rattle.std.proofs.Common.{◌≡◌, ℕ, ◌+◌, ◌<◌, List, ◌++◌, length, drop, get_or, sym, ap, ◌∙◌, append_assoc, Vec}
use Rattle.std.proofs.Common.{Global, String, Option}
use Rattle.std.specs.Prelude.{option_map}
use Rattle.jt_ast.specs.Expressions as expressions
use Rattle.jt_ast.specs.ExpressionView.{expr_view}
use Rattle.jt_ast.specs.Statements as trees
use Rattle.jt_ast.specs.Statements.{Body, Branches}
use Rattle.jt_ast.specs.StatementView.{names_view, stmt_view, body_view, branches_view}
use Rattle.jt_ast.specs.declared.expression.Expr.{Expr}
use Rattle.jt_ast.specs.declared.statement.Stmt.{Stmt}
use Rattle.jt_ast.specs.declared.statement.Stmt.TheVariants.{If, For}
use Rattle.jt_ast.proofs.RemainingParts.{Branch, statements_left, branches_left}
use Rattle.jt_ast.proofs.StatementViews.{view_If, view_For}

-- The lists of a statement, of statements and of branches.
module _ {A : Type 0} (f : trees.Stmt → List A) (F : Body → List A) (G : Branches → List A) where
  pub statement_added : ((s : trees.Stmt) (b : Body) → F (trees.stmt s b) ≡ f s ++ F b)
      → (ss : List Stmt) (i : ℕ) (s : Stmt) (old new : List A) → i < length ss → s ≡ get_or ss i s
      → new ≡ old ++ f (stmt_view s) → new ++ F (body_view (drop (i + 1) ss)) ≡ old ++ F (body_view (drop i ss))
  statement_added cons ss i s old new lt is e =
      let rest = F (body_view (drop (i + 1) ss)) in
      ap (λ l. l ++ rest) e ∙ append_assoc old (f (stmt_view s)) rest
      ∙ ap (λ l. old ++ l)
      (sym (cons (stmt_view s) (body_view (drop (i + 1) ss))) ∙ ap F (sym (statements_left ss i s lt is)))

  pub branch_added : ((l : ℕ) (c : expressions.Expr) (b : Body) (bs : Branches)
      → G (trees.branch l c b bs) ≡ F b ++ G bs)
      → (bs : List Branch) (i : ℕ) (b : Branch) (old new : List A) → i < length bs → b ≡ get_or bs i b
      → new ≡ old ++ F (body_view b.body.items)
      → new ++ G (branches_view (drop (i + 1) bs)) ≡ old ++ G (branches_view (drop i bs))
  branch_added cons bs i b old new lt is e =
      let rest = G (branches_view (drop (i + 1) bs)) in
      ap (λ l. l ++ rest) e ∙ append_assoc old (F (body_view b.body.items)) rest
      ∙ ap (λ l. old ++ l) (sym
      (cons b.line (expr_view b.condition) (body_view b.body.items) (branches_view (drop (i + 1) bs)))
      ∙ ap G (sym (branches_left bs i b lt is)))

  -- A choice contributes the list of its branches, then that of its `else` part.
  pub choice_added : ((bs : Branches) (b : Body) → f (trees.choose bs b) ≡ G bs ++ F b)
      → (s : Stmt) (bs : Vec Branch Global) (other : Vec Stmt Global) (bs' : List Branch) (other' : List Stmt)
      (old mid new : List A)
      → s ≡ If bs other → bs' ≡ bs.items → other' ≡ other.items → mid ≡ old ++ G (branches_view bs')
      → new ≡ mid ++ F (body_view other') → new ≡ old ++ f (stmt_view s)
  choice_added cons s bs other bs' other' old mid new is p q e g =
      g ∙ ap (λ l. l ++ F (body_view other')) e ∙ append_assoc old (G (branches_view bs')) (F (body_view other'))
      ∙ ap (λ (x : List Branch). old ++ (G (branches_view x) ++ F (body_view other'))) p
      ∙ ap (λ (x : List Stmt). old ++ (G (branches_view bs.items) ++ F (body_view x))) q
      ∙ ap (λ l. old ++ l) (sym (cons (branches_view bs.items) (body_view other.items))
      ∙ ap f (sym (view_If bs other) ∙ ap stmt_view (sym is)))

  -- A loop contributes the list of its body, then that of its `else` part.
  pub loop_added : ((l : ℕ) (xs : List expressions.Text) (e : expressions.Expr) (c : Option expressions.Expr)
      (a b : Body)
      → f (trees.for_each l xs e c a b) ≡ F a ++ F b)
      → (s : Stmt) (line : ℕ) (xs : Vec (String Global) Global) (e : Expr) (c : Option Expr)
      (body other : Vec Stmt Global) (body' other' : List Stmt) (old mid new : List A)
      → s ≡ For line xs e c body other → body' ≡ body.items → other' ≡ other.items → mid ≡ old ++ F (body_view body')
      → new ≡ mid ++ F (body_view other') → new ≡ old ++ f (stmt_view s)
  loop_added cons s line xs e c body other body' other' old mid new is p q h g =
      g ∙ ap (λ l. l ++ F (body_view other')) h ∙ append_assoc old (F (body_view body')) (F (body_view other'))
      ∙ ap (λ (x : List Stmt). old ++ (F (body_view x) ++ F (body_view other'))) p
      ∙ ap (λ (x : List Stmt). old ++ (F (body_view body.items) ++ F (body_view x))) q
      ∙ ap (λ l. old ++ l)
      (sym (cons line (names_view xs.items) (expr_view e) (option_map expr_view c) (body_view body.items)
      (body_view other.items))
      ∙ ap f (sym (view_For line xs e c body other) ∙ ap stmt_view (sym is)))
