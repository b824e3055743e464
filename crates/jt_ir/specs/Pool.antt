-- The pool of values. It has the shared values first, and then each value of the trees, in the
-- order of the trees.
use Rattle.std.specs.Prelude.{ℕ, ◌+◌, List, [], ◌∷◌, ◌++◌, length, Option, Some, None}
use Rattle.jt_value.specs.Tree.{Tree}
use Rattle.jt_eval.specs.Loops.{tree_at}
use Rattle.jt_ir.specs.Slots.{SlotExpr, pooled, variable, field, absent, made, conjunction, disjunction, choice, invoke}
use Rattle.jt_ir.specs.Slots.{SRow, none, item, aside, SlotStmt, put_pooled, print, assign, if_else, for_each, capture}
use Rattle.jt_ir.specs.Slots.{run, SBody, end, stmt, Routine}

-- A constant: a value with an index of its own in the pool, or the index of a shared value.
pub data Constant : Type 0 where
  own : Tree → Constant
  known : ℕ → Constant

abbrev pub constant_in : List Tree → Constant → Tree
constant_in front (own v) = v
constant_in front (known i) = tree_at front i

-- ---- Values that get an index of their own, in the order of the tree

abbrev pub constant_values : Constant → List Tree
constant_values (own v) = v ∷ []
constant_values (known i) = []

abbrev mutual
  pub expr_values : SlotExpr Constant → List Tree
  expr_values (pooled k) = constant_values k
  expr_values (variable s) = []
  expr_values (field f) = []
  expr_values absent = []
  expr_values (made k es) = row_values es
  expr_values (conjunction a b) = expr_values a ++ expr_values b
  expr_values (disjunction a b) = expr_values a ++ expr_values b
  expr_values (choice c a b) = expr_values c ++ (expr_values a ++ expr_values b)
  expr_values (invoke u escaping es) = row_values es

  pub row_values : SRow Constant → List Tree
  row_values none = []
  row_values (item e es) = expr_values e ++ row_values es
  row_values (aside i e es) = expr_values e ++ row_values es

abbrev pub condition_values : Option (SlotExpr Constant) → List Tree
condition_values None = []
condition_values (Some c) = expr_values c

abbrev mutual
  pub stmt_values : SlotStmt Constant → List Tree
  stmt_values (put_pooled k) = constant_values k
  stmt_values (print p escaping e) = expr_values e
  stmt_values (assign p xs e) = expr_values e
  stmt_values (if_else p c a b) = expr_values c ++ (body_values a ++ body_values b)
  stmt_values (for_each p xs e c body other) =
      expr_values e ++ (condition_values c ++ (body_values body ++ body_values other))
  stmt_values (capture escaping s body) = body_values body
  stmt_values (run u es) = row_values es

  pub body_values : SBody Constant → List Tree
  body_values end = []
  body_values (stmt s rest) = stmt_values s ++ body_values rest

abbrev pub routines_values : List (Routine Constant) → List Tree
routines_values [] = []
routines_values (r ∷ rs) = body_values r.body ++ routines_values rs

-- ---- Trees with indices into the pool; the number is the index of the next value

abbrev pub placed : Constant → ℕ → ℕ
placed (own v) n = n
placed (known i) n = i

abbrev mutual
  pub placed_expr : SlotExpr Constant → ℕ → SlotExpr ℕ
  placed_expr (pooled k) n = pooled (placed k n)
  placed_expr (variable s) n = variable s
  placed_expr (field f) n = field f
  placed_expr absent n = absent
  placed_expr (made k es) n = made k (placed_row es n)
  placed_expr (conjunction a b) n =
      conjunction (placed_expr a n) (placed_expr b (n + length (expr_values a)))
  placed_expr (disjunction a b) n =
      disjunction (placed_expr a n) (placed_expr b (n + length (expr_values a)))
  placed_expr (choice c a b) n =
      choice (placed_expr c n) (placed_expr a (n + length (expr_values c)))
      (placed_expr b (n + length (expr_values c) + length (expr_values a)))
  placed_expr (invoke u escaping es) n = invoke u escaping (placed_row es n)

  pub placed_row : SRow Constant → ℕ → SRow ℕ
  placed_row none n = none
  placed_row (item e es) n = item (placed_expr e n) (placed_row es (n + length (expr_values e)))
  placed_row (aside i e es) n =
      aside i (placed_expr e n) (placed_row es (n + length (expr_values e)))

abbrev pub placed_condition : Option (SlotExpr Constant) → ℕ → Option (SlotExpr ℕ)
placed_condition None n = None
placed_condition (Some c) n = Some (placed_expr c n)

abbrev mutual
  pub placed_stmt : SlotStmt Constant → ℕ → SlotStmt ℕ
  placed_stmt (put_pooled k) n = put_pooled (placed k n)
  placed_stmt (print p escaping e) n = print p escaping (placed_expr e n)
  placed_stmt (assign p xs e) n = assign p xs (placed_expr e n)
  placed_stmt (if_else p c a b) n =
      if_else p (placed_expr c n) (placed_body a (n + length (expr_values c)))
      (placed_body b (n + length (expr_values c) + length (body_values a)))
  placed_stmt (for_each p xs e c body other) n =
      for_each p xs (placed_expr e n) (placed_condition c (n + length (expr_values e)))
      (placed_body body (n + length (expr_values e) + length (condition_values c)))
      (placed_body other
      (n + length (expr_values e) + length (condition_values c) + length (body_values body)))
  placed_stmt (capture escaping s body) n = capture escaping s (placed_body body n)
  placed_stmt (run u es) n = run u (placed_row es n)

  pub placed_body : SBody Constant → ℕ → SBody ℕ
  placed_body end n = end
  placed_body (stmt s rest) n =
      stmt (placed_stmt s n) (placed_body rest (n + length (stmt_values s)))

abbrev pub placed_routine : Routine Constant → ℕ → Routine ℕ
placed_routine r n =
    record { parameters = r.parameters; locals = r.locals; body = placed_body r.body n }

abbrev pub placed_routines : List (Routine Constant) → ℕ → List (Routine ℕ)
placed_routines [] n = []
placed_routines (r ∷ rs) n =
    placed_routine r n ∷ placed_routines rs (n + length (body_values r.body))
