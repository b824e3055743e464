-- The number of locals that a resolved body uses: 1 more than the greatest local that it stores or
-- loads.
use Rattle.std.specs.Prelude.{ℕ, suc, max, List, [], ◌∷◌, Option, Some, None}
use Rattle.jt_ir.specs.Slots.{Slot, local, global, SlotExpr, pooled, variable, field, absent, made, conjunction}
use Rattle.jt_ir.specs.Slots.{disjunction, choice, invoke, SRow, none, item, aside, Targets, one, several, SlotStmt}
use Rattle.jt_ir.specs.Slots.{put_pooled, print, assign, if_else, for_each, capture, run, SBody, end, stmt}

abbrev pub slot_locals : Slot → ℕ
slot_locals (local i) = suc i
slot_locals (global i) = 0

abbrev pub slots_locals : List (Option Slot) → ℕ
slots_locals [] = 0
slots_locals (None ∷ ss) = slots_locals ss
slots_locals (Some s ∷ ss) = max (slot_locals s) (slots_locals ss)

abbrev pub targets_locals : Targets → ℕ
targets_locals (one s) = slot_locals s
targets_locals (several ss) = slots_locals ss

module _ {K : Type 0} where
  abbrev mutual
    pub expr_locals : SlotExpr K → ℕ
    expr_locals (pooled k) = 0
    expr_locals (variable s) = slot_locals s
    expr_locals (field f) = 0
    expr_locals absent = 0
    expr_locals (made k es) = row_locals es
    expr_locals (conjunction a b) = max (expr_locals a) (expr_locals b)
    expr_locals (disjunction a b) = max (expr_locals a) (expr_locals b)
    expr_locals (choice c a b) = max (expr_locals c) (max (expr_locals a) (expr_locals b))
    expr_locals (invoke u escaping es) = row_locals es

    pub row_locals : SRow K → ℕ
    row_locals none = 0
    row_locals (item e es) = max (expr_locals e) (row_locals es)
    row_locals (aside i e es) = max (suc i) (max (expr_locals e) (row_locals es))

  abbrev pub condition_locals : Option (SlotExpr K) → ℕ
  condition_locals None = 0
  condition_locals (Some c) = expr_locals c

  abbrev mutual
    pub stmt_locals : SlotStmt K → ℕ
    stmt_locals (put_pooled k) = 0
    stmt_locals (print p escaping e) = expr_locals e
    stmt_locals (assign p xs e) = max (targets_locals xs) (expr_locals e)
    stmt_locals (if_else p c a b) = max (expr_locals c) (max (body_locals a) (body_locals b))
    stmt_locals (for_each p xs e c body other) =
        max (targets_locals xs) (max (max (expr_locals e) (condition_locals c))
        (max (body_locals body) (body_locals other)))
    stmt_locals (capture escaping s body) = max (slot_locals s) (body_locals body)
    stmt_locals (run u es) = row_locals es

    pub body_locals : SBody K → ℕ
    body_locals end = 0
    body_locals (stmt s rest) = max (stmt_locals s) (body_locals rest)
