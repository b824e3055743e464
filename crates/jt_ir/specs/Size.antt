-- The size of resolved trees, in instructions and stack entries, before any code exists.
use Rattle.std.specs.Prelude.{ℕ, suc, ◌+◌, max, List, [], ◌∷◌, length, Option, Some, None}
use Rattle.jt_ir.specs.Slots.{NaryOp, required, SlotExpr, pooled, variable, field, absent, made, conjunction}
use Rattle.jt_ir.specs.Slots.{disjunction, choice, invoke, SRow, none, item, aside, Targets, one, several, SlotStmt}
use Rattle.jt_ir.specs.Slots.{put_pooled, print, assign, if_else, for_each, capture, run, SBody, end, stmt, Routine}

-- The number of values of a sequence.
abbrev pub row_count : {K : Type 0} → SRow K → ℕ
row_count none = 0
row_count (item e es) = suc (row_count es)
row_count (aside i e es) = row_count es

-- The number of instructions of targets: one store, or an unpacking and one store for each item.
abbrev pub targets_size : Targets → ℕ
targets_size (one s) = 1
targets_size (several ss) = 1 + length ss

-- The number of entries that targets take: one value, or each of its items.
abbrev pub targets_height : Targets → ℕ
targets_height (one s) = 1
targets_height (several ss) = max 1 (length ss)

-- The number of instructions that make a value of the values of a sequence. The four instructions
-- of a required value are a copy, the test of the copy, a jump, and the operator that faults.
abbrev pub nary_op_size : NaryOp → ℕ
nary_op_size required = 4
nary_op_size k = 1

-- The number of entries that such instructions need, with the values of the sequence. A required
-- value needs one more for its copy.
abbrev pub nary_op_height : NaryOp → ℕ
nary_op_height required = 2
nary_op_height k = 1

module _ {K : Type 0} where
  -- ---- Size: the number of instructions of each form

  abbrev mutual
    pub expr_size : SlotExpr K → ℕ
    expr_size (pooled k) = 1
    expr_size (variable s) = 1
    expr_size (field f) = 1
    expr_size absent = 0
    expr_size (made k es) = row_size es + nary_op_size k
    expr_size (conjunction a b) = expr_size a + 4 + expr_size b
    expr_size (disjunction a b) = expr_size a + 4 + expr_size b
    expr_size (choice c a b) = expr_size c + 2 + expr_size a + expr_size b
    -- The three instructions are the begin and the end of the capture, and the call.
    expr_size (invoke u escaping es) = row_size es + 3

    pub row_size : SRow K → ℕ
    row_size none = 0
    row_size (item e es) = expr_size e + row_size es
    row_size (aside i e es) = expr_size e + 1 + row_size es

  -- The number of instructions of a loop's condition: next, item, targets, condition, keep, jump
  -- back and rewind.
  abbrev pub condition_size : Targets → Option (SlotExpr K) → ℕ
  condition_size xs None = 0
  condition_size xs (Some c) = 5 + targets_size xs + expr_size c

  abbrev mutual
    pub stmt_size : SlotStmt K → ℕ
    stmt_size (put_pooled k) = 1
    stmt_size (print p escaping e) = expr_size e + 1
    stmt_size (assign p xs e) = expr_size e + targets_size xs
    -- The two instructions are the test, and the jump over the `else` part.
    stmt_size (if_else p c a b) = expr_size c + 2 + body_size a + body_size b
    -- The instructions are start, next, item, targets, body, jump back, end, and the test before
    -- the `else` part.
    stmt_size (for_each p xs e c body other) =
        expr_size e + condition_size xs c + 6 + targets_size xs + body_size body + body_size other
    stmt_size (capture escaping s body) = body_size body + 3
    stmt_size (run u es) = row_size es + 1

    pub body_size : SBody K → ℕ
    body_size end = 0
    body_size (stmt s rest) = stmt_size s + body_size rest

  -- The number of instructions of the routines, each with its return.
  abbrev pub routines_size : List (Routine K) → ℕ
  routines_size [] = 0
  routines_size (r ∷ rs) = body_size r.body + 1 + routines_size rs

  -- ---- Height: the number of entries that a form needs above the existing ones, its value
  -- included

  abbrev mutual
    pub expr_height : SlotExpr K → ℕ
    expr_height (pooled k) = 1
    expr_height (variable s) = 1
    expr_height (field f) = 1
    expr_height absent = 1
    expr_height (made k es) = max (nary_op_height k) (row_height es)
    expr_height (conjunction a b) = max (expr_height a) (max 2 (expr_height b))
    expr_height (disjunction a b) = max (expr_height a) (max 2 (expr_height b))
    expr_height (choice c a b) = max (expr_height c) (max (expr_height a) (expr_height b))
    -- The arguments lie above the capture.
    expr_height (invoke u escaping es) = 1 + row_height es

    -- The height of a sequence. Each expression lies above the values before it.
    pub row_height : SRow K → ℕ
    row_height none = 0
    row_height (item e es) = max (expr_height e) (1 + row_height es)
    row_height (aside i e es) = max (expr_height e) (row_height es)

  abbrev pub condition_height : Option (SlotExpr K) → ℕ
  condition_height None = 0
  condition_height (Some c) = expr_height c

  abbrev mutual
    pub stmt_height : SlotStmt K → ℕ
    stmt_height (put_pooled k) = 0
    stmt_height (print p escaping e) = expr_height e
    stmt_height (assign p xs e) = max (expr_height e) (targets_height xs)
    stmt_height (if_else p c a b) = max (expr_height c) (max (body_height a) (body_height b))
    -- Targets, condition and body lie above the loop's frame.
    stmt_height (for_each p xs e c body other) =
        max (expr_height e)
        (max (1 + max (targets_height xs) (max (condition_height c) (body_height body)))
        (body_height other))
    stmt_height (capture escaping s body) = 1 + body_height body
    stmt_height (run u es) = row_height es

    pub body_height : SBody K → ℕ
    body_height end = 0
    body_height (stmt s rest) = max (stmt_height s) (body_height rest)
