-- The arity of resolved trees. Each operation has the number of values that it takes, and each call
-- the number of its routine's parameters. A field of a loop occurs only in a loop of its routine.
use Rattle.std.specs.Prelude.{◌≡◌, ℕ, zero, suc, Bool, true, false, IsTrue, List, Option, Some, None, slice_get}
use Rattle.jt_ids.specs.OpTable.{op_operands}
use Rattle.jt_ids.specs.TestTable.{test_values}
use Rattle.jt_eval.specs.Filters.{Filters}
use Rattle.jt_ir.specs.Size.{row_count}
use Rattle.jt_ir.specs.Slots.{NaryOp, operator, test, filter, a_list, a_map, required, SlotExpr, pooled, variable}
use Rattle.jt_ir.specs.Slots.{field, absent, made, conjunction, disjunction, choice, invoke, SRow, none, item, aside}
use Rattle.jt_ir.specs.Slots.{SlotStmt, put_pooled, print, assign, if_else, for_each, capture, run, SBody, end, stmt}
use Rattle.jt_ir.specs.Slots.{Routine}

-- Holds if the number is even, so that keys and values alternate.
abbrev pub InPairs : ℕ → Type 0
InPairs zero = Unit {0}
InPairs (suc zero) = ⊥
InPairs (suc (suc n)) = InPairs n

abbrev pub NaryOpTakes : Filters → NaryOp → ℕ → Type 0
NaryOpTakes fs (operator o) n = op_operands o ≡ n
NaryOpTakes fs (test t) n = test_values t ≡ n
NaryOpTakes fs (filter f escaping) n = IsTrue (fs.takes f n)
NaryOpTakes fs a_list n = Unit {0}
NaryOpTakes fs a_map n = InPairs n
NaryOpTakes fs required n = n ≡ 1

-- Holds if the routine exists and has n parameters.
abbrev pub HasParameters : {K : Type 0} → Option (Routine K) → ℕ → Type 0
HasParameters None n = ⊥
HasParameters (Some r) n = r.parameters ≡ n

module _ {K : Type 0} (fs : Filters) (rs : List (Routine K)) where
  -- Holds if an expression has the right arity. `in_loop` is true inside a loop.
  abbrev mutual
    pub ExprTakes : Bool → SlotExpr K → Type 0
    ExprTakes in_loop (pooled k) = Unit {0}
    ExprTakes in_loop (variable s) = Unit {0}
    ExprTakes in_loop (field f) = IsTrue in_loop
    -- No name without meaning has an arity, so each name must have a meaning.
    ExprTakes in_loop absent = ⊥
    ExprTakes in_loop (made k es) = NaryOpTakes fs k (row_count es) × RowTakes in_loop es
    ExprTakes in_loop (conjunction a b) = ExprTakes in_loop a × ExprTakes in_loop b
    ExprTakes in_loop (disjunction a b) = ExprTakes in_loop a × ExprTakes in_loop b
    ExprTakes in_loop (choice c a b) = ExprTakes in_loop c × ExprTakes in_loop a × ExprTakes in_loop b
    ExprTakes in_loop (invoke u escaping es) =
        HasParameters (slice_get rs u) (row_count es) × RowTakes in_loop es

    pub RowTakes : Bool → SRow K → Type 0
    RowTakes in_loop none = Unit {0}
    RowTakes in_loop (item e es) = ExprTakes in_loop e × RowTakes in_loop es
    RowTakes in_loop (aside i e es) = ExprTakes in_loop e × RowTakes in_loop es

  abbrev pub ConditionTakes : Option (SlotExpr K) → Type 0
  ConditionTakes None = Unit {0}
  ConditionTakes (Some c) = ExprTakes false c

  abbrev mutual
    pub StmtTakes : Bool → SlotStmt K → Type 0
    StmtTakes in_loop (put_pooled k) = Unit {0}
    StmtTakes in_loop (print p escaping e) = ExprTakes in_loop e
    StmtTakes in_loop (assign p xs e) = ExprTakes in_loop e
    StmtTakes in_loop (if_else p c a b) = ExprTakes in_loop c × BodyTakes in_loop a × BodyTakes in_loop b
    StmtTakes in_loop (for_each p xs e c body other) =
        ExprTakes in_loop e × ConditionTakes c × BodyTakes true body × BodyTakes in_loop other
    StmtTakes in_loop (capture escaping s body) = BodyTakes in_loop body
    StmtTakes in_loop (run u es) = HasParameters (slice_get rs u) (row_count es) × RowTakes in_loop es

    pub BodyTakes : Bool → SBody K → Type 0
    BodyTakes in_loop end = Unit {0}
    BodyTakes in_loop (stmt s rest) = StmtTakes in_loop s × BodyTakes in_loop rest
