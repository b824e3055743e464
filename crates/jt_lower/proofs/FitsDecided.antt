-- The conditions on programs can be computed, for programs of small templates.
use Rattle.std.specs.Prelude.{ℕ, zero, suc, Bool, true, false, ◌&&◌, ◌==◌, nat_lt, List, [], ◌∷◌, length}
use Rattle.std.specs.Prelude.{Option, Some, None, slice_get}
use Rattle.jt_value.specs.Tree as tree
use Rattle.jt_value.specs.Tree.{Tree}
use Rattle.jt_ids.specs.OpTable.{op_operands}
use Rattle.jt_ids.specs.TestTable.{test_values}
use Rattle.jt_filter_semantics.specs.FilterIds.{filter_of, accepts}
use Rattle.jt_ir.specs.Slots as slots
use Rattle.jt_ir.specs.Slots.{Slot, local, global, NaryOp, SlotExpr, SRow, Targets, SlotStmt, SBody, Routine, Program}
use Rattle.jt_ir.specs.Size.{row_count}

abbrev even : ℕ → Bool
even zero = true
even (suc zero) = false
even (suc (suc n)) = even n

abbrev nary_op_ok : NaryOp → ℕ → Bool
nary_op_ok (slots.operator o) n = op_operands o == n
nary_op_ok (slots.test t) n = test_values t == n
nary_op_ok (slots.filter f escaping) n = accepts (filter_of f) n
nary_op_ok slots.a_list n = true
nary_op_ok slots.a_map n = even n
nary_op_ok slots.required n = n == 1

abbrev takes_ok : Option (Routine ℕ) → ℕ → Bool
takes_ok None n = false
takes_ok (Some r) n = r.parameters == n

abbrev bare_ok : SRow ℕ → Bool
bare_ok slots.none = true
bare_ok (slots.item (slots.pooled i) es) = bare_ok es
bare_ok (slots.item (slots.variable s) es) = bare_ok es
bare_ok (slots.item e es) = false
bare_ok (slots.aside i e es) = false

module _ (p : Program) (count : ℕ) where
  abbrev slot_ok : Slot → Bool
  slot_ok (local i) = nat_lt i count
  slot_ok (global i) = nat_lt i p.globals

  abbrev mutual
    expr_ok : Bool → SlotExpr ℕ → Bool
    expr_ok inside (slots.pooled i) = nat_lt i (length p.pool)
    expr_ok inside (slots.variable s) = slot_ok s
    expr_ok inside (slots.field f) = inside
    expr_ok inside slots.absent = false
    expr_ok inside (slots.made k es) = nary_op_ok k (row_count es) && row_ok inside es
    expr_ok inside (slots.conjunction a b) = expr_ok inside a && expr_ok inside b
    expr_ok inside (slots.disjunction a b) = expr_ok inside a && expr_ok inside b
    expr_ok inside (slots.choice c a b) = expr_ok inside c && (expr_ok inside a && expr_ok inside b)
    expr_ok inside (slots.invoke u escaping es) = takes_ok (slice_get p.routines u) (row_count es) && row_ok inside es

    row_ok : Bool → SRow ℕ → Bool
    row_ok inside slots.none = true
    row_ok inside (slots.item e es) = expr_ok inside e && row_ok inside es
    row_ok inside (slots.aside i e es) = nat_lt i count && (expr_ok inside e && row_ok inside es)

  abbrev some_ok : Option Slot → Bool
  some_ok None = true
  some_ok (Some s) = slot_ok s

  abbrev each_ok : List (Option Slot) → Bool
  each_ok [] = true
  each_ok (s ∷ ss) = some_ok s && each_ok ss

  abbrev targets_ok : Targets → Bool
  targets_ok (slots.one s) = slot_ok s
  targets_ok (slots.several ss) = each_ok ss

  abbrev condition_ok : Option (SlotExpr ℕ) → Bool
  condition_ok None = true
  condition_ok (Some c) = expr_ok false c

  abbrev is_text : Option Tree → Bool
  is_text (Some (tree.text t)) = true
  is_text o = false

  abbrev mutual
    stmt_ok : Bool → SlotStmt ℕ → Bool
    stmt_ok inside (slots.put_pooled i) = is_text (slice_get p.pool i)
    stmt_ok inside (slots.print q escaping e) = expr_ok inside e
    stmt_ok inside (slots.assign q xs e) = targets_ok xs && expr_ok inside e
    stmt_ok inside (slots.if_else q c a b) = expr_ok inside c && (body_ok inside a && body_ok inside b)
    stmt_ok inside (slots.for_each q xs e c body other) =
        targets_ok xs && (expr_ok inside e && (condition_ok c && (body_ok true body && body_ok inside other)))
    stmt_ok inside (slots.capture escaping s body) = slot_ok s && body_ok inside body
    stmt_ok inside (slots.run u es) =
        takes_ok (slice_get p.routines u) (row_count es) && (row_ok inside es && bare_ok es)

    body_ok : Bool → SBody ℕ → Bool
    body_ok inside slots.end = true
    body_ok inside (slots.stmt s rest) = stmt_ok inside s && body_ok inside rest
