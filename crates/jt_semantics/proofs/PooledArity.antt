-- A tree keeps its arity when its constants become indices into the pool.
use Rattle.std.proofs.Common.{◌≡◌, ℕ, zero, suc, ◌+◌, Bool, true, false, List, [], ◌∷◌, length, Option, Some, None}
use Rattle.std.proofs.Common.{refl, sym, ap, subst}
use Rattle.std.specs.Prelude.{slice_get}
use Rattle.std.specs.List.{AllByRecursion as Each}
use Rattle.jt_chains.specs.Chain.{Namespace}
use Rattle.jt_eval.specs.Filters.{Filters}
use Rattle.jt_rules.specs.CompileEnv.{CompileEnv}
use Rattle.jt_ir.specs.Slots.{SlotExpr, pooled, variable, field, absent, made, conjunction, disjunction, choice, invoke}
use Rattle.jt_ir.specs.Slots.{SRow, none, item, aside, SlotStmt, put_pooled, print, assign, if_else, for_each, capture}
use Rattle.jt_ir.specs.Slots.{run, SBody, end, stmt, Routine}
use Rattle.jt_ir.specs.Size.{row_count}
use Rattle.jt_ir.specs.Takes.{NaryOpTakes, HasParameters, ExprTakes, RowTakes, ConditionTakes, StmtTakes, BodyTakes}
use Rattle.jt_ir.specs.Pool.{Constant, expr_values, condition_values, stmt_values, body_values, placed_expr, placed_row}
use Rattle.jt_ir.specs.Pool.{placed_condition, placed_stmt, placed_body, placed_routines}
use Rattle.jt_rules.specs.Known.{ChainsKnown}
use Rattle.jt_semantics.specs.Layout.{shared}
use Rattle.jt_semantics.specs.Programs.{routines, program}
use Rattle.jt_chains.specs.Includes.{InOrder}
use Rattle.jt_chains.specs.Rules.{Reaches, KeepsRules}
use Rattle.jt_semantics.proofs.KeptUses.{ChainsKeep}
use Rattle.jt_semantics.proofs.ArityCorrect.{routines_serve}

parameters_placed : (rs : List (Routine Constant)) (k u n : ℕ) → HasParameters (slice_get rs u) n
    → HasParameters (slice_get (placed_routines rs k) u) n
parameters_placed [] k u n h = h
parameters_placed (r ∷ rs) k zero n h = h
parameters_placed (r ∷ rs) k (suc u) n h = parameters_placed rs (k + length (body_values r.body)) u n h

count_placed : (es : SRow Constant) (n : ℕ) → row_count (placed_row es n) ≡ row_count es
count_placed none n = refl
count_placed (item e es) n = ap suc (count_placed es (n + length (expr_values e)))
count_placed (aside i e es) n = count_placed es (n + length (expr_values e))

module _ (fs : Filters) (rs : List (Routine Constant)) (k : ℕ) where
  mutual
    expr_placed : (l : Bool) (e : SlotExpr Constant) (n : ℕ) → ExprTakes fs rs l e
        → ExprTakes fs (placed_routines rs k) l (placed_expr e n)
    expr_placed l (pooled c) n h = tt
    expr_placed l (variable s) n h = tt
    expr_placed l (field f) n h = h
    expr_placed l absent n h = h
    expr_placed l (made m es) n h = (subst (NaryOpTakes fs m) (sym (count_placed es n)) h.0, row_placed l es n h.1)
    expr_placed l (conjunction a b) n h = (expr_placed l a n h.0, expr_placed l b (n + length (expr_values a)) h.1)
    expr_placed l (disjunction a b) n h = (expr_placed l a n h.0, expr_placed l b (n + length (expr_values a)) h.1)
    expr_placed l (choice c a b) n h = (
      expr_placed l c n h.0,
      expr_placed l a (n + length (expr_values c)) h.1,
      expr_placed l b (n + length (expr_values c) + length (expr_values a)) h.2,
    )
    expr_placed l (invoke u on es) n h = (
      subst (HasParameters (slice_get (placed_routines rs k) u)) (sym (count_placed es n))
          (parameters_placed rs k u (row_count es) h.0),
      row_placed l es n h.1,
    )

    row_placed : (l : Bool) (es : SRow Constant) (n : ℕ) → RowTakes fs rs l es
        → RowTakes fs (placed_routines rs k) l (placed_row es n)
    row_placed l none n h = tt
    row_placed l (item e es) n h = (expr_placed l e n h.0, row_placed l es (n + length (expr_values e)) h.1)
    row_placed l (aside i e es) n h = (expr_placed l e n h.0, row_placed l es (n + length (expr_values e)) h.1)

  condition_placed : (c : Option (SlotExpr Constant)) (n : ℕ) → ConditionTakes fs rs c
      → ConditionTakes fs (placed_routines rs k) (placed_condition c n)
  condition_placed None n h = tt
  condition_placed (Some c) n h = expr_placed false c n h

  mutual
    stmt_placed : (l : Bool) (s : SlotStmt Constant) (n : ℕ) → StmtTakes fs rs l s
        → StmtTakes fs (placed_routines rs k) l (placed_stmt s n)
    stmt_placed l (put_pooled c) n h = tt
    stmt_placed l (print p on e) n h = expr_placed l e n h
    stmt_placed l (assign p xs e) n h = expr_placed l e n h
    stmt_placed l (if_else p c a b) n h = (
      expr_placed l c n h.0,
      body_placed l a (n + length (expr_values c)) h.1,
      body_placed l b (n + length (expr_values c) + length (body_values a)) h.2,
    )
    stmt_placed l (for_each p xs e c body other) n h = (
      expr_placed l e n h.0,
      condition_placed c (n + length (expr_values e)) h.1,
      body_placed true body (n + length (expr_values e) + length (condition_values c)) h.2,
      body_placed l other (n + length (expr_values e) + length (condition_values c) + length (body_values body)) h.3,
    )
    stmt_placed l (capture on s body) n h = body_placed l body n h
    stmt_placed l (run u es) n h = (
      subst (HasParameters (slice_get (placed_routines rs k) u)) (sym (count_placed es n))
          (parameters_placed rs k u (row_count es) h.0),
      row_placed l es n h.1,
    )

    body_placed : (l : Bool) (b : SBody Constant) (n : ℕ) → BodyTakes fs rs l b
        → BodyTakes fs (placed_routines rs k) l (placed_body b n)
    body_placed l end n h = tt
    body_placed l (stmt s rest) n h = (stmt_placed l s n h.0, body_placed l rest (n + length (stmt_values s)) h.1)

  all_placed : (qs : List (Routine Constant)) (n : ℕ) → Each (λ r. BodyTakes fs rs false r.body) qs
      → Each (λ r. BodyTakes fs (placed_routines rs k) false r.body) (placed_routines qs n)
  all_placed [] n h = tt
  all_placed (q ∷ qs) n h = (body_placed false q.body n h.0, all_placed qs (n + length (body_values q.body)) h.1)

pub program_takes : (cenv : CompileEnv) (entry : Namespace) (rest : List Namespace)
    → InOrder cenv.sources (entry ∷ rest) → Each (Reaches cenv.sources cenv.escaping entry) (entry ∷ rest)
    → KeepsRules cenv.sources cenv.escaping entry
    → ChainsKeep cenv (entry ∷ rest) → ChainsKnown cenv (entry ∷ rest)
    → Each (λ r. BodyTakes cenv.filters (program cenv (entry ∷ rest) entry).routines false r.body)
    (program cenv (entry ∷ rest) entry).routines
program_takes cenv entry rest ordered reached unbroken kept known =
    all_placed cenv.filters (routines cenv (entry ∷ rest)) (length (shared cenv (entry ∷ rest)))
    (routines cenv (entry ∷ rest)) (length (shared cenv (entry ∷ rest)))
    (routines_serve cenv (entry ∷ rest) (entry ∷ rest) entry ordered (λ h e. e) reached unbroken kept known)
