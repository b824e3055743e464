-- The program of lawful routines fits.
use Rattle.std.proofs.Common.{◌≡◌, ℕ, zero, suc, ◌+◌, ◌<◌, ◌≤◌, Bool, true, false, List, [], ◌∷◌, ◌++◌, length, Option}
use Rattle.std.proofs.Common.{Some, None, refl, sym, ap, subst, arith, length-append, rules}
use Rattle.std.specs.Prelude.{slice_get}
use Rattle.std.specs.List.{AllByRecursion}
use Rattle.std.proofs.lemmas.Option.{slice_get_within}
use Rattle.jt_value.specs.Tree as tree
use Rattle.jt_value.specs.Tree.{Tree}
use Rattle.jt_ast.specs.Expressions.{Text}
use Rattle.jt_ir.specs.Slots as slots
use Rattle.jt_ir.specs.Slots.{Slot, local, global, NaryOp, SlotExpr, SRow, Targets, SlotStmt, SBody, Routine, Program}
use Rattle.jt_ir.specs.Locals.{slot_locals, slots_locals, targets_locals, expr_locals, row_locals, condition_locals}
use Rattle.jt_ir.specs.Locals.{stmt_locals, body_locals}
use Rattle.jt_ir.specs.Pool.{Constant, own, known, constant_values, expr_values, row_values, condition_values}
use Rattle.jt_ir.specs.Pool.{stmt_values, body_values, routines_values, placed, placed_expr, placed_row}
use Rattle.jt_ir.specs.Pool.{placed_condition, placed_stmt, placed_body, placed_routine, placed_routines}
use Rattle.jt_ir.specs.Size.{row_count, expr_height, row_height, condition_height, stmt_height, body_height, expr_size}
use Rattle.jt_ir.specs.Size.{row_size, condition_size, stmt_size, body_size, routines_size}
use Rattle.jt_image.specs.Typed.{max_entries}
use Rattle.jt_lower.specs.Fits.{OfSlots, OfTargets, NaryOpFits, TakesRow, IsBare, SlotFits, ExprFits, RowFits}
use Rattle.jt_lower.specs.Fits.{ConditionFits, TextFits, StmtFits, BodyFits, RoutineFits, IsPooled, ProgramFits}
use Rattle.jt_eval.specs.TheFilters.{the_filters}
use Rattle.jt_ir.specs.Takes.{NaryOpTakes, HasParameters, ExprTakes, RowTakes, ConditionTakes, StmtTakes, BodyTakes}
use Rattle.jt_lower.specs.Lawful.{ConstantLawful, TextLawful, SlotLawful, ExprLawful, RowLawful, ConditionLawful}
use Rattle.jt_lower.specs.Lawful.{StmtLawful, BodyLawful, RoutineLawful, program_with, AreLawful, AreLow}
use Rattle.jt_lower.proofs.ListsInPlace.{StandsAt, stands_front, stands_back, stands_whole}

-- ---- lists

pub all_append : {A : Type 0} (P : A → Type 0) (xs ys : List A) → AllByRecursion P xs → AllByRecursion P ys
    → AllByRecursion P (xs ++ ys)
all_append P [] ys h g = g
all_append P (x ∷ xs) ys h g = (h.0, all_append P xs ys h.1 g)

all_get : {A : Type 0} (P : A → Type 0) (xs : List A) (i : ℕ) (x : A) → AllByRecursion P xs → slice_get xs i ≡ Some x
    → P x
all_get P [] i x h e = absurd cc
all_get P (y ∷ xs) zero x h e = let same : y ≡ x = cc in subst P same h.0
all_get P (y ∷ xs) (suc i) x h e = all_get P xs i x h.1 e

-- ---- routines

-- A routine with indices comes from one without indices, and its values are in the pool.
placed_was : (rs : List (Routine Constant)) (n u : ℕ) (q : Routine ℕ) (pool : List Tree)
    → slice_get (placed_routines rs n) u ≡ Some q → StandsAt pool n (routines_values rs)
    → (r : Routine Constant) × (m : ℕ) × (slice_get rs u ≡ Some r) × (placed_routine r m ≡ q)
    × StandsAt pool m (body_values r.body)
placed_was [] n u q pool e h = absurd cc
placed_was (r ∷ rs) n zero q pool e h = search (arith, rules, stands_front)
placed_was (r ∷ rs) n (suc u) q pool e h =
    placed_was rs (n + length (body_values r.body)) u q pool e
    (stands_back pool n (body_values r.body) (routines_values rs) h)

-- A routine without indices becomes one with indices.
placed_is : (rs : List (Routine Constant)) (n u : ℕ) (r : Routine Constant) → slice_get rs u ≡ Some r
    → (m : ℕ) × (slice_get (placed_routines rs n) u ≡ Some (placed_routine r m))
placed_is [] n u r e = absurd cc
placed_is (s ∷ rs) n zero r e = let same : s ≡ r = cc in (n, ap (λ x. Some (placed_routine x n)) same)
placed_is (s ∷ rs) n (suc u) r e = placed_is rs (n + length (body_values s.body)) u r e

bare_placed : (es : SRow Constant) (n : ℕ) → IsBare es → IsBare (placed_row es n)
bare_placed (slots.item (slots.pooled k) es) n b = bare_placed es (n + length (constant_values k)) b
bare_placed (slots.item (slots.variable s) es) n b = bare_placed es (n + 0) b
bare_placed es n b = search (arith, rules)

-- ---- heights and sizes

mutual
  expr_placed : (e : SlotExpr Constant) (n : ℕ)
      → (expr_size (placed_expr e n) ≡ expr_size e) × (expr_height (placed_expr e n) ≡ expr_height e)
  expr_placed (slots.made m es) n = let a = row_placed es n in (omega (arith, a.0), omega (arith, a.1))
  expr_placed (slots.conjunction x y) n = search (arith, rules, expr_placed x n, expr_placed y)
  expr_placed (slots.disjunction x y) n = search (arith, rules, expr_placed x n, expr_placed y)
  expr_placed (slots.choice c x y) n = search (arith, rules, expr_placed c n, expr_placed x, expr_placed y)
  expr_placed (slots.invoke u on es) n = let a = row_placed es n in (omega (arith, a.0), omega (arith, a.1))
  expr_placed e n = (refl, refl)

  row_placed : (es : SRow Constant) (n : ℕ)
      → (row_size (placed_row es n) ≡ row_size es) × (row_height (placed_row es n) ≡ row_height es)
  row_placed slots.none n = (refl, refl)
  row_placed (slots.item e es) n = search (arith, rules, expr_placed e n, row_placed es)
  row_placed (slots.aside i e es) n = search (arith, rules, expr_placed e n, row_placed es)

condition_placed : (xs : Targets) (c : Option (SlotExpr Constant)) (n : ℕ)
    → (condition_size xs (placed_condition c n) ≡ condition_size xs c)
    × (condition_height (placed_condition c n) ≡ condition_height c)
condition_placed xs None n = (refl, refl)
condition_placed xs (Some c) n = let a = expr_placed c n in (omega (arith, a.0), a.1)

mutual
  stmt_placed : (s : SlotStmt Constant) (n : ℕ)
      → (stmt_size (placed_stmt s n) ≡ stmt_size s) × (stmt_height (placed_stmt s n) ≡ stmt_height s)
  stmt_placed (slots.put_pooled c) n = (refl, refl)
  stmt_placed (slots.print p on e) n = let a = expr_placed e n in (omega (arith, a.0), a.1)
  stmt_placed (slots.assign p xs e) n = let a = expr_placed e n in (omega (arith, a.0), omega (arith, a.1))
  stmt_placed (slots.if_else p c x y) n = search (arith, rules, expr_placed, body_placed x, body_placed y)
  stmt_placed (slots.for_each p xs e c body other) n =
      search (
        arith,
        rules,
        expr_placed e n,
        condition_placed xs c (n + length (expr_values e)),
        body_placed body (n + length (expr_values e) + length (condition_values c)),
        body_placed other (n + length (expr_values e) + length (condition_values c) + length (body_values body)),
      )
  stmt_placed (slots.capture on s body) n = let a = body_placed body n in (omega (arith, a.0), omega (arith, a.1))
  stmt_placed (slots.run u es) n = let a = row_placed es n in (omega (arith, a.0), a.1)

  body_placed : (b : SBody Constant) (n : ℕ)
      → (body_size (placed_body b n) ≡ body_size b) × (body_height (placed_body b n) ≡ body_height b)
  body_placed slots.end n = (refl, refl)
  body_placed (slots.stmt s rest) n = search (arith, rules, stmt_placed s n, body_placed rest)

-- Routines with indices need the same number of entries as before.
pub placed_low : (rs : List (Routine Constant)) (n : ℕ)
    → AllByRecursion (λ r. body_height r.body ≤ max_entries) (placed_routines rs n) → AreLow rs
placed_low [] n h = tt
placed_low (r ∷ rs) n h =
    (omega (arith, h.0, (body_placed r.body n).1), placed_low rs (n + length (body_values r.body)) h.1)

pub same_size : (rs : List (Routine Constant)) (n : ℕ) → routines_size (placed_routines rs n) ≡ routines_size rs
same_size [] n = refl
same_size (r ∷ rs) n = omega (arith, (body_placed r.body n).0, same_size rs (n + length (body_values r.body)))

module _ (names : List Text) (globals : ℕ) (front : List Tree) (rs : List (Routine Constant)) where
  abbrev p : Program
  p = program_with names globals front rs

  abbrev before : ℕ
  before = length front

  -- ---- the values of a body can be constants

  abbrev Pooled : List Tree → Type 0
  Pooled ts = AllByRecursion IsPooled ts

  constant_pooled : (k : Constant) → ConstantLawful before globals k → Pooled (constant_values k)
  constant_pooled k h = search (arith, rules)

  text_pooled : (k : Constant) → TextLawful before globals k → Pooled (constant_values k)
  text_pooled k h = search (arith, rules)

  mutual
    expr_pooled : (e : SlotExpr Constant) → ExprLawful before globals e → Pooled (expr_values e)
    expr_pooled (slots.pooled k) h = constant_pooled k h
    expr_pooled (slots.variable s) h = tt
    expr_pooled (slots.field f) h = tt
    expr_pooled slots.absent h = tt
    expr_pooled (slots.made k es) h = row_pooled es h
    expr_pooled (slots.conjunction a b) h =
        all_append IsPooled (expr_values a) (expr_values b) (expr_pooled a h.0) (expr_pooled b h.1)
    expr_pooled (slots.disjunction a b) h =
        all_append IsPooled (expr_values a) (expr_values b) (expr_pooled a h.0) (expr_pooled b h.1)
    expr_pooled (slots.choice c a b) h =
        all_append IsPooled (expr_values c) (expr_values a ++ expr_values b) (expr_pooled c h.0)
        (all_append IsPooled (expr_values a) (expr_values b) (expr_pooled a h.1) (expr_pooled b h.2))
    expr_pooled (slots.invoke u escaping es) h = row_pooled es h

    row_pooled : (es : SRow Constant) → RowLawful before globals es → Pooled (row_values es)
    row_pooled slots.none h = tt
    row_pooled (slots.item e es) h =
        all_append IsPooled (expr_values e) (row_values es) (expr_pooled e h.0) (row_pooled es h.1)
    row_pooled (slots.aside i e es) h =
        all_append IsPooled (expr_values e) (row_values es) (expr_pooled e h.0) (row_pooled es h.1)

  condition_pooled : (c : Option (SlotExpr Constant)) → ConditionLawful before globals c → Pooled (condition_values c)
  condition_pooled c h = search (arith, rules, expr_pooled)

  mutual
    stmt_pooled : (s : SlotStmt Constant) → StmtLawful before globals s → Pooled (stmt_values s)
    stmt_pooled (slots.put_pooled k) h = text_pooled k h
    stmt_pooled (slots.print q escaping e) h = expr_pooled e h
    stmt_pooled (slots.assign q xs e) h = expr_pooled e h.1
    stmt_pooled (slots.if_else q c a b) h =
        all_append IsPooled (expr_values c) (body_values a ++ body_values b) (expr_pooled c h.0)
        (all_append IsPooled (body_values a) (body_values b) (body_pooled a h.1) (body_pooled b h.2))
    stmt_pooled (slots.for_each q xs e c body other) h =
        search (arith, rules, all_append, expr_pooled, condition_pooled, body_pooled body h.3, body_pooled other h.4)
    stmt_pooled (slots.capture escaping s body) h = body_pooled body h.1
    stmt_pooled (slots.run u es) h = row_pooled es h.0

    body_pooled : (b : SBody Constant) → BodyLawful before globals b → Pooled (body_values b)
    body_pooled slots.end h = tt
    body_pooled (slots.stmt s rest) h =
        all_append IsPooled (stmt_values s) (body_values rest) (stmt_pooled s h.0) (body_pooled rest h.1)

  routines_pooled : (qs : List (Routine Constant)) → AllByRecursion (RoutineLawful before globals) qs
      → Pooled (routines_values qs)
  routines_pooled [] h = tt
  routines_pooled (r ∷ qs) h =
      all_append IsPooled (body_values r.body) (routines_values qs) (body_pooled r.body h.0.body)
      (routines_pooled qs h.1)

  -- ---- the trees fit a routine with `count` locals

  module _ (count : ℕ) where
    slot_fits : (s : Slot) → SlotLawful before globals s → slot_locals s ≤ count → SlotFits p count s
    slot_fits s h le = search (arith, rules)

    constant_fits : (k : Constant) (n : ℕ) → ConstantLawful before globals k → StandsAt p.pool n (constant_values k)
        → placed k n < length p.pool
    constant_fits k n h at = search (arith, rules, slice_get_within, length-append)

    text_fits : (k : Constant) (n : ℕ) → TextLawful before globals k → StandsAt p.pool n (constant_values k)
        → TextFits p count (placed k n)
    text_fits (own (tree.text t)) n h at = (t, at.0)
    text_fits (own v) n h at = absurd h
    text_fits (known i) n h at = absurd h

    called : (o : Option (Routine ℕ)) (u i : ℕ) → slice_get p.routines u ≡ o → HasParameters o i
        → TakesRow p.routines u i
    called o u i e t = search (arith, rules)

    call_fits : (u : ℕ) (es : SRow Constant) (n : ℕ)
        → HasParameters (slice_get p.routines u) (row_count (placed_row es n))
        → TakesRow p.routines u (row_count (placed_row es n))
    call_fits u es n t = called (slice_get p.routines u) u (row_count (placed_row es n)) refl t

    nary_op_fits : (k : NaryOp) (i : ℕ) → NaryOpTakes the_filters k i → NaryOpFits k i
    unfolding the_filters
    nary_op_fits k i t = search (arith, rules)

    mutual
      expr_fits : (e : SlotExpr Constant) (inside : Bool) (n : ℕ)
          → ExprTakes the_filters p.routines inside (placed_expr e n) → ExprLawful before globals e
          → StandsAt p.pool n (expr_values e) → expr_locals e ≤ count → ExprFits p count inside (placed_expr e n)
      expr_fits (slots.pooled k) inside n t h at le = constant_fits k n h at
      expr_fits (slots.variable s) inside n t h at le = slot_fits s h le
      expr_fits (slots.field f) inside n t h at le = t
      expr_fits slots.absent inside n t h at le = t
      expr_fits (slots.made k es) inside n t h at le =
          (nary_op_fits k (row_count (placed_row es n)) t.0, row_fits es inside n t.1 h at le)
      expr_fits (slots.conjunction a b) inside n t h at le = (
        expr_fits a inside n t.0 h.0 (stands_front p.pool n (expr_values a) (expr_values b) at) (omega (arith, le)),
        expr_fits b inside (n + length (expr_values a)) t.1 h.1
            (stands_back p.pool n (expr_values a) (expr_values b) at) (omega (arith, le)),
      )
      expr_fits (slots.disjunction a b) inside n t h at le = (
        expr_fits a inside n t.0 h.0 (stands_front p.pool n (expr_values a) (expr_values b) at) (omega (arith, le)),
        expr_fits b inside (n + length (expr_values a)) t.1 h.1
            (stands_back p.pool n (expr_values a) (expr_values b) at) (omega (arith, le)),
      )
      expr_fits (slots.choice c a b) inside n t h at le =
          search (
            arith,
            rules,
            stands_back,
            expr_fits c inside n t.0 h.0,
            stands_front,
            expr_fits a inside,
            expr_fits b inside,
          )
      expr_fits (slots.invoke u escaping es) inside n t h at le =
          (call_fits u es n t.0, row_fits es inside n t.1 h at le)

      row_fits : (es : SRow Constant) (inside : Bool) (n : ℕ) → RowTakes the_filters p.routines inside (placed_row es n)
          → RowLawful before globals es → StandsAt p.pool n (row_values es) → row_locals es ≤ count
          → RowFits p count inside (placed_row es n)
      row_fits slots.none inside n t h at le = tt
      row_fits (slots.item e es) inside n t h at le = (
        expr_fits e inside n t.0 h.0 (stands_front p.pool n (expr_values e) (row_values es) at) (omega (arith, le)),
        row_fits es inside (n + length (expr_values e)) t.1 h.1
            (stands_back p.pool n (expr_values e) (row_values es) at) (omega (arith, le)),
      )
      row_fits (slots.aside i e es) inside n t h at le =
          search (
            arith,
            rules,
            expr_fits e inside n t.0 h.0,
            stands_front,
            row_fits es inside (n + length (expr_values e)) t.1 h.1,
            stands_back,
          )

    each_fits : (ss : List (Option Slot)) → OfSlots (SlotLawful before globals) ss → slots_locals ss ≤ count
        → OfSlots (SlotFits p count) ss
    each_fits [] h le = tt
    each_fits (None ∷ ss) h le = (tt, each_fits ss h.1 le)
    each_fits (Some s ∷ ss) h le = (slot_fits s h.0 (omega (arith, le)), each_fits ss h.1 (omega (arith, le)))

    targets_fit : (xs : Targets) → OfTargets (SlotLawful before globals) xs → targets_locals xs ≤ count
        → OfTargets (SlotFits p count) xs
    targets_fit xs h le = search (arith, rules, slot_fits, each_fits)

    condition_fits : (c : Option (SlotExpr Constant)) (n : ℕ)
        → ConditionTakes the_filters p.routines (placed_condition c n) → ConditionLawful before globals c
        → StandsAt p.pool n (condition_values c) → condition_locals c ≤ count
        → ConditionFits p count (placed_condition c n)
    condition_fits c n t h at le = search (arith, rules, expr_fits)

    mutual
      stmt_fits : (s : SlotStmt Constant) (inside : Bool) (n : ℕ)
          → StmtTakes the_filters p.routines inside (placed_stmt s n) → StmtLawful before globals s
          → StandsAt p.pool n (stmt_values s) → stmt_locals s ≤ count → StmtFits p count inside (placed_stmt s n)
      stmt_fits (slots.put_pooled k) inside n t h at le = text_fits k n h at
      stmt_fits (slots.print q escaping e) inside n t h at le = expr_fits e inside n t h at le
      stmt_fits (slots.assign q xs e) inside n t h at le = search (arith, rules, targets_fit, expr_fits)
      stmt_fits (slots.if_else q c a b) inside n t h at le =
          search (arith, rules, stands_back, expr_fits, stands_front, body_fits a inside, body_fits b inside)
      stmt_fits (slots.for_each q xs e c body other) inside n t h at le =
          search (
            arith,
            rules,
            stands_back,
            targets_fit,
            expr_fits,
            stands_front,
            condition_fits,
            body_fits body true,
            body_fits other inside,
          )
      stmt_fits (slots.capture escaping s body) inside n t h at le =
          (slot_fits s h.0 (omega (arith, le)), body_fits body inside n t h.1 at (omega (arith, le)))
      stmt_fits (slots.run u es) inside n t h at le = search (arith, rules, call_fits, row_fits, bare_placed)

      body_fits : (b : SBody Constant) (inside : Bool) (n : ℕ)
          → BodyTakes the_filters p.routines inside (placed_body b n) → BodyLawful before globals b
          → StandsAt p.pool n (body_values b) → body_locals b ≤ count → BodyFits p count inside (placed_body b n)
      body_fits slots.end inside n t h at le = tt
      body_fits (slots.stmt s rest) inside n t h at le = (
        stmt_fits s inside n t.0 h.0 (stands_front p.pool n (stmt_values s) (body_values rest) at)
            (omega (arith, le)),
        body_fits rest inside (n + length (stmt_values s)) t.1 h.1
            (stands_back p.pool n (stmt_values s) (body_values rest) at) (omega (arith, le)),
      )

  -- ---- the whole program

  routine_fits : AreLawful names globals front rs → AreLow rs → (u : ℕ) (q : Routine ℕ)
      → slice_get p.routines u ≡ Some q → RoutineFits p q
  routine_fits lawful low u q e =
      let x = placed_was rs before u q p.pool e (stands_whole (routines_values rs) front) in
      let r = x.0 in
      let law = all_get (RoutineLawful before globals) rs u r lawful.routines x.2 in
      let takes = subst (λ (z : Routine ℕ). BodyTakes the_filters p.routines false z.body) (sym x.3)
      (all_get (λ (z : Routine ℕ). BodyTakes the_filters p.routines false z.body) p.routines u q lawful.takes e) in
      let below = all_get (λ (z : Routine Constant). body_height z.body ≤ max_entries) rs u r low x.2 in
      let same : body_height (placed_body r.body x.1) ≡ body_height r.body = (body_placed r.body x.1).1 in
      record {
        body = subst (λ (z : Routine ℕ). BodyFits p z.locals false z.body) x.3
            (body_fits r.locals r.body false x.1 takes law.body x.4 law.locals);
        low = subst (λ (z : Routine ℕ). body_height z.body ≤ max_entries) x.3 (omega (arith, below, same));
      }

  pub lawful_fits : AreLawful names globals front rs → AreLow rs → ProgramFits p
  lawful_fits lawful low =
      let first = placed_is rs before 0 lawful.entry lawful.is_entry in
      record {
        routines = routine_fits lawful low;
        entry = placed_routine lawful.entry first.0;
        is_entry = first.1;
        pooled =
            λ i t e. all_get IsPooled p.pool i t
            (all_append IsPooled front (routines_values rs) lawful.pooled (routines_pooled rs lawful.routines)) e;
        names = lawful.few;
      }
