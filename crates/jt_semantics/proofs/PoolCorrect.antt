-- The meaning of a tree with indices into the pool is the meaning of the tree with its values.
use Rattle.std.proofs.Common.{◌≡◌, ℕ, zero, suc, ◌+◌, Bool, if◌then◌else◌, List, [], ◌∷◌, ◌++◌, length}
use Rattle.std.proofs.Common.{Option, Some, None, refl, ap, ◌∙◌, subst, arith, rules}
use Rattle.std.specs.Prelude.{slice_get}
use Rattle.jt_value.specs.Tree.{Tree}
use Rattle.jt_value.specs.Place.{Place}
use Rattle.jt_eval.specs.Eval.{Eval, bind, checked, at}
use Rattle.jt_ir.specs.Slots.{SlotExpr, pooled, variable, field, absent, made, conjunction, disjunction}
use Rattle.jt_ir.specs.Slots.{choice, invoke, SRow, none, item, aside, Targets, SlotStmt, put_pooled, print, assign}
use Rattle.jt_ir.specs.Slots.{if_else, for_each, capture, run, SBody, end, stmt, Routine, Memory, Valued, Listed}
use Rattle.jt_ir.specs.Slots.{SCalls, valued, svalue, svalues, skept, sturns, seval_loop, smeaning}
use Rattle.jt_ir.specs.Slots.{smeanings, seval_invocation, scalls}
use Rattle.jt_eval.specs.Loops.{Loop, items_of_value, tree_at}
use Rattle.jt_eval.specs.Filters.{Filters}
use Rattle.jt_ir.specs.Pool.{Constant, constant_in, constant_values, expr_values, row_values}
use Rattle.jt_ir.specs.Pool.{condition_values, stmt_values, body_values, routines_values, placed, placed_expr}
use Rattle.jt_ir.specs.Pool.{placed_row, placed_condition, placed_stmt, placed_body, placed_routines}
use Rattle.jt_semantics.proofs.SameEval.{bind_ext}
use Rattle.jt_semantics.proofs.EnvMemoryAgreement.{Held}

held_front : (ts : List Tree) (n : ℕ) (us vs : List Tree) → Held ts n (us ++ vs) → Held ts n us
held_front ts n [] vs h = tt
held_front ts n (u ∷ us) vs h = (h.0, held_front ts (suc n) us vs h.1)

held_back : (ts : List Tree) (n : ℕ) (us vs : List Tree) → Held ts n (us ++ vs) → Held ts (n + length us) vs
held_back ts n [] vs h = subst (λ k. Held ts k vs) (omega arith) h
held_back ts n (u ∷ us) vs h =
    subst (λ k. Held ts k vs) (omega arith)
    (held_back ts (suc n) us vs h.1)

module _ (fs : Filters) (pool : List Tree) (call call' : SCalls)
    (same : (u : ℕ) (ts gs : List Tree) → call' u ts gs ≡ call u ts gs) where
  -- The value of a constant is at its index in the pool.
  constant_placed : (k : Constant) (n : ℕ) → Held pool n (constant_values k)
      → tree_at pool (placed k n) ≡ constant_in pool k
  constant_placed k n h = search (arith, rules)

  abbrev by_value : SlotExpr Constant → Option Loop → Memory → Eval Valued
  by_value e l m = svalue fs (constant_in pool) call e l m

  abbrev by_place : SlotExpr ℕ → Option Loop → Memory → Eval Valued
  by_place e l m = svalue fs (tree_at pool) call' e l m

  abbrev row_by_value : SRow Constant → Option Loop → Memory → Eval Listed
  row_by_value es l m = svalues fs (constant_in pool) call es l m

  abbrev row_by_place : SRow ℕ → Option Loop → Memory → Eval Listed
  row_by_place es l m = svalues fs (tree_at pool) call' es l m

  if_same : {A : Type 0} (b : Bool) (x y x' y' : A) → x ≡ x' → y ≡ y' → (if b then x else y) ≡ (if b then x' else y')
  if_same b x y x' y' e f = search (arith, rules)

  -- If two computations are equal, and their continuations are equal, the sequences are equal.
  then_same : {A B : Type 0} (g h : Eval A) (f k : A → Eval B) → g ≡ h → ((x : A) → f x ≡ k x) → bind g f ≡ bind h k
  then_same g h f k e d = ap (λ z. bind z f) e ∙ bind_ext h f k d

  mutual
    expr_placed : (e : SlotExpr Constant) (n : ℕ) (l : Option Loop) (m : Memory) → Held pool n (expr_values e)
        → by_place (placed_expr e n) l m ≡ by_value e l m
    expr_placed (pooled k) n l m h = ap (valued m) (constant_placed k n h)
    expr_placed (variable s) n l m h = refl
    expr_placed (field f) n l m h = refl
    expr_placed absent n l m h = refl
    expr_placed (made k es) n l m h = search (arith, rules, row_placed es n l m h)
    expr_placed (conjunction a b) n l m h =
        search (arith, rules, then_same, held_front, if_same, held_back, expr_placed a n l m, expr_placed b)
    expr_placed (disjunction a b) n l m h =
        search (arith, rules, then_same, held_front, if_same, held_back, expr_placed a n l m, expr_placed b)
    expr_placed (choice c a b) n l m h =
        grind (arith, held_back, then_same, held_front, if_same, expr_placed c n l m, expr_placed a, expr_placed b)
    expr_placed (invoke u on es) n l m h = search (arith, rules, then_same, row_placed es n l m h)

    row_placed : (es : SRow Constant) (n : ℕ) (l : Option Loop) (m : Memory) → Held pool n (row_values es)
        → row_by_place (placed_row es n) l m ≡ row_by_value es l m
    row_placed none n l m h = refl
    row_placed (item e es) n l m h =
        search (arith, rules, then_same, held_front, held_back, expr_placed e n l m, row_placed es)
    row_placed (aside i e es) n l m h =
        search (arith, rules, then_same, held_front, held_back, expr_placed e n l m, row_placed es)

  kept_placed : (c : Option (SlotExpr Constant)) (n : ℕ) (xs : Targets) (vs : List Tree) (m : Memory)
      → Held pool n (condition_values c)
      → skept fs (tree_at pool) call' (placed_condition c n) xs vs m ≡ skept fs (constant_in pool) call c xs vs m
  kept_placed None n xs vs m h = refl
  kept_placed (Some c) n xs [] m h = refl
  kept_placed (Some c) n xs (v ∷ vs) m h =
      search (arith, rules, bind_ext, then_same, expr_placed, kept_placed (Some c) n xs vs)

  turns_same : (f k : Option Loop → Memory → Eval Memory) → ((l : Option Loop) (m : Memory) → f l m ≡ k l m)
      → (xs : Targets) (p : Place) (all : List Tree) (i : ℕ) (vs : List Tree) (m : Memory)
      → sturns f xs p all i vs m ≡ sturns k xs p all i vs m
  turns_same f k d xs p all i [] m = refl
  turns_same f k d xs p all i (v ∷ vs) m =
      search (arith, rules, bind_ext, then_same, turns_same f k d xs p all (suc i) vs)

  gone_same : (f k : Option Loop → Memory → Eval Memory) → ((l : Option Loop) (m : Memory) → f l m ≡ k l m)
      → (g h : Memory → Eval Memory) → ((m : Memory) → g m ≡ h m)
      → (xs : Targets) (p : Place) (vs : List Tree) (m : Memory) → seval_loop f g xs p vs m ≡ seval_loop k h xs p vs m
  gone_same f k d g h e xs p vs m = search (arith, rules, turns_same)

  abbrev body_by_value : SBody Constant → Option Loop → Memory → Eval Memory
  body_by_value b l m = smeanings fs (constant_in pool) call b l m

  abbrev body_by_place : SBody ℕ → Option Loop → Memory → Eval Memory
  body_by_place b l m = smeanings fs (tree_at pool) call' b l m

  mutual
    stmt_placed : (s : SlotStmt Constant) (n : ℕ) (l : Option Loop) (m : Memory) → Held pool n (stmt_values s)
        → smeaning fs (tree_at pool) call' (placed_stmt s n) l m ≡ smeaning fs (constant_in pool) call s l m
    stmt_placed (put_pooled k) n l m h = search (arith, rules, constant_placed)
    stmt_placed (print p on e) n l m h = search (arith, rules, expr_placed)
    stmt_placed (assign p xs e) n l m h = search (arith, rules, expr_placed)
    stmt_placed (if_else p c a b) n l m h =
        search (arith, rules, held_back, then_same, expr_placed, held_front, if_same, body_placed a, body_placed b)
    stmt_placed (for_each p xs e c body other) n l m h =
        let n1 = n + length (expr_values e) in
        let n2 = n1 + length (condition_values c) in
        let n3 = n2 + length (body_values body) in
        let h1 = held_back pool n (expr_values e) (condition_values c ++ (body_values body ++ body_values other)) h in
        let h2 = held_back pool n1 (condition_values c) (body_values body ++ body_values other) h1 in
        then_same (at p (bind (by_place (placed_expr e n) l m)
        (λ r. bind (checked (items_of_value r.value))
        (λ vs. skept fs (tree_at pool) call' (placed_condition c n1) xs vs r.memory))))
        (at p (bind (by_value e l m)
        (λ r. bind (checked (items_of_value r.value)) (λ vs. skept fs (constant_in pool) call c xs vs r.memory))))
        (λ r. seval_loop (λ l' m'. body_by_place (placed_body body n2) l' m')
        (λ m'. body_by_place (placed_body other n3) l m') xs p r.values r.memory)
        (λ r. seval_loop (λ l' m'. body_by_value body l' m') (λ m'. body_by_value other l m') xs p r.values r.memory)
        (ap (at p) (then_same (by_place (placed_expr e n) l m) (by_value e l m)
        (λ r. bind (checked (items_of_value r.value))
        (λ vs. skept fs (tree_at pool) call' (placed_condition c n1) xs vs r.memory))
        (λ r. bind (checked (items_of_value r.value)) (λ vs. skept fs (constant_in pool) call c xs vs r.memory))
        (expr_placed
        e n l m (held_front pool n (expr_values e) (condition_values c ++ (body_values body ++ body_values other)) h))
        (λ r. bind_ext (checked (items_of_value r.value))
        (λ vs. skept fs (tree_at pool) call' (placed_condition c n1) xs vs r.memory)
        (λ vs. skept fs (constant_in pool) call c xs vs r.memory)
        (λ vs. kept_placed c n1 xs vs r.memory
        (held_front pool n1 (condition_values c) (body_values body ++ body_values other) h1)))))
        (λ r. gone_same (λ l' m'. body_by_place (placed_body body n2) l' m') (λ l' m'. body_by_value body l' m')
        (λ l' m'. body_placed body n2 l' m' (held_front pool n2 (body_values body) (body_values other) h2))
        (λ m'. body_by_place (placed_body other n3) l m') (λ m'. body_by_value other l m')
        (λ m'. body_placed other n3 l m' (held_back pool n2 (body_values body) (body_values other) h2)) xs p r.values
        r.memory)
    stmt_placed (capture on s body) n l m h = search (arith, rules, body_placed body n l)
    stmt_placed (run u es) n l m h = search (arith, rules, then_same, row_placed)

    pub body_placed : (b : SBody Constant) (n : ℕ) (l : Option Loop) (m : Memory) → Held pool n (body_values b)
        → body_by_place (placed_body b n) l m ≡ body_by_value b l m
    body_placed end n l m h = refl
    body_placed (stmt s rest) n l m h =
        search (arith, rules, then_same, held_front, held_back, stmt_placed s n l m, body_placed rest)

  -- A routine keeps its meaning when its constants become indices into the pool.
  pub routine_placed : (rs : List (Routine Constant)) (n u : ℕ) (ts gs : List Tree) → Held pool n (routines_values rs)
      → seval_invocation fs (tree_at pool) call' (slice_get (placed_routines rs n) u) ts gs
      ≡ seval_invocation fs (constant_in pool) call (slice_get rs u) ts gs
  routine_placed [] n u ts gs h = refl
  routine_placed (r ∷ rs) n zero ts gs h = search (arith, rules, body_placed, held_front)
  routine_placed (r ∷ rs) n (suc u) ts gs h = search (arith, rules, held_back, routine_placed rs)

-- Calls keep their meaning when constants become indices into the pool, at each depth.
pub calls_placed : (fs : Filters) (pool : List Tree) (rs : List (Routine Constant)) (n : ℕ)
    → Held pool n (routines_values rs) → (d u : ℕ) (ts gs : List Tree)
    → scalls fs (tree_at pool) (placed_routines rs n) d u ts gs ≡ scalls fs (constant_in pool) rs d u ts gs
calls_placed fs pool rs n h zero u ts gs = refl
calls_placed fs pool rs n h (suc d) u ts gs = search (arith, rules, routine_placed, calls_placed fs pool rs n h d)
