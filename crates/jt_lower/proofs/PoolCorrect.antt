-- Constants with indices into the pool have their old meaning.
use Rattle.std.proofs.Common.{◌≡◌, ℕ, zero, suc, Bool, if◌then◌else◌, List, [], ◌∷◌, ◌++◌, length}
use Rattle.std.proofs.Common.{Option, Some, None, refl, ap, arith, rules}
use Rattle.std.specs.Prelude.{slice_get}
use Rattle.jt_value.specs.Tree.{Tree}
use Rattle.jt_value.specs.Place.{Place}
use Rattle.jt_eval.specs.Eval.{Eval, bind, at}
use Rattle.jt_ir.specs.Slots.{with_locals, SlotExpr, SRow, Targets, SlotStmt, SBody, Routine, Memory, Valued, SCalls}
use Rattle.jt_ir.specs.Slots.{store, take, make, valued, sturns, seval_loop, svalue, svalues, skept, smeaning}
use Rattle.jt_ir.specs.Slots.{smeanings, seval_invocation, scalls, smean_of}
use Rattle.jt_eval.specs.Filters.{Filters}
use Rattle.jt_eval.specs.Loops.{Loop, tree_at}
use Rattle.jt_ir.specs.Slots as slots
use Rattle.jt_ir.specs.Pool.{Constant, constant_in, constant_values, expr_values, row_values}
use Rattle.jt_ir.specs.Pool.{condition_values, stmt_values, body_values, routines_values, placed, placed_expr}
use Rattle.jt_ir.specs.Pool.{placed_row, placed_condition, placed_stmt, placed_body, placed_routines}
use Rattle.jt_lower.proofs.ListsInPlace.{StandsAt, stands_front, stands_back, stands_whole}

-- Equal results with equal continuations for each value have equal results.
bind_same : {A B : Type 0} (g g' : Eval A) (f f' : A → Eval B) → g ≡ g' → ((x : A) → f x ≡ f' x) → bind g f ≡ bind g' f'
bind_same {A} {B} g g' f f' e h = search (arith, rules)

if_same : {A : Type 0} (b : Bool) (g g' h h' : Eval A) → g ≡ g' → h ≡ h' → (if b then g else h) ≡ (if b then g' else h')
if_same b g g' h h' e f = search (arith, rules)

turns_same : (means means' : Option Loop → Memory → Eval Memory)
    → ((l : Option Loop) (m : Memory) → means l m ≡ means' l m)
    → (xs : Targets) (q : Place) (all : List Tree) (i : ℕ) (vs : List Tree) (m : Memory)
    → sturns means xs q all i vs m ≡ sturns means' xs q all i vs m
turns_same means means' h xs q all i [] m = refl
turns_same means means' h xs q all i (v ∷ vs) m =
    search (arith, rules, bind_same, turns_same means means' h xs q all (suc i) vs)

over_same : (means means' : Option Loop → Memory → Eval Memory) (other other' : Memory → Eval Memory)
    → ((l : Option Loop) (m : Memory) → means l m ≡ means' l m) → ((m : Memory) → other m ≡ other' m)
    → (xs : Targets) (q : Place) (vs : List Tree) (m : Memory)
    → seval_loop means other xs q vs m ≡ seval_loop means' other' xs q vs m
over_same means means' other other' h g xs q vs m = search (arith, rules, turns_same)

module _ (filters : Filters) (pool : List Tree) where
  constant_same : (k : Constant) (n : ℕ) → StandsAt pool n (constant_values k)
      → constant_in pool k ≡ tree_at pool (placed k n)
  constant_same k n at = search (arith, rules)

  module _ (call call' : SCalls) (calls : (u : ℕ) (ts gs : List Tree) → call u ts gs ≡ call' u ts gs) where
    abbrev V : SlotExpr Constant → Option Loop → Memory → Eval Valued
    V e l m = svalue filters (constant_in pool) call e l m

    abbrev V' : SlotExpr ℕ → Option Loop → Memory → Eval Valued
    V' e l m = svalue filters (tree_at pool) call' e l m

    mutual
      expr_same : (e : SlotExpr Constant) (n : ℕ) (l : Option Loop) (m : Memory) → StandsAt pool n (expr_values e)
          → V e l m ≡ V' (placed_expr e n) l m
      expr_same (slots.pooled k) n l m at = ap (valued m) (constant_same k n at)
      expr_same (slots.variable s) n l m at = refl
      expr_same (slots.field f) n l m at = refl
      expr_same slots.absent n l m at = refl
      expr_same (slots.made k es) n l m at = search (arith, rules, row_same es n l m at)
      expr_same (slots.conjunction a b) n l m at =
          search (arith, rules, bind_same, expr_same a n l m, stands_front, if_same, expr_same b, stands_back)
      expr_same (slots.disjunction a b) n l m at =
          search (arith, rules, bind_same, expr_same a n l m, stands_front, if_same, expr_same b, stands_back)
      expr_same (slots.choice c a b) n l m at =
          search (
            arith,
            rules,
            stands_back,
            bind_same,
            expr_same c n l m,
            stands_front,
            if_same,
            expr_same a,
            expr_same b,
          )
      expr_same (slots.invoke u escaping es) n l m at = search (arith, rules, bind_same, row_same es n l m at)

      row_same : (es : SRow Constant) (n : ℕ) (l : Option Loop) (m : Memory) → StandsAt pool n (row_values es)
          → svalues filters (constant_in pool) call es l m ≡ svalues filters (tree_at pool) call' (placed_row es n) l m
      row_same slots.none n l m at = refl
      row_same (slots.item e es) n l m at =
          search (arith, rules, bind_same, expr_same e n l m, stands_front, row_same es, stands_back)
      row_same (slots.aside i e es) n l m at =
          search (arith, rules, bind_same, expr_same e n l m, stands_front, row_same es, stands_back)

    kept_same : (c : Option (SlotExpr Constant)) (n : ℕ) (xs : Targets) (vs : List Tree) (m : Memory)
        → StandsAt pool n (condition_values c) → skept filters (constant_in pool) call c xs vs m
        ≡ skept filters (tree_at pool) call' (placed_condition c n) xs vs m
    kept_same None n xs vs m at = refl
    kept_same (Some c) n xs [] m at = refl
    kept_same (Some c) n xs (v ∷ vs) m at = search (arith, rules, bind_same, expr_same, kept_same (Some c) n xs vs)

    abbrev S : SBody Constant → Option Loop → Memory → Eval Memory
    S b l m = smeanings filters (constant_in pool) call b l m

    abbrev S' : SBody ℕ → Option Loop → Memory → Eval Memory
    S' b l m = smeanings filters (tree_at pool) call' b l m

    mutual
      stmt_same : (s : SlotStmt Constant) (n : ℕ) (l : Option Loop) (m : Memory) → StandsAt pool n (stmt_values s)
          → smeaning filters (constant_in pool) call s l m ≡ smeaning filters (tree_at pool) call' (placed_stmt s n) l m
      stmt_same (slots.put_pooled k) n l m at = search (arith, rules, constant_same)
      stmt_same (slots.print q escaping e) n l m p = search (arith, rules, expr_same)
      stmt_same (slots.assign q xs e) n l m p = search (arith, rules, expr_same)
      stmt_same (slots.if_else q c a b) n l m p =
          search (arith, rules, stands_back, bind_same, expr_same, stands_front, if_same, body_same a, body_same b)
      stmt_same (slots.for_each q xs e c body other) n l m p =
          search (
            arith,
            rules,
            stands_back,
            bind_same,
            expr_same,
            stands_front,
            kept_same,
            over_same,
            body_same body,
            body_same other,
          )
      stmt_same (slots.capture escaping s body) n l m p = search (arith, rules, body_same body n l)
      stmt_same (slots.run u es) n l m p = search (arith, rules, bind_same, row_same)

      body_same : (b : SBody Constant) (n : ℕ) (l : Option Loop) (m : Memory) → StandsAt pool n (body_values b)
          → S b l m ≡ S' (placed_body b n) l m
      body_same slots.end n l m at = refl
      body_same (slots.stmt s rest) n l m at =
          search (arith, rules, bind_same, stmt_same s n l m, stands_front, body_same rest, stands_back)

    -- The routine with this number has the same meaning.
    performed_same : (rs : List (Routine Constant)) (n u : ℕ) (ts gs : List Tree) → StandsAt pool n (routines_values rs)
        → seval_invocation filters (constant_in pool) call (slice_get rs u) ts gs
        ≡ seval_invocation filters (tree_at pool) call' (slice_get (placed_routines rs n) u) ts gs
    performed_same [] n u ts gs at = refl
    performed_same (r ∷ rs) n zero ts gs at = search (arith, rules, body_same, stands_front)
    performed_same (r ∷ rs) n (suc u) ts gs at = search (arith, rules, stands_back, performed_same rs)

  module _ (rs : List (Routine Constant)) (n : ℕ) (at : StandsAt pool n (routines_values rs)) where
    calls_same : (d u : ℕ) (ts gs : List Tree) → scalls filters (constant_in pool) rs d u ts gs
        ≡ scalls filters (tree_at pool) (placed_routines rs n) d u ts gs
    calls_same zero u ts gs = refl
    calls_same (suc d) u ts gs = search (arith, rules, performed_same, calls_same d)

    means_same : (gs : List Tree) (d : ℕ)
        → smean_of filters (constant_in pool) rs gs d ≡ smean_of filters (tree_at pool) (placed_routines rs n) gs d
    means_same gs d = search (arith, rules, performed_same, calls_same)

-- The pool has the given values, then those of the routines.
pub pooled_same : (filters : Filters) (front : List Tree) (rs : List (Routine Constant)) (gs : List Tree) (d : ℕ)
    → smean_of filters (constant_in (front ++ routines_values rs)) rs gs d
    ≡ smean_of filters (tree_at (front ++ routines_values rs)) (placed_routines rs (length front)) gs d
pooled_same filters front rs gs d = search (arith, rules, means_same, stands_whole)
