-- Each step of a loop adds a level to its tree, so the loop never meets the bound on its steps.
use Rattle.std.proofs.Common.{◌≡◌, ℕ, zero, suc, ◌+◌, ◌<◌, ◌≤◌, Option, Some, None, Ok, Err, refl, sym, ◌∙◌, arith}
use Rattle.std.proofs.Common.{rules}
use Rattle.jt_expr.specs.declared.error.ExprError.{ExprError}
use Rattle.jt_ast.specs.Expressions.{Expr, constant, levels}
use Rattle.jt_expr.specs.Grammar.{Tokens}
use Rattle.jt_expr.specs.internal.Reading.{Reader, ParseResult, ◌>>=◌, again, loop, cap}
use Rattle.jt_expr.specs.internal.Gives.{Refuses}
use Rattle.jt_expr.proofs.Binding.{All, all_ok, cap_both}

-- A refusal of a step is a refusal of the whole.
pub refused : {A B : Type 0} (x : ParseResult B) (o : ParseResult A) (f : A → Reader B) (r : ExprError) → x ≡ (o >>= f)
    → Refuses o r → Refuses x r
refused x o f r h q = search (arith, rules)

pub levels_some : (t : Expr) → 0 < levels t
levels_some (constant l) = omega arith
levels_some a0 = omega arith

-- A new tree has more levels than t, and at most n.
abbrev pub Raised : ℕ → Expr → Option Expr → Tokens → Type 0
Raised n t None v = Unit {0}
Raised n t (Some new) v = (levels new ≤ n) × (levels t < levels new)

-- Each step adds a level, up to n.
abbrev pub Raises : ℕ → (Expr → Reader (Option Expr)) → Type 0
Raises n step = (t : Expr) (ts : Tokens) → All (Raised n t) (step t ts)

same_turn : (step : Expr → Reader (Option Expr)) (a b : ℕ) (t : Expr) (o : ParseResult (Option Expr))
    → ((new : Expr) (v : Tokens) → o ≡ Ok (Some new, v) → loop step a new v ≡ loop step b new v)
    → (o >>= again (loop step a) t) ≡ (o >>= again (loop step b) t)
same_turn step a b t (Ok (None, v)) h = refl
same_turn step a b t (Ok (Some new, v)) h = h new v refl
same_turn step a b t (Err x) h = refl

-- Two bounds on the steps that suffice give one outcome.
pub same_turns : (n : ℕ) (step : Expr → Reader (Option Expr)) → Raises n step → (a b : ℕ) (t : Expr) (ts : Tokens)
    → levels t ≤ n → n < a + levels t → n < b + levels t → loop step a t ts ≡ loop step b t ts
unfolding loop
same_turns n step g zero b t ts le p q = absurd (omega arith)
same_turns n step g (suc a) zero t ts le p q = absurd (omega arith)
same_turns n step g (suc a) (suc b) t ts le p q = search (arith, rules, same_turn, all_ok, same_turns n step g a b)

-- A step that adds a level, and the loop after it.
pub cap_turn : {M : Type 0} (m : ℕ) (step : Expr → Reader (Option Expr)) → Raises (suc m) step
    → (t new : Expr) (v : Tokens) → levels t < levels new → (made : M) (f : M → Reader Expr)
    → f made v ≡ loop step (suc m) new v
    → (cap (levels new) (suc m) (Some new) v >>= again (loop step m) t) ≡ (cap (levels new) (suc m) made v >>= f)
cap_turn m step g t new v more made f e =
    let some : 0 < levels t = levels_some t in
    cap_both (levels new) (suc m) (Some new) made v (again (loop step m) t) f (λ le.
    same_turns (suc m) step g m (suc m) new v le (omega arith) (omega arith) ∙ sym e)
