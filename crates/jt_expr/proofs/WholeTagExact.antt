-- The result of parsing all tokens of a tag.
use Rattle.std.proofs.Common.{◌≡◌, ℕ, ◌<◌, ◌≤◌, [], ◌∷◌, length, refl, sym, ap, subst, ◌∙◌, arith, append-nil, Result}
use Rattle.std.proofs.Common.{Ok, Err, IfOk, MatchResult, rules}
use Rattle.std.specs.Prelude.{IsErrOf}
use Rattle.jt_expr.specs.declared.error.ExprError.{ExprError}
use Rattle.jt_expr.specs.declared.error.ExprError.TheVariants as e
use Rattle.jt_expr.specs.declared.part.LeveledExpr.{LeveledExpr}
use Rattle.jt_ast.specs.declared.expression.Expr.{Expr as Tree}
use Rattle.jt_ast.specs.ExpressionView.{expr_view}
use Rattle.jt_ast.specs.Expressions.{Expr, levels}
use Rattle.jt_expr.specs.Grammar.{Tokens, Spells, whole}
use Rattle.jt_expr.specs.Promises.{Leads, Reads, EndsAt, the_end}

-- ---- from a prefix to all tokens

-- The contract of a result at the start of the tokens.
abbrev InFront : ℕ → Tokens → Result LeveledExpr ExprError → Tokens → Type 0
InFront = Reads (λ (p : LeveledExpr). expr_view p.expr.value) (Spells whole) (EndsAt whole) levels

-- The contract of a result that takes all tokens.
abbrev pub OfAll : ℕ → Tokens → Result Tree ExprError → Type 0
OfAll n ts r = Reads expr_view (Spells whole) (λ v. v ≡ []) levels n ts r []

none_ends : (v : Tokens) → v ≡ [] → EndsAt whole v
none_ends v h = subst (EndsAt whole) (sym h) the_end

pub refused_before : (n : ℕ) (ts rest : Tokens) (x : ExprError) → InFront n ts (Err x) rest → OfAll n ts (Err x)
refused_before n ts rest e.Syntax g = λ b v l h. g b v l (none_ends v h)
refused_before n ts rest e.TooDeep g = λ b v l h. g b v l (none_ends v h)
refused_before n ts rest e.NoMemory g = tt

pub left_over : (n : ℕ) (ts rest : Tokens) (p : LeveledExpr) → InFront n ts (Ok p) rest → 0 < length rest
    → OfAll n ts (Err e.Syntax)
left_over n ts rest p g some =
    λ b v l h. let same = (g.2 b v l (none_ends v h)).1 in
    let none = ap length (sym h ∙ same) in absurd (omega (arith, some, none))

pub all_read : (n : ℕ) (ts rest : Tokens) (p : LeveledExpr) (x : Tree) → InFront n ts (Ok p) rest → length rest ≤ 0
    → x ≡ p.expr.value → OfAll n ts (Ok x)
all_read n ts [] p x g none same = rw same (g.0, g.1, λ b v l h. g.2 b v l (none_ends v h))
all_read n ts (t ∷ rest) p x g none same = absurd (omega arith)

-- ---- the result

led : (t : Expr) (ts : Tokens) → Spells whole t ts → Leads (Spells whole) t ts []
led t ts d = (ts, sym (append-nil ts), d)

pub answer_spelled : (n : ℕ) (ts : Tokens) (r : Result Tree ExprError) → OfAll n ts r
    → IfOk r (λ x. Spells whole (expr_view x) ts × (levels (expr_view x) ≤ n))
answer_spelled n ts (Ok x) g = let l = g.0 in (subst (Spells whole (expr_view x)) (sym (l.1 ∙ append-nil l.0)) l.2, g.1)
answer_spelled n ts (Err x) g = tt

pub answers_only : (n : ℕ) (ts : Tokens) (r : Result Tree ExprError) → OfAll n ts r → (t : Expr) → Spells whole t ts
    → levels t ≤ n → MatchResult r (λ x. expr_view x ≡ t) (λ x. x ≡ e.NoMemory)
answers_only n ts (Ok x) g t d le = sym (g.2 t [] (led t ts d) refl).0
answers_only n ts (Err e.Syntax) g t d le = absurd (g t [] (led t ts d) refl)
answers_only n ts (Err e.TooDeep) g t d le = absurd (omega (arith, g t [] (led t ts d) refl))
answers_only n ts (Err e.NoMemory) g t d le = refl

pub answers_alone : (n : ℕ) (ts : Tokens) (r : Result Tree ExprError) → OfAll n ts r
    → IfOk r (λ x. (t : Expr) → Spells whole t ts → t ≡ expr_view x)
answers_alone n ts (Ok x) g = λ t d. (g.2 t [] (led t ts d) refl).0
answers_alone n ts (Err x) g = tt

pub answers_syntax : (n : ℕ) (ts : Tokens) (r : Result Tree ExprError) → OfAll n ts r → IsErrOf r e.Syntax → (t : Expr)
    → Spells whole t ts → ⊥
answers_syntax n ts (Ok x) g h t d = cc
answers_syntax n ts (Err e.Syntax) g h t d = g t [] (led t ts d) refl
answers_syntax n ts (Err e.TooDeep) g h t d = cc
answers_syntax n ts (Err e.NoMemory) g h t d = cc

pub answers_deep : (n : ℕ) (ts : Tokens) (r : Result Tree ExprError) → OfAll n ts r → IsErrOf r e.TooDeep → (t : Expr)
    → Spells whole t ts → n < levels t
answers_deep n ts r g h t d = search (arith, rules, led)
