-- The state after an expression or after the first tag of a statement.
use Rattle.std.proofs.Common.{◌≡◌, ℕ, suc, ◌+◌, ◌-◌, ◌<◌, ◌≤◌, nat_lt, true, false, List, [], ◌∷◌, length, refl, sym}
use Rattle.std.proofs.Common.{subst, ◌∙◌, append-nil, arith, Result, Ok, Err}
use Rattle.std.proofs.lemmas.Bool.Decides.{nat_tests}
use Rattle.jt_scan.specs.Cut.{Token}
use Rattle.jt_ast.specs.Expressions.{Expr, levels}
use Rattle.jt_parse.specs.Tags.{Head, Says, says_if, head_levels}
use Rattle.jt_parse.specs.internal.Reading.{State, After}
use Rattle.jt_parse.specs.internal.Gives.{GivesOnly, Refuses, refusal_at}
use Rattle.jt_expr.specs.Grammar.{Tokens, word, Spells, whole}
use Rattle.jt_expr.specs.Promises.{Leads}
use Rattle.jt_ast.specs.ExpressionView.{expr_view}
use Rattle.jt_ast.specs.declared.expression.Expr.{Expr as Tree}
use Rattle.jt_expr.specs.declared.error.ExprError.{ExprError}
use Rattle.jt_expr.specs.declared.error.ExprError.TheVariants as fault
use Rattle.jt_parse.specs.internal.HeadView.{head_view}
use Rattle.jt_parse.specs.internal.Readers.{ReadsHead}
use Rattle.jt_parse.specs.declared.opening_tags.Head.{Head as First}
use Rattle.jt_parse.specs.declared.error.ParseError.{ParseError}
use Rattle.jt_parse.specs.declared.error.ParseError.TheVariants as e

-- The state after the only value of the form, and the refusal without it.
module _ {A B : Type 0} (view : A → B) (NestedForm : B → Type 0) (height : B → ℕ) (n : ℕ) (next : B → State) where
  pub only_ok : (a : A) (st : State) → GivesOnly view NestedForm height n (Ok a) → st ≡ next (view a)
      → After NestedForm height n next (Ok st)
  only_ok a st g is = (view a, g.0, g.1, g.2, is)

  pub only_refused : (x : ParseError) → GivesOnly view NestedForm height n (Err x)
      → Refuses (After NestedForm height n next) x
  only_refused (e.Syntax l) g = g
  only_refused (e.TooDeep l) g = g
  only_refused (e.UnknownFilter l) g = g
  only_refused (e.UnknownTest l) g = g
  only_refused e.NoMemory g = tt

pub too_deep : {A B : Type 0} (view : A → B) (NestedForm : B → Type 0) (height : B → ℕ) (n line : ℕ) (x : ParseError)
    → x ≡ e.TooDeep line → ((b : B) → NestedForm b → n < height b) → GivesOnly view NestedForm height n (Err x)
too_deep view NestedForm height n line x is over = subst (λ z. GivesOnly view NestedForm height n (Err z)) (sym is) over

-- `around` of the n allowed levels enclose the value, and `limit` levels are left.
pub enclosed : {A B : Type 0} (view : A → B) (NestedForm : B → Type 0) (height : B → ℕ) (around limit n : ℕ)
    → around + limit ≡ n → (r : Result A ParseError) → GivesOnly view NestedForm height limit r
    → GivesOnly view NestedForm (λ b. around + height b) n r
enclosed view NestedForm height around limit n all (Ok a) g = (g.0, omega (arith, g.1, all), g.2)
enclosed view NestedForm height around limit n all (Err (e.Syntax l)) g = g
enclosed view NestedForm height around limit n all (Err (e.TooDeep l)) g = λ b d. let p = g b d in omega (arith, p, all)
enclosed view NestedForm height around limit n all (Err (e.UnknownFilter l)) g = g
enclosed view NestedForm height around limit n all (Err (e.UnknownTest l)) g = g
enclosed view NestedForm height around limit n all (Err e.NoMemory) g = tt

pub some_levels : {line : ℕ} {h : Head} {x : List Token} → Says line h x → 0 < head_levels h
some_levels (says_if d) = omega arith
some_levels a0 = omega arith

-- If too many levels enclose it, no value of the form fits.
pub no_room : {B : Type 0} (NestedForm : B → Type 0) (height : B → ℕ) (n : ℕ) (next : B → State) (line : ℕ)
    (x : ParseError)
    → x ≡ e.TooDeep line → ((b : B) → NestedForm b → n < height b)
    → Refuses (After NestedForm height n next) x
no_room NestedForm height n next line x is over = subst (λ z. Refuses (After NestedForm height n next) z) (sym is) over

pub expression_over : (outer d n l : ℕ) → nat_lt outer n ≡ false → outer ≡ d → n < suc d + l
expression_over outer d n l h is = let le : n ≤ outer = grind (arith, nat_tests) in omega (arith, le, is)

pub head_over : (outer d n l : ℕ) → nat_lt outer n ≡ false → outer ≡ d → 0 < l → n < d + l
head_over outer d n l h is some = let le : n ≤ outer = grind (arith, nat_tests) in omega (arith, le, is, some)

pub one_left : (outer d n limit : ℕ) → nat_lt outer n ≡ true → outer ≡ d → limit ≡ n - suc outer → suc d + limit ≡ n
one_left outer d n limit h same is = let less : outer < n = grind (arith, nat_tests) in omega (arith, less, same, is)

pub head_left : (outer d n limit : ℕ) → nat_lt outer n ≡ true → outer ≡ d → limit ≡ n - suc outer → d + suc limit ≡ n
head_left outer d n limit h same is = let less : outer < n = grind (arith, nat_tests) in omega (arith, less, same, is)

-- The refusal of an expression.
pub expression_refused : (limit line : ℕ) (ts : Tokens) (f : ExprError)
    → (◌≡◌ {A = Result Tree ExprError} (Err f) (Err fault.Syntax) → (t : Expr) → Spells whole t ts → ⊥)
    → (◌≡◌ {A = Result Tree ExprError} (Err f) (Err fault.TooDeep) → (t : Expr) → Spells whole t ts → limit < levels t)
    → GivesOnly expr_view (λ c. Spells whole c ts) levels limit (Err (refusal_at line f))
expression_refused limit line ts fault.Syntax none deep = none refl
expression_refused limit line ts fault.TooDeep none deep = deep refl
expression_refused limit line ts fault.NoMemory none deep = tt

-- ---- the first tag of a statement

module _ (m line : ℕ) (w : List ℕ) (ts : Tokens) where
  whole_leads : (h : Head) → Says line h (word w ∷ ts) → Leads (λ a x. Says line a (word w ∷ x)) h ts []
  whole_leads h d = (ts, sym (append-nil ts), d)

  pub head_found : (h : First) → ReadsHead line m w ts (Ok h) []
      → GivesOnly head_view (λ a. Says line a (word w ∷ ts)) head_levels (suc m) (Ok h)
  head_found h g = (
    subst (λ x. Says line (head_view h) (word w ∷ x)) (sym (g.0.1 ∙ append-nil g.0.0)) g.0.2,
    g.1,
    λ b d. (g.2 b [] (whole_leads b d) refl).0,
  )

  pub head_refused : (f : ExprError) → ReadsHead line m w ts (Err f) []
      → GivesOnly head_view (λ a. Says line a (word w ∷ ts)) head_levels (suc m) (Err (refusal_at line f))
  head_refused fault.Syntax g = λ b d. g b [] (whole_leads b d) refl
  head_refused fault.TooDeep g = λ b d. g b [] (whole_leads b d) refl
  head_refused fault.NoMemory g = tt
