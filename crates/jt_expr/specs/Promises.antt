-- The contract of the readers of forms. `NestedForm a x` states that the tokens x are the form a.
-- `Ends v` states that no prefix of v continues the form.
use Rattle.std.specs.Prelude.{◌≡◌, ℕ, ◌<◌, ◌≤◌, max, [], ◌∷◌, ◌++◌, codes, Result, Ok, Err}
use Rattle.jt_scan.specs.declared.segment.Sign.TheVariants as s
use Rattle.jt_scan.specs.Cut as cut
use Rattle.jt_scan.specs.Cut.{tokens_weight}
use Rattle.jt_expr.specs.declared.error.ExprError.{ExprError}
use Rattle.jt_expr.specs.declared.error.ExprError.TheVariants as e
use Rattle.jt_expr.specs.declared.part.LeveledExpr.{LeveledExpr}
use Rattle.jt_expr.specs.declared.part.LeveledList.{LeveledList as SequenceKind}
use Rattle.jt_expr.specs.declared.rows.NestedForm.{NestedForm}
use Rattle.jt_expr.specs.declared.rows.NestedForm.TheVariants as f
use Rattle.jt_ast.specs.Expressions.{Expr, exprs_levels, pairs_levels, weight}
use Rattle.jt_ast.specs.Sizes.{expr_bytes}
use Rattle.jt_expr.specs.Sizes.{tokens_bytes}
use Rattle.jt_ast.specs.ExpressionView.{expr_view, exprs_view, pairs_view}
use Rattle.jt_expr.specs.Grammar.{Tokens, word, Level, whole, disjunction, inversion, signed, postfix, LeveledList}
use Rattle.jt_expr.specs.Grammar.{Spells}

abbrev pub tree_of : LeveledExpr → Expr
tree_of p = expr_view p.expr.value

abbrev pub parts_view : SequenceKind → LeveledList
parts_view p = (exprs_view p.items.items, pairs_view p.pairs.items)

abbrev pub level_of_form : NestedForm → Level
level_of_form f.Whole = whole
level_of_form f.Disjunction = disjunction
level_of_form f.Inversion = inversion
level_of_form f.Signed = signed
level_of_form f.Postfix = postfix

-- The tokens begin with the form, and `rest` remains.
abbrev pub Leads : {B : Type 0} → (B → Tokens → Type 0) → B → Tokens → Tokens → Type 0
Leads NestedForm b ts rest = (x : Tokens) × (ts ≡ x ++ rest) × NestedForm b x

-- The tokens begin with the result, which has at most `limit` levels, and with no other form before
-- a position where `Ends` holds. `Syntax`: they begin with no form before such a position.
-- `TooDeep`: each form before such a position has more than `limit` levels.
abbrev pub Reads : {A B : Type 0} → (A → B) → (B → Tokens → Type 0) → (Tokens → Type 0) → (B → ℕ)
    → ℕ → Tokens → Result A ExprError → Tokens → Type 0
Reads {B = B} view NestedForm Ends levels limit ts (Ok a) rest =
    Leads NestedForm (view a) ts rest
    × (levels (view a) ≤ limit)
    × ((b : B) (v : Tokens) → Leads NestedForm b ts v → Ends v → (b ≡ view a) × (v ≡ rest))
Reads {B = B} view NestedForm Ends levels limit ts (Err e.Syntax) rest =
    (b : B) (v : Tokens) → Leads NestedForm b ts v → Ends v → ⊥
Reads {B = B} view NestedForm Ends levels limit ts (Err e.TooDeep) rest =
    (b : B) (v : Tokens) → Leads NestedForm b ts v → Ends v → limit < levels b
Reads view NestedForm Ends levels limit ts (Err e.NoMemory) rest = Unit {0}

-- An expression of the level ends before the tokens. They are missing or begin with a comma, or
-- they begin with `if` and the expression is no inline `if`.
pub data EndsAt : Level → Tokens → Type 0 where
  the_end : {k : Level} → EndsAt k []
  a_comma : {k : Level} {ts : Tokens} → EndsAt k (cut.sign s.Comma ∷ ts)
  an_if : {ts : Tokens} → EndsAt disjunction (word (codes "if") ∷ ts)

-- The tokens do not begin with `(`.
abbrev pub OpensNone : Tokens → Type 0
OpensNone ts = (v : Tokens) → ts ≡ cut.sign s.LeftParen ∷ v → ⊥

-- The greatest number of levels of the parts.
abbrev pub parts_levels : LeveledList → ℕ
parts_levels p = max (exprs_levels p.0) (pairs_levels p.1)

-- A tree is at most as heavy as the tokens that spell it, and its names and texts are at most as
-- long.
pub record ExpressionLaws : Type 0 where
  pub weighs : (k : Level) (t : Expr) (x : Tokens) → Spells k t x → weight t ≤ tokens_weight x
  pub short : (k : Level) (t : Expr) (x : Tokens) → Spells k t x → expr_bytes t ≤ tokens_bytes x
