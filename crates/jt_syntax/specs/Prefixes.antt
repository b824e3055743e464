-- The tokens that begin an expression, and the first token at which none goes on.
use Rattle.std.specs.Prelude.{ℕ, ℤ, suc, ◌≤◌, ◌<◌, Bool, true, false, [], ◌∷◌, ◌++◌, length, take, Option, Some, None}
use Rattle.jt_scan.specs.declared.segment.Sign.{Sign}
use Rattle.jt_scan.specs.declared.segment.Sign.TheVariants as s
use Rattle.jt_scan.specs.Cut as cut
use Rattle.jt_scan.specs.Cut.{Token}
use Rattle.jt_ast.specs.Expressions.{Expr}
use Rattle.jt_expr.specs.Grammar.{Tokens, Spells, whole}
use Rattle.jt_syntax.specs.declared.wanted.Wanted.{Wanted}

-- The tokens spell an expression.
abbrev pub Spelled : Tokens → Type 0
Spelled tokens = (tree : Expr) × Spells whole tree tokens

-- The tokens begin an expression: with some tokens behind them they spell one.
abbrev pub Begins : Tokens → Type 0
Begins tokens = (rest : Tokens) × Spelled (tokens ++ rest)

-- The tokens spell no expression. Those before the position begin one, and with the token at the
-- position, if there is one, they begin none.
pub record Stuck (tokens : Tokens) (position : ℕ) : Type 0 where
  pub spells_none : Spelled tokens → ⊥
  pub within : position ≤ length tokens
  pub begins : Begins (take position tokens)
  pub ends : position < length tokens → Begins (take (suc position) tokens) → ⊥

-- The report of the first position at which no expression goes on, or that the tokens spell one.
abbrev pub Reports : Tokens → Option ℕ → Type 0
Reports tokens None = Spelled tokens
Reports tokens (Some position) = Stuck tokens position

-- The tokens with one more token behind them begin an expression, or they begin none.
abbrev pub Allows : Tokens → Token → Bool → Type 0
Allows tokens t true = Begins (tokens ++ (t ∷ []))
Allows tokens t false = Begins (tokens ++ (t ∷ [])) → ⊥

-- The closing sign that may stand behind the tokens, or no closing sign may.
abbrev pub AllowsCloser : Tokens → Option Sign → Type 0
AllowsCloser tokens (Some j) = Begins (tokens ++ (cut.sign j ∷ []))
AllowsCloser tokens None =
    Allows tokens (cut.sign s.RightParen) false
    × Allows tokens (cut.sign s.RightBracket) false
    × Allows tokens (cut.sign s.RightBrace) false

-- What may stand behind the tokens.
pub record Wants (tokens : Tokens) (w : Wanted) : Type 0 where
  pub begins : Begins tokens
  pub operand : (n : ℤ) → Allows tokens (cut.number n) w.operand
  pub operator : Allows tokens (cut.sign s.Tilde) w.operator
  pub comma : Allows tokens (cut.sign s.Comma) w.comma
  pub closer : AllowsCloser tokens w.closer

-- The report of what may stand behind the tokens, or that they begin no expression.
abbrev pub ReportsWanted : Tokens → Option Wanted → Type 0
ReportsWanted tokens None = Begins tokens → ⊥
ReportsWanted tokens (Some w) = Wants tokens w
