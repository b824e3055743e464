-- The tokens of a cursor, and the tokens that its operations take.
use Rattle.std.specs.Prelude.{◌≡◌, ℕ, Bool, false, List, [], ◌∷◌, map, Option, Some, None, Result, Ok, Err}
use Rattle.std.specs.Str.{chars}
use denote.Ref.{Bor}
use Rattle.jt_scan.specs.declared.segment.Sign.{Sign}
use Rattle.jt_scan.specs.declared.segment.Token.{Token}
use Rattle.jt_scan.specs.View.{token_view}
use Rattle.jt_scan.specs.Cut as cut
use Rattle.jt_expr.specs.declared.cursor.Cursor.{Cursor}
use Rattle.jt_expr.specs.declared.error.ExprError.{ExprError}
use Rattle.jt_expr.specs.declared.error.ExprError.TheVariants as e
use Rattle.jt_expr.specs.Front.{past}
use Rattle.jt_expr.specs.Grammar.{Tokens, is_reserved}

-- The tokens that have not been read yet.
abbrev pub ahead : Cursor → Tokens
ahead c = map token_view c.rest.now

-- The first token is taken if the test holds.
abbrev pub Passes : (Tokens → Bool) → Cursor → Cursor → Type 0
Passes test old new = ahead new ≡ past (test (ahead old)) (ahead old)

abbrev pub Takes : Tokens → Option Token → Tokens → Type 0
Takes ts None new = (ts ≡ []) × (new ≡ [])
Takes ts (Some t) new = ts ≡ token_view t ∷ new

-- The sign is taken, or the tokens do not begin with it.
abbrev pub TakesSign : Sign → Tokens → Result (Unit {0}) ExprError → Tokens → Type 0
TakesSign k ts (Ok x) new = ts ≡ cut.sign k ∷ new
TakesSign k ts (Err e.Syntax) new = (v : Tokens) → ts ≡ cut.sign k ∷ v → ⊥
TakesSign k ts (Err e.TooDeep) new = ⊥
TakesSign k ts (Err e.NoMemory) new = ⊥

-- A name is taken, or the tokens do not begin with one.
abbrev pub TakesAName : Tokens → Result (Bor (List ℕ)) ExprError → Tokens → Type 0
TakesAName ts (Ok s) new = (ts ≡ cut.name (chars s.now) ∷ new) × (is_reserved (chars s.now) ≡ false)
TakesAName ts (Err e.Syntax) new =
    (x : List ℕ) (v : Tokens) → ts ≡ cut.name x ∷ v → is_reserved x ≡ false → ⊥
TakesAName ts (Err e.TooDeep) new = ⊥
TakesAName ts (Err e.NoMemory) new = ⊥
