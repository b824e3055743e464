-- Tests of the first token.
use Rattle.std.specs.Prelude.{ℕ, Bool, false, ◌==◌, [], ◌∷◌, drop, bytes_eq, if◌then◌else◌}
use Rattle.jt_scan.specs.declared.segment.Sign.{Sign}
use Rattle.jt_scan.specs.declared.segment.Sign.TheVariants as s
use Rattle.jt_scan.specs.Cut as cut
use Rattle.jt_ast.specs.Expressions.{Text}
use Rattle.jt_expr.specs.Grammar.{Tokens}

-- The discriminant of a sign.
abbrev pub code : Sign → ℕ
code s.Plus = 0
code s.Minus = 1
code s.Times = 2
code s.Percent = 3
code s.Tilde = 4
code s.Less = 5
code s.Greater = 6
code s.Assign = 7
code s.Dot = 8
code s.Comma = 9
code s.Colon = 10
code s.Pipe = 11
code s.LeftParen = 12
code s.RightParen = 13
code s.LeftBracket = 14
code s.RightBracket = 15
code s.LeftBrace = 16
code s.RightBrace = 17
code s.Power = 18
code s.FloorDivide = 19
code s.Equal = 20
code s.NotEqual = 21
code s.LessEqual = 22
code s.GreaterEqual = 23

-- The first token is the sign.
abbrev pub sees : Sign → Tokens → Bool
sees k [] = false
sees k (cut.name x ∷ ts) = false
sees k (cut.number n ∷ ts) = false
sees k (cut.text v ∷ ts) = false
sees k (cut.sign j ∷ ts) = code j == code k

-- The first token is the word.
abbrev pub says : Text → Tokens → Bool
says w [] = false
says w (cut.name x ∷ ts) = bytes_eq x w
says w (cut.number n ∷ ts) = false
says w (cut.text v ∷ ts) = false
says w (cut.sign k ∷ ts) = false

-- The tokens without the first one, if it is taken.
abbrev pub past : Bool → Tokens → Tokens
past b ts = if b then drop 1 ts else ts
