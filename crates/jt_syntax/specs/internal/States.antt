-- The open brackets behind tokens, and the steps from token to token. Only private clauses cite this
-- module.
use Rattle.std.specs.Prelude.{◌≡◌, Bool, true, false, List, [], ◌∷◌, reverse, Option, Some, None, if◌then◌else◌}
use Rattle.std.specs.Option.{is_some}
use Rattle.jt_scan.specs.declared.segment.Sign.{Sign}
use Rattle.jt_scan.specs.declared.segment.Sign.TheVariants as s
use Rattle.jt_expr.specs.Grammar.{Tokens}
use Rattle.jt_syntax.specs.declared.kinds.Kind.{Kind}
use Rattle.jt_syntax.specs.declared.kinds.Kind.TheVariants as k
use Rattle.jt_syntax.specs.declared.wanted.Wanted.{Wanted}
use Rattle.jt_syntax.specs.declared.frames.Bracket.{Bracket}
use Rattle.jt_syntax.specs.declared.frames.Bracket.TheVariants as b
use Rattle.jt_syntax.specs.declared.frames.Frame.{Frame}
use Rattle.jt_syntax.specs.declared.frames.Prefixes.TheVariants as prefixes
use Rattle.jt_syntax.specs.declared.frames.Place.{Place}
use Rattle.jt_syntax.specs.declared.frames.Place.TheVariants as p
use Rattle.jt_syntax.specs.declared.frames.Move.{Move}
use Rattle.jt_syntax.specs.declared.frames.Move.TheVariants as m
use Rattle.jt_syntax.specs.declared.prefix.Prefix.{Prefix}
use Rattle.jt_syntax.specs.declared.prefix.Standing.{Standing}
use Rattle.jt_syntax.specs.declared.prefix.Standing.TheVariants as standing
use Rattle.jt_syntax.specs.internal.Kinds.{kind_of}
use Rattle.jt_syntax.specs.internal.Moves.{next, closed, fresh}

-- A place in the innermost open bracket, and the brackets around it. The innermost one is first.
pub data State : Type 0 where
  at : Place → Frame → List Frame → State

abbrev pub start : State
start = at (p.Operand prefixes.All) (fresh b.Outermost) []

abbrev pub shut : Bracket → List Frame → Option State
shut c [] = None
shut c (f ∷ fs) = Some (at (closed c) f fs)

abbrev pub made : Move → State → Option State
made (m.To q f) (at p0 f0 fs) = Some (at q f fs)
made (m.Opens q f) (at p0 f0 fs) = Some (at q f (f0 ∷ fs))
made m.Closes (at p0 f0 fs) = shut f0.bracket fs

abbrev pub made_by : Option Move → State → Option State
made_by None x = None
made_by (Some y) x = made y x

-- The state behind a token, if the token may stand there.
abbrev pub step : State → Kind → Option State
step (at q f fs) t = made_by (next q f t) (at q f fs)

abbrev pub step_by : Option State → Kind → Option State
step_by None t = None
step_by (Some x) t = step x t

-- The state behind tokens, if there is one before them.
abbrev pub walk : Tokens → Option State → Option State
walk [] x = x
walk (t ∷ ts) x = walk ts (step_by x (kind_of t))

abbrev pub completes : Place → Bracket → Bool
completes (p.Behind e) b.Outermost = true
completes _ _ = false

-- The tokens up to the state are an expression.
abbrev pub is_complete : State → Bool
is_complete (at q f fs) = completes q f.bracket

abbrev pub view : Prefix → State
view x = at x.place x.frame (reverse x.outer.items)

-- The token led to the state, or it may not stand there.
abbrev pub Makes : Option State → State → Standing → Type 0
Makes found new standing.Fits = found ≡ Some new
Makes found new standing.Stuck = found ≡ None

-- The closing sign that may stand at the state, if one may.
abbrev pub closer_at : State → Option Sign
closer_at x =
    if is_some (step x (k.Sign s.RightParen)) then Some s.RightParen
    else if is_some (step x (k.Sign s.RightBracket)) then Some s.RightBracket
    else if is_some (step x (k.Sign s.RightBrace)) then Some s.RightBrace
    else None

abbrev pub wanted : State → Wanted
wanted x = record {
  operand = is_some (step x k.Number);
  operator = is_some (step x (k.Sign s.Tilde));
  comma = is_some (step x (k.Sign s.Comma));
  closer = closer_at x;
}
