-- The tokens that may stand at a place, and the places to which they lead. Only private clauses cite
-- this module.
use Rattle.std.specs.Prelude.{Bool, true, false, Option, Some, None, if◌then◌else◌}
use Rattle.jt_scan.specs.declared.segment.Sign.{Sign}
use Rattle.jt_scan.specs.declared.segment.Sign.TheVariants as s
use Rattle.jt_syntax.specs.declared.kinds.Kind.{Kind}
use Rattle.jt_syntax.specs.declared.kinds.Kind.TheVariants as k
use Rattle.jt_syntax.specs.declared.frames.Row.{Row}
use Rattle.jt_syntax.specs.declared.frames.Row.TheVariants as row
use Rattle.jt_syntax.specs.declared.frames.Follow.{Follow}
use Rattle.jt_syntax.specs.declared.frames.Follow.TheVariants as follow
use Rattle.jt_syntax.specs.declared.frames.Bracket.{Bracket}
use Rattle.jt_syntax.specs.declared.frames.Bracket.TheVariants as b
use Rattle.jt_syntax.specs.declared.frames.Clause.{Clause}
use Rattle.jt_syntax.specs.declared.frames.Clause.TheVariants as clause
use Rattle.jt_syntax.specs.declared.frames.Comparison.{Comparison}
use Rattle.jt_syntax.specs.declared.frames.Comparison.TheVariants as comparison
use Rattle.jt_syntax.specs.declared.frames.Frame.{Frame}
use Rattle.jt_syntax.specs.declared.frames.Prefixes.{Prefixes}
use Rattle.jt_syntax.specs.declared.frames.Prefixes.TheVariants as prefixes
use Rattle.jt_syntax.specs.declared.frames.Ending.{Ending}
use Rattle.jt_syntax.specs.declared.frames.Ending.TheVariants as ending
use Rattle.jt_syntax.specs.declared.frames.Place.{Place}
use Rattle.jt_syntax.specs.declared.frames.Place.TheVariants as p
use Rattle.jt_syntax.specs.declared.frames.Move.{Move}
use Rattle.jt_syntax.specs.declared.frames.Move.TheVariants as m
use Rattle.jt_syntax.specs.internal.Kinds.{is_word}

abbrev pub frame : Bracket → Clause → Comparison → Frame
frame b c o = record { bracket = b; clause = c; comparison = o }

abbrev pub fresh : Bracket → Frame
fresh b = frame b clause.Value comparison.Open

abbrev pub with_comparison : Frame → Comparison → Frame
with_comparison f o = frame f.bracket f.clause o

-- ---- operands

abbrev pub operand_sign : Frame → Sign → Option Move
operand_sign f s.Minus = Some (m.To (p.Operand prefixes.Signs) f)
operand_sign f s.Plus = Some (m.To (p.Operand prefixes.Signs) f)
operand_sign f s.LeftParen = Some (m.Opens (p.Operand prefixes.All) (fresh b.Group))
operand_sign f s.LeftBracket = Some (m.Opens p.Part (fresh (b.Sequence row.Items follow.Postfix)))
operand_sign f s.LeftBrace = Some (m.Opens p.Part (fresh (b.Sequence row.Entries follow.Postfix)))
operand_sign f _ = None

abbrev pub inverted : Prefixes → Frame → Option Move
inverted prefixes.All f = Some (m.To (p.Operand prefixes.All) f)
inverted prefixes.Signs f = None

abbrev pub operand : Prefixes → Frame → Kind → Option Move
operand q f k.Name = Some (m.To (p.Behind ending.Postfix) f)
operand q f k.Constant = Some (m.To (p.Behind ending.Postfix) f)
operand q f k.Number = Some (m.To (p.Behind ending.Postfix) f)
operand q f k.Text = Some (m.To (p.Behind ending.Postfix) f)
operand q f k.Not = inverted q f
operand q f (k.Sign j) = operand_sign f j
operand q f _ = None

-- ---- sequences in brackets

abbrev pub part : Row → Frame → Kind → Option Move
part row.Items f (k.Sign s.RightBracket) = Some m.Closes
part row.Items f t = operand prefixes.All f t
part row.Entries f (k.Sign s.RightBrace) = Some m.Closes
part row.Entries f k.Text = Some (m.To p.Colon f)
part row.Entries f _ = None
part row.Arguments f (k.Sign s.RightParen) = Some m.Closes
part row.Arguments f k.Name = Some (m.To (p.Behind ending.Keyword) f)
part row.Arguments f t = operand prefixes.All f t
part row.Keywords f (k.Sign s.RightParen) = Some m.Closes
part row.Keywords f k.Name = Some (m.To p.Assign f)
part row.Keywords f _ = None

abbrev pub part_in : Bracket → Frame → Kind → Option Move
part_in (b.Sequence r t) f = part r f
part_in _ f = λ _. None

-- After `=` there are only keyword arguments.
abbrev pub assigned : Bracket → Option Move
assigned (b.Sequence r t) = Some (m.To (p.Operand prefixes.All) (fresh (b.Sequence row.Keywords t)))
assigned _ = None

abbrev pub separated : Bracket → Option Move
separated (b.Sequence r t) = Some (m.To p.Part (fresh (b.Sequence r t)))
separated _ = None

abbrev pub row_closes : Row → Sign → Bool
row_closes row.Items s.RightBracket = true
row_closes row.Entries s.RightBrace = true
row_closes row.Arguments s.RightParen = true
row_closes row.Keywords s.RightParen = true
row_closes _ _ = false

-- The sign closes the bracket.
abbrev pub closes : Bracket → Sign → Bool
closes b.Group s.RightParen = true
closes b.Item s.RightBracket = true
closes (b.Sequence r t) j = row_closes r j
closes _ _ = false

-- ---- behind an operand

-- An expression without `and`, `or` and `not` has at most one comparison.
abbrev pub compared : Comparison → Frame → Option Move
compared comparison.Open f =
    Some (m.To (p.Operand prefixes.Signs) (with_comparison f comparison.Taken))
compared comparison.Taken f = None

abbrev pub negated : Comparison → Frame → Option Move
negated comparison.Open f = Some (m.To p.In f)
negated comparison.Taken f = None

abbrev pub closing : Frame → Sign → Option Move
closing f j = if closes f.bracket j then Some m.Closes else None

abbrev pub onward_sign : Frame → Sign → Option Move
onward_sign f s.Pipe = Some (m.To p.Filter f)
onward_sign f s.Power = Some (m.To (p.Operand prefixes.Signs) f)
onward_sign f s.Times = Some (m.To (p.Operand prefixes.Signs) f)
onward_sign f s.FloorDivide = Some (m.To (p.Operand prefixes.Signs) f)
onward_sign f s.Percent = Some (m.To (p.Operand prefixes.Signs) f)
onward_sign f s.Tilde = Some (m.To (p.Operand prefixes.Signs) f)
onward_sign f s.Plus = Some (m.To (p.Operand prefixes.Signs) f)
onward_sign f s.Minus = Some (m.To (p.Operand prefixes.Signs) f)
onward_sign f s.Equal = compared f.comparison f
onward_sign f s.NotEqual = compared f.comparison f
onward_sign f s.Less = compared f.comparison f
onward_sign f s.LessEqual = compared f.comparison f
onward_sign f s.Greater = compared f.comparison f
onward_sign f s.GreaterEqual = compared f.comparison f
onward_sign f s.Comma = separated f.bracket
onward_sign f s.RightParen = closing f s.RightParen
onward_sign f s.RightBracket = closing f s.RightBracket
onward_sign f s.RightBrace = closing f s.RightBrace
onward_sign f _ = None

abbrev pub chosen : Clause → Frame → Kind → Option Move
chosen clause.Value f k.If =
    Some (m.To (p.Operand prefixes.All) (frame f.bracket clause.Condition comparison.Open))
chosen clause.Condition f k.Else = Some (m.To (p.Operand prefixes.All) (fresh f.bracket))
chosen _ f _ = None

abbrev pub onward : Frame → Kind → Option Move
onward f k.Is = Some (m.To p.Test f)
onward f k.And = Some (m.To (p.Operand prefixes.All) (with_comparison f comparison.Open))
onward f k.Or = Some (m.To (p.Operand prefixes.All) (with_comparison f comparison.Open))
onward f k.Not = negated f.comparison f
onward f k.In = compared f.comparison f
onward f k.If = chosen f.clause f k.If
onward f k.Else = chosen f.clause f k.Else
onward f (k.Sign j) = onward_sign f j
onward f _ = None

abbrev pub opened : Follow → Move
opened t = m.Opens p.Part (fresh (b.Sequence row.Arguments t))

abbrev pub postfix : Frame → Kind → Option Move
postfix f (k.Sign s.Dot) = Some (m.To p.Attribute f)
postfix f (k.Sign s.LeftBracket) = Some (m.Opens (p.Operand prefixes.All) (fresh b.Item))
postfix f (k.Sign s.LeftParen) = Some (opened follow.Postfix)
postfix f t = onward f t

abbrev pub test_name : Frame → Kind → Option Move
test_name f (k.Sign s.LeftParen) = Some (opened follow.Postscript)
test_name f (k.Sign s.LeftBracket) = operand prefixes.Signs f (k.Sign s.LeftBracket)
test_name f (k.Sign s.LeftBrace) = operand prefixes.Signs f (k.Sign s.LeftBrace)
test_name f k.Name = operand prefixes.Signs f k.Name
test_name f k.Constant = operand prefixes.Signs f k.Constant
test_name f k.Number = operand prefixes.Signs f k.Number
test_name f k.Text = operand prefixes.Signs f k.Text
test_name f t = onward f t

abbrev pub behind : Ending → Frame → Kind → Option Move
behind ending.Keyword f (k.Sign s.Assign) = assigned f.bracket
behind ending.Keyword f t = postfix f t
behind ending.Postfix f t = postfix f t
behind ending.FilterName f (k.Sign s.LeftParen) = Some (opened follow.Postscript)
behind ending.FilterName f t = onward f t
behind ending.TestName f t = test_name f t
behind ending.Postscript f t = onward f t

-- ---- all places

abbrev pub named : Ending → Frame → Kind → Option Move
named e f t = if is_word t then Some (m.To (p.Behind e) f) else None

abbrev pub next : Place → Frame → Kind → Option Move
next (p.Operand q) f t = operand q f t
next p.Part f t = part_in f.bracket f t
next p.Colon f (k.Sign s.Colon) = Some (m.To (p.Operand prefixes.All) f)
next p.Colon f _ = None
next p.Assign f (k.Sign s.Assign) = assigned f.bracket
next p.Assign f _ = None
next p.Attribute f t = named ending.Postfix f t
next p.Filter f k.Name = Some (m.To (p.Behind ending.FilterName) f)
next p.Filter f _ = None
next p.Test f k.Not = Some (m.To p.NegatedTest f)
next p.Test f t = named ending.TestName f t
next p.NegatedTest f t = named ending.TestName f t
next p.In f k.In = Some (m.To (p.Operand prefixes.Signs) (with_comparison f comparison.Taken))
next p.In f _ = None
next (p.Behind e) f t = behind e f t

abbrev pub follows : Follow → Place
follows follow.Postscript = p.Behind ending.Postscript
follows follow.Postfix = p.Behind ending.Postfix

-- The place behind the closing sign.
abbrev pub closed : Bracket → Place
closed (b.Sequence r t) = follows t
closed _ = p.Behind ending.Postfix
