-- The precedence levels, the forms that wait for a tree, and the moves of a reader. Only private
-- clauses cite this module.
use Rattle.std.specs.Prelude.{◌≡◌, ◌<◌, ◌≤◌, ℕ, suc, ◌+◌, Bool, List, [], ◌∷◌, Option, option_map, string_bytes, Result}
use Rattle.std.specs.Prelude.{Ok, Err, encode_utf8_all, codes, bytes_eq, if◌then◌else◌}
use Rattle.std.specs.Str.{chars}
use Rattle.jt_scan.specs.declared.segment.Sign.{Sign}
use Rattle.jt_scan.specs.declared.segment.Sign.TheVariants as s
use Rattle.jt_scan.specs.Cut as cut
use Rattle.jt_ast.specs.declared.expression.UnaryOperator.{UnaryOperator}
use Rattle.jt_ast.specs.declared.expression.UnaryOperator.TheVariants as u
use Rattle.jt_ast.specs.declared.expression.BinaryOperator.{BinaryOperator}
use Rattle.jt_ast.specs.ExpressionView.{is_negated}
use Rattle.jt_ast.specs.Expressions.{Text, Expr, list_of, map_of, call, filter, test, levels}
use Rattle.jt_expr.specs.declared.error.ExprError.{ExprError}
use Rattle.jt_expr.specs.declared.error.ExprError.TheVariants as e
use Rattle.jt_expr.specs.declared.pending.Level.{Level as CodeLevel}
use Rattle.jt_expr.specs.declared.pending.Level.TheVariants as v
use Rattle.jt_expr.specs.declared.pending.Owner.{Owner as CodeOwner}
use Rattle.jt_expr.specs.declared.pending.Owner.TheVariants as w
use Rattle.jt_expr.specs.declared.pending.Pending.{Pending}
use Rattle.jt_expr.specs.declared.pending.Pending.TheVariants as p
use Rattle.jt_expr.specs.declared.pending.Step.{Step}
use Rattle.jt_expr.specs.declared.pending.Step.TheVariants as st
use Rattle.jt_expr.specs.Grammar.{Tokens, Level, whole, disjunction, conjunction, inversion, comparison, sum}
use Rattle.jt_expr.specs.Grammar.{concatenation, product, power, postscript, signed, postfix, next, SequenceKind}
use Rattle.jt_expr.specs.Grammar.{LeveledList}
use Rattle.jt_expr.specs.internal.Reading.{ParseResult, ◌>>=◌}
use Rattle.jt_expr.specs.internal.Gives.{row_view, Refuses}
use Rattle.jt_expr.specs.Promises.{tree_of, parts_view}

-- ---- levels

-- The number of tighter levels.
abbrev pub rank : Level → ℕ
rank postfix = 0
rank signed = 1
rank postscript = 2
rank power = 3
rank product = 4
rank concatenation = 5
rank sum = 6
rank comparison = 7
rank inversion = 8
rank conjunction = 9
rank disjunction = 10
rank whole = 11

-- The next looser level.
abbrev pub looser : Level → Level
looser postfix = signed
looser signed = postscript
looser postscript = power
looser power = product
looser product = concatenation
looser concatenation = sum
looser sum = comparison
looser comparison = inversion
looser inversion = conjunction
looser conjunction = disjunction
looser disjunction = whole
looser whole = whole

-- The level of the forms that a sign after a tree continues, or `whole` if it continues none.
abbrev pub sign_level : Sign → Level
sign_level s.Dot = postfix
sign_level s.LeftBracket = postfix
sign_level s.LeftParen = postfix
sign_level s.Pipe = postscript
sign_level s.Power = power
sign_level s.Times = product
sign_level s.FloorDivide = product
sign_level s.Percent = product
sign_level s.Tilde = concatenation
sign_level s.Plus = sum
sign_level s.Minus = sum
sign_level s.Equal = comparison
sign_level s.NotEqual = comparison
sign_level s.Less = comparison
sign_level s.LessEqual = comparison
sign_level s.Greater = comparison
sign_level s.GreaterEqual = comparison
sign_level _ = whole

-- The level of the forms that a word after a tree continues, or `whole` if it continues none.
abbrev pub word_level : Text → Level
word_level x =
    if bytes_eq x (codes "is") then postscript
    else if bytes_eq x (codes "in") then comparison
    else if bytes_eq x (codes "not") then comparison
    else if bytes_eq x (codes "and") then conjunction
    else if bytes_eq x (codes "or") then disjunction
    else whole

-- The tightest level whose forms the first token may continue. No token continues a tighter one.
abbrev pub joined : Tokens → Level
joined [] = whole
joined (cut.name x ∷ ts) = word_level x
joined (cut.number n ∷ ts) = whole
joined (cut.text v ∷ ts) = whole
joined (cut.sign k ∷ ts) = sign_level k

-- The level n is looser than k and not looser than the goal. A level between k and n is tighter than
-- the one that the next token continues.
pub record Leads (k continued goal n : Level) : Type 0 where
  pub past : rank k < rank n
  pub within : rank n ≤ rank goal
  pub between : suc (rank k) < rank n → rank n ≤ rank continued

abbrev pub level_view : CodeLevel → Level
level_view v.Postfix = postfix
level_view v.Signed = signed
level_view v.Postscript = postscript
level_view v.Power = power
level_view v.Product = product
level_view v.Concatenation = concatenation
level_view v.Sum = sum
level_view v.Comparison = comparison
level_view v.Inversion = inversion
level_view v.Conjunction = conjunction
level_view v.Disjunction = disjunction
level_view v.Whole = whole

-- ---- forms that wait

-- The form that the parts of a sequence belong to.
pub data Owner : Type 0 where
  a_list : Owner
  a_map : Owner
  a_call : Expr → Owner
  a_filter : Expr → Text → Owner
  a_test : Expr → Bool → Text → Owner

-- A form that waits for a tree.
pub data Form : Type 0 where
  in_group : Form
  -- A sequence of this kind, the greatest number of its further elements, the parts so far, and the
  -- key of the part that is read.
  in_part : Owner → SequenceKind → ℕ → LeveledList → Option Text → Form
  in_item : Expr → Form
  in_prefix : UnaryOperator → Form
  in_argument : Expr → Bool → Text → Form
  -- The value and the condition of an inline `if`.
  in_else : Expr → Expr → Form
  in_operand : Level → BinaryOperator → Expr → Form
  -- The value of an inline `if`.
  in_condition : Expr → Form

-- A move of a reader.
pub data Move : Type 0 where
  -- The next tokens may extend a tree of the level.
  grown : Level → Expr → Move
  -- The next tokens do not extend a tree of the level.
  complete : Level → Expr → Move
  -- A form waits for a tree that is inside the same nested form.
  waits : Form → Move
  -- A form waits for a tree that is one level deeper.
  nests : Form → Move

-- The move after a tree that was read.
abbrev pub grows : Level → ParseResult Expr → ParseResult Move
grows k o = o >>= λ t v. Ok (grown k t, v)

-- The move after an operator has both operands. A comparison is not the operand of a further one.
abbrev pub operated : Level → Expr → Move
operated comparison t = complete comparison t
operated k t = grown k t

-- The tree of the owner with its parts.
abbrev pub owning : Owner → LeveledList → Expr
owning a_list q = list_of q.0
owning a_map q = map_of q.1
owning (a_call t) q = call t q.0 q.1
owning (a_filter t x) q = filter t x q.0 q.1
owning (a_test t b x) q = test t b x q.0 q.1

-- The level of the owner.
abbrev pub owned : Owner → Level
owned (a_filter t x) = postscript
owned (a_test t b x) = postscript
owned _ = postfix

-- The level of a prefix operator and of its operand.
abbrev pub prefix_level : UnaryOperator → Level
prefix_level u.Not = inversion
prefix_level _ = signed

-- The level of the tree that a form waits for.
abbrev pub awaited : Form → Level
awaited (in_prefix op) = prefix_level op
awaited (in_argument t b x) = postfix
awaited (in_operand k op t) = next k
awaited (in_condition t) = disjunction
awaited _ = whole

-- The level of the form.
abbrev pub reached : Form → Level
reached (in_part o r turns found k) = owned o
reached (in_prefix op) = prefix_level op
reached (in_argument t b x) = postscript
reached (in_else t c) = whole
reached (in_operand k op t) = k
reached (in_condition t) = whole
reached _ = postfix

-- The number of levels that the awaited tree is deeper than the form's own parts: 0 or 1.
abbrev pub deeper : Form → ℕ
deeper (in_operand k op t) = 0
deeper (in_condition t) = 0
deeper _ = 1

-- The number of levels that the innermost awaited tree is deeper than the outermost form.
abbrev pub depth : List Form → ℕ
depth [] = 0
depth (f ∷ fs) = deeper f + depth fs

abbrev pub level_of : Move → Level
level_of (grown k t) = k
level_of (complete k t) = k
level_of (waits f) = reached f
level_of (nests f) = reached f

-- The form of a move waits as the move states.
abbrev pub Proper : Move → Type 0
Proper (grown k t) = Unit {0}
Proper (complete k t) = Unit {0}
Proper (waits f) = deeper f ≡ 0
Proper (nests f) = deeper f ≡ 1

-- The level of the tree that is read, given that of the outermost form.
abbrev pub goal_of : Level → List Form → Level
goal_of entry [] = entry
goal_of entry (f ∷ fs) = awaited f

-- ---- the views of the code's types

abbrev pub owner_view : CodeOwner → Owner
owner_view w.List = a_list
owner_view w.Map = a_map
owner_view (w.Call t) = a_call (tree_of t)
owner_view (w.Filter t x) = a_filter (tree_of t) (encode_utf8_all (chars x.now))
owner_view (w.Test t b x) = a_test (tree_of t) (is_negated b) (encode_utf8_all (chars x.now))

abbrev pub form_view : Pending → Form
form_view p.Group = in_group
form_view (p.Part q k) =
    in_part (owner_view q.owner) (row_view q.kind) q.turns (parts_view q.found) (option_map string_bytes k)
form_view (p.Item t) = in_item (tree_of t)
form_view (p.Prefix op) = in_prefix op
form_view (p.Argument t b x) = in_argument (tree_of t) (is_negated b) (encode_utf8_all (chars x.now))
form_view (p.Else t c) = in_else (tree_of t) (tree_of c)
form_view (p.Operand k op t) = in_operand (level_view k) op (tree_of t)
form_view (p.Condition t) = in_condition (tree_of t)

-- The forms of a stack, from the last one on, before the given ones.
abbrev pub stacked : List Pending → List Form → List Form
stacked [] fs = fs
stacked (f ∷ gs) fs = stacked gs (form_view f ∷ fs)

-- The forms of a stack. The innermost one, which is the last of the stack, is first.
abbrev pub forms_of : List Pending → List Form
forms_of gs = stacked gs []

abbrev pub move_view : Step → Move
move_view (st.Grown k t) = grown (level_view k) (tree_of t)
move_view (st.Complete k t) = complete (level_view k) (tree_of t)
move_view (st.Wait f) = waits (form_view f)
move_view (st.Nest f) = nests (form_view f)

-- The result is the move and the rest, or the refusal.
abbrev pub GivesMove : ParseResult Move → Result Step ExprError → Tokens → Type 0
GivesMove o (Ok s) new = o ≡ Ok (move_view s, new)
GivesMove o (Err x) new = Refuses o x

-- The result is the move if its tree has at most `below + 1` levels.
abbrev pub FitsMove : ℕ → Move → Expr → Result Step ExprError → Type 0
FitsMove below m t (Ok s) = (move_view s ≡ m) × (levels t ≤ suc below)
FitsMove below m t (Err e.Syntax) = ⊥
FitsMove below m t (Err e.TooDeep) = suc below < levels t
FitsMove below m t (Err e.NoMemory) = Unit {0}
