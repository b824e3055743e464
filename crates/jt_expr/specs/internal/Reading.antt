-- A reader of expressions from lists of tokens, with a limit on levels. Only private clauses cite
-- this module.
use Rattle.std.specs.Prelude.{ℕ, zero, suc, Bool, [], ◌∷◌, length, drop, codes, encode_utf8_all, Option, Some, None}
use Rattle.std.specs.Prelude.{Result, Ok, Err, if◌then◌else◌, nat_le}
use Rattle.jt_scan.specs.declared.segment.Sign.{Sign}
use Rattle.jt_scan.specs.declared.segment.Sign.TheVariants as s
use Rattle.jt_scan.specs.Cut as cut
use Rattle.jt_scan.specs.Cut.{Token}
use Rattle.jt_ast.specs.declared.expression.UnaryOperator.TheVariants as u
use Rattle.jt_ast.specs.declared.expression.BinaryOperator.{BinaryOperator}
use Rattle.jt_ast.specs.declared.expression.BinaryOperator.TheVariants as o
use Rattle.jt_ast.specs.Expressions.{Text, Literal, number, text, Expr, constant, name, group, list_of, map_of}
use Rattle.jt_ast.specs.Expressions.{attribute, item, call, filter, test, unary, binary, when, choice, no_exprs, expr}
use Rattle.jt_ast.specs.Expressions.{no_pairs, levels}
use Rattle.jt_expr.specs.Front.{sees, says, past}
use Rattle.jt_expr.specs.Grammar.{Tokens, is_reserved, literal_of, Level, whole, disjunction, conjunction, inversion}
use Rattle.jt_expr.specs.Grammar.{comparison, sum, concatenation, product, power, postscript, signed, postfix}
use Rattle.jt_expr.specs.Grammar.{begins_argument, SequenceKind, items, entries, arguments, keywords, closer}
use Rattle.jt_expr.specs.Grammar.{takes_plain, behind_key, LeveledList, no_parts, put}

pub data Fault : Type 0 where
  -- The tokens spell no tree.
  syntax : Fault
  -- Each tree that the tokens spell has too many levels.
  deep : Fault

abbrev pub ParseResult : Type 0 → Type 0
ParseResult A = Result (A × Tokens) Fault

abbrev pub Reader : Type 0 → Type 0
Reader A = Tokens → ParseResult A

infixl 10 ◌>>=◌
abbrev pub ◌>>=◌ : {A B : Type 0} → ParseResult A → (A → Reader B) → ParseResult B
(Ok p) >>= f = f p.0 p.1
(Err e) >>= f = Err e

-- A value of l levels, or a refusal if l is greater than n.
abbrev pub cap : {A : Type 0} → ℕ → ℕ → A → Reader A
cap l n a ts = if nat_le l n then Ok (a, ts) else Err deep

-- ---- the first tokens

unfoldable pub expect : Sign → Reader (Unit {0})
expect k ts = if sees k ts then Ok (tt, drop 1 ts) else Err syntax

-- Any word.
unfoldable pub word_at : Reader Text
word_at [] = Err syntax
word_at (cut.name x ∷ ts) = Ok (x, ts)
word_at (cut.number n ∷ ts) = Err syntax
word_at (cut.text v ∷ ts) = Err syntax
word_at (cut.sign k ∷ ts) = Err syntax

abbrev pub unreserved : Text → Reader Text
unreserved x ts = if is_reserved x then Err syntax else Ok (x, ts)

-- A name.
unfoldable pub name_at : Reader Text
name_at ts = word_at ts >>= unreserved

-- The operator at the start of the tokens, and the rest.
abbrev pub not_in : Tokens → Option (BinaryOperator × Tokens)
not_in ts =
    if says (codes "not") ts
    then (if says (codes "in") (drop 1 ts) then Some (o.NotIn, drop 1 (drop 1 ts)) else None)
    else None

unfoldable pub operator : Level → Tokens → Option (BinaryOperator × Tokens)
operator disjunction ts = if says (codes "or") ts then Some (o.Or, drop 1 ts) else None
operator conjunction ts = if says (codes "and") ts then Some (o.And, drop 1 ts) else None
operator comparison ts =
    if sees s.Equal ts then Some (o.Equal, drop 1 ts)
    else if sees s.NotEqual ts then Some (o.NotEqual, drop 1 ts)
    else if sees s.Less ts then Some (o.Less, drop 1 ts)
    else if sees s.LessEqual ts then Some (o.LessOrEqual, drop 1 ts)
    else if sees s.Greater ts then Some (o.Greater, drop 1 ts)
    else if sees s.GreaterEqual ts then Some (o.GreaterOrEqual, drop 1 ts)
    else if says (codes "in") ts then Some (o.In, drop 1 ts)
    else not_in ts
operator sum ts =
    if sees s.Plus ts then Some (o.Add, drop 1 ts)
    else if sees s.Minus ts then Some (o.Subtract, drop 1 ts)
    else None
operator concatenation ts = if sees s.Tilde ts then Some (o.Concatenate, drop 1 ts) else None
operator product ts =
    if sees s.Times ts then Some (o.Multiply, drop 1 ts)
    else if sees s.FloorDivide ts then Some (o.FloorDivide, drop 1 ts)
    else if sees s.Percent ts then Some (o.Remainder, drop 1 ts)
    else None
operator power ts = if sees s.Power ts then Some (o.Power, drop 1 ts) else None
operator _ ts = None

-- A text literal and a colon.
unfoldable pub entry_key : Tokens → Option (Text × Tokens)
entry_key (cut.text v ∷ ts) = if sees s.Colon ts then Some (encode_utf8_all v, drop 1 ts) else None
entry_key _ = None

-- A name and `=`.
unfoldable pub keyword : Tokens → Option (Text × Tokens)
keyword (cut.name x ∷ ts) =
    if is_reserved x
    then None
    else (if sees s.Assign ts then Some (encode_utf8_all x, drop 1 ts) else None)
keyword _ = None

-- The key of a part, and the rest.
abbrev pub key_at : SequenceKind → Tokens → Option (Text × Tokens)
key_at items ts = None
key_at entries ts = entry_key ts
key_at arguments ts = keyword ts
key_at keywords ts = keyword ts

-- The tree after steps from `left`, until a step extends it no further. `loop` bounds the number of
-- steps; each step adds a level.
abbrev pub again : (Expr → Reader Expr) → Expr → Option Expr → Reader Expr
again on left None ts = Ok (left, ts)
again on left (Some new) ts = on new ts

unfoldable pub loop : (Expr → Reader (Option Expr)) → ℕ → Expr → Reader Expr
loop step zero left ts = Err deep
loop step (suc turns) left ts = step left ts >>= again (loop step turns) left

-- `inner` reads forms that are one level deeper, and n levels are allowed here.
module _ (inner : Level → Reader Expr) (n : ℕ) where
  -- ---- sequences in brackets

  abbrev pub part_by : SequenceKind → Tokens → Option (Text × Tokens) → ParseResult (Option Text × Expr)
  part_by r ts (Some (k, u)) = inner whole u >>= λ t v. Ok ((Some k, t), v)
  part_by r ts None =
      if takes_plain r then (inner whole ts >>= λ t v. Ok ((None, t), v)) else Err syntax

  unfoldable pub part : SequenceKind → Reader (Option Text × Expr)
  part r ts = part_by r ts (key_at r ts)

  -- A sequence up to its closing sign. The number bounds the steps; each step takes a token.
  unfoldable pub row : ℕ → SequenceKind → Reader LeveledList
  row zero r ts = Err syntax
  row (suc turns) r ts =
      if sees (closer r) ts then Ok (no_parts, drop 1 ts)
      else (part r ts >>= λ p u.
      if sees s.Comma u then
      (row turns (behind_key r p.0) (drop 1 u) >>= λ q v. Ok (put p.0 p.1 q, v))
      else (expect (closer r) u >>= λ _ v. Ok (put p.0 p.1 no_parts, v)))

  -- ---- primaries

  abbrev pub word_by : Option Literal → Text → Reader Expr
  word_by (Some l) x ts = Ok (constant l, ts)
  word_by None x ts = if is_reserved x then Err syntax else Ok (name (encode_utf8_all x), ts)

  unfoldable pub opened : Sign → Reader Expr
  opened s.LeftParen ts = inner whole ts >>= λ t v. expect s.RightParen v >>= λ _ w. Ok (group t, w)
  opened s.LeftBracket ts = row (length ts) items ts >>= λ p v. Ok (list_of p.0, v)
  opened s.LeftBrace ts = row (length ts) entries ts >>= λ p v. Ok (map_of p.1, v)
  opened _ ts = Err syntax

  unfoldable pub primary : Reader Expr
  primary [] = Err syntax
  primary (cut.name x ∷ ts) = word_by (literal_of x) x ts
  primary (cut.number v ∷ ts) = Ok (constant (number v), ts)
  primary (cut.text v ∷ ts) = Ok (constant (text (encode_utf8_all v)), ts)
  primary (cut.sign k ∷ ts) = opened k ts

  -- ---- postfix forms

  -- The tree with one more attribute, item or call, or none.
  unfoldable pub postfix_step : Expr → Reader (Option Expr)
  postfix_step left ts =
      if sees s.Dot ts then (word_at (drop 1 ts)
      >>= λ x v.
      cap (levels (attribute left (encode_utf8_all x))) n
      (Some (attribute left (encode_utf8_all x))) v)
      else
      if sees s.LeftBracket ts then (inner whole (drop 1 ts)
      >>= λ i v.
      expect s.RightBracket v
      >>= λ _ w. cap (levels (item left i)) n (Some (item left i)) w)
      else
      if sees s.LeftParen ts then (row (length (drop 1 ts)) arguments (drop 1 ts)
      >>= λ p v. cap (levels (call left p.0 p.1)) n (Some (call left p.0 p.1)) v)
      else Ok (None, ts)

  unfoldable pub read_postfix : Reader Expr
  read_postfix ts = primary ts >>= loop postfix_step n

  unfoldable pub read_signed : Reader Expr
  read_signed ts =
      if sees s.Minus ts then (inner signed (drop 1 ts) >>= λ t v. Ok (unary u.Negate t, v))
      else if sees s.Plus ts then (inner signed (drop 1 ts) >>= λ t v. Ok (unary u.Plus t, v))
      else read_postfix ts

  -- ---- filters and tests

  unfoldable pub arguments_at : Reader LeveledList
  arguments_at ts =
      if sees s.LeftParen ts
      then row (length (drop 1 ts)) arguments (drop 1 ts)
      else Ok (no_parts, ts)

  unfoldable pub test_arguments : Reader LeveledList
  test_arguments ts =
      if begins_argument ts
      then (inner postfix ts >>= λ t v. Ok ((expr t no_exprs, no_pairs), v))
      else arguments_at ts

  unfoldable pub filter_step : Expr → Reader (Option Expr)
  filter_step left ts =
      name_at ts
      >>= λ x v.
      arguments_at v
      >>= λ p w.
      cap (levels (filter left (encode_utf8_all x) p.0 p.1)) n
      (Some (filter left (encode_utf8_all x) p.0 p.1)) w

  -- A test after the word `is`. The flag is set if `not` precedes the name of the test.
  unfoldable pub test_step : Bool → Expr → Reader (Option Expr)
  test_step b left ts =
      word_at (past b ts)
      >>= λ x v.
      test_arguments v
      >>= λ p w.
      cap (levels (test left b (encode_utf8_all x) p.0 p.1)) n
      (Some (test left b (encode_utf8_all x) p.0 p.1)) w

  -- The tree with one more filter or test, or none.
  unfoldable pub postscript_step : Expr → Reader (Option Expr)
  postscript_step left ts =
      if sees s.Pipe ts then filter_step left (drop 1 ts)
      else if says (codes "is") ts then test_step (says (codes "not") (drop 1 ts)) left (drop 1 ts)
      else Ok (None, ts)

  unfoldable pub read_postscript : Reader Expr
  read_postscript ts = read_signed ts >>= loop postscript_step n

  -- ---- operators

  -- The tree as the left operand of one more operator, or none.
  abbrev pub chain_by : Reader Expr → Expr → Tokens → Option (BinaryOperator × Tokens)
      → ParseResult (Option Expr)
  chain_by operand left ts None = Ok (None, ts)
  chain_by operand left ts (Some (op, v)) =
      operand v >>= λ b w. cap (levels (binary op left b)) n (Some (binary op left b)) w

  unfoldable pub chain_step : Level → Reader Expr → Expr → Reader (Option Expr)
  chain_step k operand left ts = chain_by operand left ts (operator k ts)

  -- Operands with operators of the level between them.
  unfoldable pub read_chain : Level → Reader Expr → Reader Expr
  read_chain k operand ts = operand ts >>= loop (chain_step k operand) n

  abbrev pub read_power : Reader Expr
  read_power = read_chain power read_postscript

  abbrev pub read_product : Reader Expr
  read_product = read_chain product read_power

  abbrev pub read_concatenation : Reader Expr
  read_concatenation = read_chain concatenation read_product

  abbrev pub read_sum : Reader Expr
  read_sum = read_chain sum read_concatenation

  abbrev pub compare_by : Expr → Tokens → Option (BinaryOperator × Tokens) → ParseResult Expr
  compare_by left ts None = Ok (left, ts)
  compare_by left ts (Some (op, v)) =
      read_sum v >>= λ b w. cap (levels (binary op left b)) n (binary op left b) w

  unfoldable pub read_comparison : Reader Expr
  read_comparison ts = read_sum ts >>= λ left v. compare_by left v (operator comparison v)

  unfoldable pub read_inversion : Reader Expr
  read_inversion ts =
      if says (codes "not") ts
      then (inner inversion (drop 1 ts) >>= λ t v. Ok (unary u.Not t, v))
      else read_comparison ts

  abbrev pub read_conjunction : Reader Expr
  read_conjunction = read_chain conjunction read_inversion

  abbrev pub read_disjunction : Reader Expr
  read_disjunction = read_chain disjunction read_conjunction

  -- ---- inline ifs

  -- The rest of an inline `if`, after its condition.
  unfoldable pub else_part : Expr → Expr → Reader Expr
  else_part a c ts =
      if says (codes "else") ts then
      (inner whole (drop 1 ts) >>= λ b v. cap (levels (choice c a b)) n (choice c a b) v)
      else cap (levels (when c a)) n (when c a) ts

  -- The rest of an inline `if`, after its value.
  unfoldable pub if_part : Expr → Reader Expr
  if_part a ts =
      if says (codes "if") ts then (read_disjunction (drop 1 ts) >>= else_part a) else Ok (a, ts)

  unfoldable pub read_whole : Reader Expr
  read_whole ts = read_disjunction ts >>= if_part

  unfoldable pub read_at : Level → Reader Expr
  read_at whole = read_whole
  read_at disjunction = read_disjunction
  read_at conjunction = read_conjunction
  read_at inversion = read_inversion
  read_at comparison = read_comparison
  read_at sum = read_sum
  read_at concatenation = read_concatenation
  read_at product = read_product
  read_at power = read_power
  read_at postscript = read_postscript
  read_at signed = read_signed
  read_at postfix = read_postfix

-- A form of the level with at most n levels.
unfoldable pub read : ℕ → Level → Reader Expr
read zero k ts = Err deep
read (suc n) k ts = read_at (read n) (suc n) k ts
