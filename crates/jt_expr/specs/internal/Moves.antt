-- The moves of a reader at the next tokens. Only private clauses cite this module.
use Rattle.std.specs.Prelude.{ℕ, ◌-◌, ◌==◌, Bool, ◌&&◌, nat_le, [], ◌∷◌, length, drop, codes, encode_utf8_all, Option}
use Rattle.std.specs.Prelude.{Some, None, Ok, Err, if◌then◌else◌}
use Rattle.jt_scan.specs.declared.segment.Sign.{Sign}
use Rattle.jt_scan.specs.declared.segment.Sign.TheVariants as s
use Rattle.jt_scan.specs.Cut as cut
use Rattle.jt_ast.specs.declared.expression.UnaryOperator.TheVariants as u
use Rattle.jt_ast.specs.declared.expression.BinaryOperator.{BinaryOperator}
use Rattle.jt_ast.specs.Expressions.{Text, number, text, Expr, constant, group, attribute, item, test, unary, binary}
use Rattle.jt_ast.specs.Expressions.{when, choice, no_exprs, expr, no_pairs, levels}
use Rattle.jt_expr.specs.Front.{sees, says, past}
use Rattle.jt_expr.specs.Grammar.{Tokens, literal_of, Level, whole, inversion, postscript, signed, postfix}
use Rattle.jt_expr.specs.Grammar.{begins_argument, SequenceKind, items, entries, arguments, closer, takes_plain}
use Rattle.jt_expr.specs.Grammar.{behind_key, LeveledList, no_parts}
use Rattle.jt_expr.specs.internal.Collecting.{then_part}
use Rattle.jt_expr.specs.internal.Reading.{ParseResult, Reader, ◌>>=◌, syntax, cap, expect, word_at, name_at, operator}
use Rattle.jt_expr.specs.internal.Reading.{key_at, word_by}
use Rattle.jt_expr.specs.internal.Pending.{rank, Owner, a_list, a_map, a_call, a_filter, a_test, Form, in_group}
use Rattle.jt_expr.specs.internal.Pending.{in_part, in_item, in_prefix, in_argument, in_else, in_operand, in_condition}
use Rattle.jt_expr.specs.internal.Pending.{Move, grown, grows, complete, waits, nests, owning, owned, operated}
use Rattle.jt_expr.specs.internal.Pending.{prefix_level}

-- `inner` reads forms that are one level deeper, and n levels are allowed here.
module _ (inner : Level → Reader Expr) (n : ℕ) where
  -- ---- trees

  -- The next tokens may extend a tree of the level, if the tree has at most n levels.
  abbrev pub growing : Level → Expr → Reader Move
  growing k t ts = cap (levels t) n (grown k t) ts

  abbrev pub completed : Level → Expr → Reader Move
  completed k t ts = cap (levels t) n (complete k t) ts

  -- ---- sequences in brackets

  abbrev pub ends : Owner → LeveledList → Reader Move
  ends o q ts = growing (owned o) (owning o q) ts

  abbrev pub keyed : Owner → SequenceKind → ℕ → LeveledList → Tokens → Option (Text × Tokens) → ParseResult Move
  keyed o r turns found ts (Some (k, v)) = Ok (nests (in_part o r turns found (Some k)), v)
  keyed o r turns found ts None =
      if takes_plain r then Ok (nests (in_part o r turns found None), ts) else Err syntax

  -- The next element of a sequence, or its closing sign.
  unfoldable pub element : Owner → SequenceKind → ℕ → LeveledList → Reader Move
  element o r turns found ts =
      if turns == 0 then Err syntax
      else if sees (closer r) ts then ends o found (drop 1 ts)
      else keyed o r (turns - 1) found ts (key_at r ts)

  abbrev pub opens : Owner → SequenceKind → Reader Move
  opens o r ts = element o r (length ts) no_parts ts

  -- ---- primaries

  abbrev pub begun_by : Sign → Reader Move
  begun_by s.LeftParen ts = Ok (nests in_group, ts)
  begun_by s.LeftBracket ts = opens a_list items ts
  begun_by s.LeftBrace ts = opens a_map entries ts
  begun_by _ ts = Err syntax

  unfoldable pub primary : Reader Move
  primary [] = Err syntax
  primary (cut.name x ∷ ts) = grows postfix (word_by inner n (literal_of x) x ts)
  primary (cut.number v ∷ ts) = Ok (grown postfix (constant (number v)), ts)
  primary (cut.text v ∷ ts) = Ok (grown postfix (constant (text (encode_utf8_all v))), ts)
  primary (cut.sign k ∷ ts) = begun_by k ts

  -- A form of the level begins.
  unfoldable pub begin : Level → Reader Move
  begin goal ts =
      if nat_le (rank inversion) (rank goal) && says (codes "not") ts
      then Ok (nests (in_prefix u.Not), drop 1 ts)
      else if nat_le (rank signed) (rank goal) && sees s.Minus ts
      then Ok (nests (in_prefix u.Negate), drop 1 ts)
      else if nat_le (rank signed) (rank goal) && sees s.Plus ts
      then Ok (nests (in_prefix u.Plus), drop 1 ts)
      else primary ts

  -- ---- postfix forms, filters and tests

  abbrev pub attribute_move : Expr → Reader Move
  attribute_move left ts = word_at ts >>= λ x v. growing postfix (attribute left (encode_utf8_all x)) v

  unfoldable pub postfix_move : Expr → Reader Move
  postfix_move left ts =
      if sees s.Dot ts then attribute_move left (drop 1 ts)
      else if sees s.LeftBracket ts then Ok (nests (in_item left), drop 1 ts)
      else if sees s.LeftParen ts then opens (a_call left) arguments (drop 1 ts)
      else Ok (complete postfix left, ts)

  -- The arguments of a filter or a test.
  unfoldable pub arguments_move : Owner → Reader Move
  arguments_move o ts =
      if sees s.LeftParen ts then opens o arguments (drop 1 ts) else ends o no_parts ts

  unfoldable pub filter_move : Expr → Reader Move
  filter_move left ts = name_at ts >>= λ x v. arguments_move (a_filter left (encode_utf8_all x)) v

  abbrev pub test_by : Bool → Expr → Text → Reader Move
  test_by b left x ts =
      if begins_argument ts then Ok (nests (in_argument left b (encode_utf8_all x)), ts)
      else arguments_move (a_test left b (encode_utf8_all x)) ts

  unfoldable pub test_move : Bool → Expr → Reader Move
  test_move b left ts = word_at (past b ts) >>= test_by b left

  unfoldable pub postscript_move : Expr → Reader Move
  postscript_move left ts =
      if sees s.Pipe ts then filter_move left (drop 1 ts)
      else if says (codes "is") ts then test_move (says (codes "not") (drop 1 ts)) left (drop 1 ts)
      else Ok (complete postscript left, ts)

  -- ---- operators and inline ifs

  abbrev pub operated_by : Level → Expr → Tokens → Option (BinaryOperator × Tokens) → ParseResult Move
  operated_by k left ts None = Ok (complete k left, ts)
  operated_by k left ts (Some (op, v)) = Ok (waits (in_operand k op left), v)

  unfoldable pub chain_move : Level → Expr → Reader Move
  chain_move k left ts = operated_by k left ts (operator k ts)

  unfoldable pub if_move : Expr → Reader Move
  if_move left ts =
      if says (codes "if") ts then Ok (waits (in_condition left), drop 1 ts)
      else Ok (complete whole left, ts)

  -- The move after a tree of the level: a form that extends the tree, or its completion.
  unfoldable pub grow : Level → Expr → Reader Move
  grow postfix = postfix_move
  grow postscript = postscript_move
  grow whole = if_move
  grow k = chain_move k

  -- ---- forms that have their trees

  unfoldable pub end_group : Expr → Reader Move
  end_group t ts = expect s.RightParen ts >>= λ _ v. growing postfix (group t) v

  unfoldable pub end_item : Expr → Expr → Reader Move
  end_item a t ts = expect s.RightBracket ts >>= λ _ v. growing postfix (item a t) v

  unfoldable pub end_part : Owner → SequenceKind → ℕ → LeveledList → Option Text → Expr → Reader Move
  end_part o r turns found k t ts =
      if sees s.Comma ts then element o (behind_key r k) turns (then_part found (k, t)) (drop 1 ts)
      else (expect (closer r) ts >>= λ _ v. ends o (then_part found (k, t)) v)

  unfoldable pub end_condition : Expr → Expr → Reader Move
  end_condition a t ts =
      if says (codes "else") ts then Ok (nests (in_else a t), drop 1 ts)
      else completed whole (when t a) ts

  -- The form with the tree that it waits for.
  unfoldable pub resume : Form → Expr → Reader Move
  resume in_group t = end_group t
  resume (in_part o r turns found k) t = end_part o r turns found k t
  resume (in_item a) t = end_item a t
  resume (in_prefix op) t = completed (prefix_level op) (unary op t)
  resume (in_argument a b x) t = growing postscript (test a b x (expr t no_exprs) no_pairs)
  resume (in_else a c) t = completed whole (choice c a t)
  resume (in_operand k op a) t = λ ts. cap (levels (binary op a t)) n (operated k (binary op a t)) ts
  resume (in_condition a) t = end_condition a t
