-- Each move keeps its level, and takes tokens or comes closer to the end of its form.
use Rattle.std.proofs.Common.{◌≡◌, ◌==◌, ℕ, suc, ◌+◌, ◌-◌, ◌*◌, ◌<◌, ◌≤◌, ◌&&◌, nat_le, Bool, true, false}
use Rattle.std.proofs.Common.{if◌then◌else◌, [], ◌∷◌, length, drop, codes, encode_utf8_all, refl, ap, Option, Some}
use Rattle.std.proofs.Common.{None, Ok, Err, arith, rules, length-append}
use Rattle.jt_scan.specs.declared.segment.Sign.{Sign}
use Rattle.jt_scan.specs.declared.segment.Sign.TheVariants as s
use Rattle.jt_scan.specs.Cut as cut
use Rattle.jt_ast.specs.declared.expression.BinaryOperator.{BinaryOperator}
use Rattle.jt_ast.specs.Expressions.{Text, Literal, Expr, name, group, attribute, item, test, unary, binary, when}
use Rattle.jt_ast.specs.Expressions.{choice, no_exprs, expr, no_pairs, levels}
use Rattle.jt_expr.specs.Front.{sees, says, past}
use Rattle.jt_expr.specs.Grammar.{Tokens, is_reserved, literal_of, Level, whole, disjunction, conjunction, inversion}
use Rattle.jt_expr.specs.Grammar.{comparison, sum, concatenation, product, power, postscript, signed, postfix}
use Rattle.jt_expr.specs.Grammar.{begins_argument, operator_tokens, SequenceKind, items, entries, arguments, closer}
use Rattle.jt_expr.specs.Grammar.{takes_plain, behind_key, LeveledList, no_parts}
use Rattle.jt_expr.specs.internal.Collecting.{then_part}
use Rattle.jt_expr.specs.internal.Reading as reading
use Rattle.jt_expr.specs.internal.Reading.{ParseResult, Reader, ◌>>=◌, expect, word_at, name_at, operator, key_at}
use Rattle.jt_expr.specs.internal.Reading.{keyword, entry_key}
use Rattle.jt_expr.specs.internal.Pending.{rank, Owner, a_list, a_map, a_call, a_filter, a_test, Form, in_group}
use Rattle.jt_expr.specs.internal.Pending.{in_part, in_item, in_prefix, in_argument, in_else, in_operand, in_condition}
use Rattle.jt_expr.specs.internal.Pending.{Move, grown, complete, owned, operated, prefix_level, reached, level_of}
use Rattle.jt_expr.specs.internal.Pending.{owning, Proper}
use Rattle.jt_expr.specs.internal.Moves as moves
use Rattle.jt_expr.specs.internal.Moves.{growing, completed, keyed, element, ends, opens, postfix_move, arguments_move}
use Rattle.jt_expr.specs.internal.Moves.{filter_move, test_by, test_move, postscript_move, operated_by, chain_move}
use Rattle.jt_expr.specs.internal.Moves.{if_move, grow, end_group, end_item, end_part, end_condition, resume}
use Rattle.jt_expr.specs.internal.Unwinding.{moves_left}
use Rattle.jt_expr.proofs.Binding.{All, all_ok, all_if, all_bind, all_cap}
use Rattle.jt_expr.proofs.FirstTokenTests.{says_sound, sees_sound}
use Rattle.jt_expr.proofs.ParserSound.{operator_sound, word_sound, name_sound}

-- ---- tokens that are taken

sees_shorter : (k : Sign) (ts : Tokens) → sees k ts ≡ true → length (drop 1 ts) + 1 ≡ length ts
sees_shorter k ts h = omega (arith, ap length (sees_sound k ts h))

says_shorter : (w : Text) (ts : Tokens) → says w ts ≡ true → length (drop 1 ts) + 1 ≡ length ts
says_shorter w ts h = omega (arith, ap length (says_sound w ts h))

expect_shorter : (k : Sign) (ts : Tokens) → All (λ x v. length v ≤ length ts) (expect k ts)
unfolding expect
expect_shorter k ts =
    all_if (λ x v. length v ≤ length ts) (sees k ts) _ _ (λ h. omega (arith, sees_shorter k ts h)) (λ h. tt)

past_shorter : (b : Bool) (ts : Tokens) → length (past b ts) ≤ length ts
past_shorter true [] = omega arith
past_shorter true (t ∷ ts) = omega arith
past_shorter false ts = omega arith

word_shorter : (ts v : Tokens) (x : Text) → word_at ts ≡ Ok (x, v) → length v ≤ length ts
word_shorter ts v x e = omega (arith, ap length (word_sound ts v x e))

name_shorter : (ts v : Tokens) (x : Text) → name_at ts ≡ Ok (x, v) → length v ≤ length ts
name_shorter ts v x e = omega (arith, ap length (name_sound ts v x e).0)

some_token : (op : BinaryOperator) → 0 < length (operator_tokens op)
some_token op = search (arith, rules)

operator_shorter : (k : Level) (op : BinaryOperator) (ts v : Tokens) → operator k ts ≡ Some (op, v)
    → length v < length ts
operator_shorter k op ts v e =
    omega (arith, ap length (operator_sound k op ts v e).0, length-append (operator_tokens op) v, some_token op)

-- The fact holds for the tokens after a key.
abbrev KeyAll : ℕ → Option (Text × Tokens) → Type 0
KeyAll n None = Unit {0}
KeyAll n (Some p) = length p.1 ≤ n

key_if : (n : ℕ) (b : Bool) (x y : Option (Text × Tokens)) → (b ≡ true → KeyAll n x) → (b ≡ false → KeyAll n y)
    → KeyAll n (if b then x else y)
key_if n true x y s t = s refl
key_if n false x y s t = t refl

drop_shorter : (ts : Tokens) → length (drop 1 ts) ≤ length ts
drop_shorter [] = omega arith
drop_shorter (t ∷ ts) = omega arith

entry_shorter : (ts : Tokens) → KeyAll (length ts) (entry_key ts)
unfolding entry_key
entry_shorter [] = tt
entry_shorter (cut.name x ∷ ts) = tt
entry_shorter (cut.number n ∷ ts) = tt
entry_shorter (cut.text v ∷ ts) =
    key_if (suc (length ts)) (sees s.Colon ts) _ _ (λ h. omega (arith, drop_shorter ts)) (λ h. tt)
entry_shorter (cut.sign k ∷ ts) = tt

keyword_shorter : (ts : Tokens) → KeyAll (length ts) (keyword ts)
unfolding keyword
keyword_shorter [] = tt
keyword_shorter (cut.name x ∷ ts) =
    key_if (suc (length ts)) (is_reserved x) _ _ (λ h. tt) (λ h.
    key_if (suc (length ts)) (sees s.Assign ts) _ _ (λ h2. omega (arith, drop_shorter ts)) (λ h2. tt))
keyword_shorter (cut.number n ∷ ts) = tt
keyword_shorter (cut.text v ∷ ts) = tt
keyword_shorter (cut.sign k ∷ ts) = tt

key_shorter : (r : SequenceKind) (ts : Tokens) → KeyAll (length ts) (key_at r ts)
key_shorter r ts = search (arith, rules, entry_shorter, keyword_shorter)

-- ---- moves of one level

-- The move is of the level k, and at most n moves are left before a form has its tree.
pub record Bounded (k : Level) (n : ℕ) (x : Move) (v : Tokens) : Type 0 where
  pub level : level_of x ≡ k
  pub proper : Proper x
  pub bound : 64 * length v + moves_left x ≤ n

-- The number of moves from some tokens on.
abbrev pub from : Tokens → ℕ
from ts = 64 * length ts + 24

-- A greater bound holds as well.
all_less : (k : Level) (a b : ℕ) (o : ParseResult Move) → a ≤ b → All (Bounded k a) o → All (Bounded k b) o
all_less k a b (Ok p) le h = record { level = h.level; proper = h.proper; bound = omega (arith, h.bound) }
all_less k a b (Err x) le h = tt

all_level : (k : Level) (a : ℕ) (o : ParseResult Move) → All (Bounded k a) o → All (λ x v. level_of x ≡ k) o
all_level k a (Ok p) h = h.level
all_level k a (Err x) h = tt

operated_bounded : (k : Level) (t : Expr) (ts : Tokens) → Bounded k (from ts) (operated k t) ts
operated_bounded comparison t ts = record { level = refl; proper = tt; bound = omega arith }
operated_bounded _ t ts = record { level = refl; proper = tt; bound = omega arith }

module _ (inner : Level → Reader Expr) (n : ℕ) where
  grown_bounded : (k : Level) (t : Expr) (v : Tokens) (b : ℕ) → from v ≤ b → All (Bounded k b) (growing inner n k t v)
  grown_bounded k t v b h =
      all_cap (Bounded k b) (levels t) n (grown k t) v (λ le. record { level = refl; proper = tt; bound = omega arith })

  completed_bounded : (k : Level) (t : Expr) (v : Tokens) (b : ℕ) → from v ≤ b
      → All (Bounded k b) (completed inner n k t v)
  completed_bounded k t v b h =
      all_cap (Bounded k b) (levels t) n (complete k t) v
      (λ le. record { level = refl; proper = tt; bound = omega arith })

  ends_bounded : (o : Owner) (q : LeveledList) (ts : Tokens) → All (Bounded (owned o) (from ts)) (ends inner n o q ts)
  ends_bounded o q ts = grown_bounded (owned o) (owning o q) ts (from ts) (omega arith)

  keyed_bounded : (o : Owner) (r : SequenceKind) (turns : ℕ) (found : LeveledList) (ts : Tokens)
      (key : Option (Text × Tokens))
      → KeyAll (length ts) key → All (Bounded (owned o) (from ts)) (keyed inner n o r turns found ts key)
  keyed_bounded o r turns found ts None h =
      all_if (Bounded (owned o) (from ts)) (takes_plain r) _ _
      (λ e. record { level = refl; proper = refl; bound = omega arith }) (λ e. tt)
  keyed_bounded o r turns found ts (Some p) h = record { level = refl; proper = refl; bound = omega arith }

  element_bounded : (o : Owner) (r : SequenceKind) (turns : ℕ) (found : LeveledList) (ts : Tokens)
      → All (Bounded (owned o) (from ts)) (element inner n o r turns found ts)
  unfolding element
  element_bounded o r turns found ts =
      let P : Move → Tokens → Type 0 = Bounded (owned o) (from ts) in
      all_if P (turns == 0) _ _ (λ e. tt) (λ e.
      all_if P (sees (closer r) ts) _ _
      (λ h. all_less (owned o) (from (drop 1 ts)) (from ts) (ends inner n o found (drop 1 ts))
      (omega (arith, drop_shorter ts)) (ends_bounded o found (drop 1 ts)))
      (λ h. keyed_bounded o r (turns - 1) found ts (key_at r ts) (key_shorter r ts)))

  -- ---- primaries

  begun_bounded : (k : Sign) (ts : Tokens) → All (Bounded postfix (from ts)) (moves.begun_by inner n k ts)
  begun_bounded s.LeftParen ts = record { level = refl; proper = refl; bound = omega arith }
  begun_bounded s.LeftBracket ts = element_bounded a_list items (length ts) no_parts ts
  begun_bounded s.LeftBrace ts = element_bounded a_map entries (length ts) no_parts ts
  begun_bounded _ ts = tt

  named_bounded : (t : Expr) (ts : Tokens) (b : Bool)
      → All (Bounded postfix (from ts))
      (◌>>=◌ {A = Expr} (if b then Err reading.syntax else Ok (t, ts)) (λ t v. Ok (grown postfix t, v)))
  named_bounded t ts true = tt
  named_bounded t ts false = record { level = refl; proper = tt; bound = omega arith }

  word_bounded : (o : Option Literal) (x : Text) (ts : Tokens)
      → All (Bounded postfix (from ts)) (reading.word_by inner n o x ts >>= λ t v. Ok (grown postfix t, v))
  word_bounded (Some l) x ts = record { level = refl; proper = tt; bound = omega arith }
  word_bounded None x ts = named_bounded (name (encode_utf8_all x)) ts (is_reserved x)

  -- The tokens after the first one.
  primary_bounded : (ts : Tokens) → All (Bounded postfix (from (drop 1 ts))) (moves.primary inner n ts)
  unfolding moves.primary
  primary_bounded [] = tt
  primary_bounded (cut.name x ∷ ts) = word_bounded (literal_of x) x ts
  primary_bounded (cut.number v ∷ ts) = record { level = refl; proper = tt; bound = omega arith }
  primary_bounded (cut.text v ∷ ts) = record { level = refl; proper = tt; bound = omega arith }
  primary_bounded (cut.sign k ∷ ts) = begun_bounded k ts

  pub primary_level : (ts : Tokens) → All (λ x v. level_of x ≡ postfix) (moves.primary inner n ts)
  primary_level ts = all_level postfix (from (drop 1 ts)) (moves.primary inner n ts) (primary_bounded ts)

  -- A token is taken.
  abbrev pub Begun : Tokens → Move → Tokens → Type 0
  Begun ts x v = Proper x × (64 * length v + moves_left x + 40 ≤ 64 * length ts)

  some_begun : (t : cut.Token) (ts : Tokens) (o : ParseResult Move) → All (Bounded postfix (from ts)) o
      → All (Begun (t ∷ ts)) o
  some_begun t ts (Ok p) h = (h.proper, omega (arith, h.bound))
  some_begun t ts (Err x) h = tt

  none_begun : All (Begun []) (moves.primary inner n [])
  unfolding moves.primary
  none_begun = tt

  primary_begun : (ts : Tokens) → All (Begun ts) (moves.primary inner n ts)
  primary_begun [] = none_begun
  primary_begun (t ∷ ts) = some_begun t ts (moves.primary inner n (t ∷ ts)) (primary_bounded (t ∷ ts))

  and_right : (a b : Bool) → (a && b) ≡ true → b ≡ true
  and_right true b h = h
  and_right false b h = absurd (cc)

  pub begin_bounded : (goal : Level) (ts : Tokens) → All (Begun ts) (moves.begin inner n goal ts)
  unfolding moves.begin
  begin_bounded goal ts = search (arith, rules, all_if, nat_le, says_shorter, and_right, sees_shorter, primary_begun)

  -- ---- what extends a tree

  -- The number of moves from a tree of the level on.
  abbrev pub from_level : Level → Tokens → ℕ
  from_level k ts = 64 * length ts + (23 - 2 * rank k)

  postfix_bounded : (t : Expr) (ts : Tokens) → All (Bounded postfix (from_level postfix ts)) (postfix_move inner n t ts)
  unfolding postfix_move
  postfix_bounded t ts =
      let P : Move → Tokens → Type 0 = Bounded postfix (from_level postfix ts) in
      all_if P (sees s.Dot ts) _ _
      (λ h. all_bind P (word_at (drop 1 ts)) _ (λ x v e. grown_bounded postfix (attribute t (encode_utf8_all x)) v
      (from_level postfix ts) (omega (arith, sees_shorter s.Dot ts h, word_shorter (drop 1 ts) v x e))))
      (λ h. all_if P (sees s.LeftBracket ts) _ _
      (λ h2. record { level = refl; proper = refl; bound = omega (arith, sees_shorter s.LeftBracket ts h2) })
      (λ h2. all_if P (sees s.LeftParen ts) _ _
      (λ h3. all_less postfix (from (drop 1 ts)) (from_level postfix ts) _
      (omega (arith, sees_shorter s.LeftParen ts h3))
      (element_bounded (a_call t) arguments (length (drop 1 ts)) no_parts (drop 1 ts)))
      (λ h3. record { level = refl; proper = tt; bound = omega arith })))

  arguments_bounded : (o : Owner) (ts : Tokens) → All (Bounded (owned o) (from ts)) (arguments_move inner n o ts)
  unfolding arguments_move
  arguments_bounded o ts = search (arith, rules, all_if, all_less, drop_shorter, element_bounded, ends_bounded)

  filter_bounded : (t : Expr) (ts : Tokens) → All (Bounded postscript (from ts)) (filter_move inner n t ts)
  unfolding filter_move
  filter_bounded t ts =
      all_bind (Bounded postscript (from ts)) (name_at ts) _ (λ x v e.
      all_less postscript (from v) (from ts) _ (omega (arith, name_shorter ts v x e))
      (arguments_bounded (a_filter t (encode_utf8_all x)) v))

  test_bounded : (b : Bool) (t : Expr) (ts : Tokens) → All (Bounded postscript (from ts)) (test_move inner n b t ts)
  unfolding test_move
  test_bounded b t ts =
      all_bind (Bounded postscript (from ts)) (word_at (past b ts)) _ (λ x v e.
      all_less postscript (from v) (from ts) _ (omega (arith, past_shorter b ts, word_shorter (past b ts) v x e))
      (all_if (Bounded postscript (from v)) (begins_argument v) _ _
      (λ h. record { level = refl; proper = refl; bound = omega arith })
      (λ h. arguments_bounded (a_test t b (encode_utf8_all x)) v)))

  postscript_bounded : (t : Expr) (ts : Tokens)
      → All (Bounded postscript (from_level postscript ts)) (postscript_move inner n t ts)
  unfolding postscript_move
  postscript_bounded t ts =
      let P : Move → Tokens → Type 0 = Bounded postscript (from_level postscript ts) in
      all_if P (sees s.Pipe ts) _ _
      (λ h. all_less postscript (from (drop 1 ts)) (from_level postscript ts) _
      (omega (arith, sees_shorter s.Pipe ts h)) (filter_bounded t (drop 1 ts)))
      (λ h. all_if P (says (codes "is") ts) _ _
      (λ h2. all_less postscript (from (drop 1 ts)) (from_level postscript ts) _
      (omega (arith, says_shorter (codes "is") ts h2)) (test_bounded (says (codes "not") (drop 1 ts)) t (drop 1 ts)))
      (λ h2. record { level = refl; proper = tt; bound = omega arith }))

  operated_by_bounded : (k : Level) (t : Expr) (ts : Tokens) (f : Option (BinaryOperator × Tokens)) → operator k ts ≡ f
      → All (Bounded k (from_level k ts)) (operated_by inner n k t ts f)
  operated_by_bounded k t ts None e = record { level = refl; proper = tt; bound = omega arith }
  operated_by_bounded k t ts (Some p) e = record {
    level = refl;
    proper = refl;
    bound = omega (arith, operator_shorter k p.0 ts p.1 e);
  }

  chain_bounded : (k : Level) (t : Expr) (ts : Tokens) → All (Bounded k (from_level k ts)) (chain_move inner n k t ts)
  unfolding chain_move
  chain_bounded k t ts = operated_by_bounded k t ts (operator k ts) refl

  if_bounded : (t : Expr) (ts : Tokens) → All (Bounded whole (from_level whole ts)) (if_move inner n t ts)
  unfolding if_move
  if_bounded t ts =
      all_if (Bounded whole (from_level whole ts)) (says (codes "if") ts) _ _
      (λ h. record { level = refl; proper = refl; bound = omega (arith, says_shorter (codes "if") ts h) })
      (λ h. record { level = refl; proper = tt; bound = omega arith })

  pub grow_bounded : (k : Level) (t : Expr) (ts : Tokens) → All (Bounded k (from_level k ts)) (grow inner n k t ts)
  unfolding grow
  grow_bounded postfix t ts = postfix_bounded t ts
  grow_bounded postscript t ts = postscript_bounded t ts
  grow_bounded whole t ts = if_bounded t ts
  grow_bounded signed t ts = chain_bounded signed t ts
  grow_bounded power t ts = chain_bounded power t ts
  grow_bounded product t ts = chain_bounded product t ts
  grow_bounded concatenation t ts = chain_bounded concatenation t ts
  grow_bounded sum t ts = chain_bounded sum t ts
  grow_bounded comparison t ts = chain_bounded comparison t ts
  grow_bounded inversion t ts = chain_bounded inversion t ts
  grow_bounded conjunction t ts = chain_bounded conjunction t ts
  grow_bounded disjunction t ts = chain_bounded disjunction t ts

  pub grow_level : (k : Level) (t : Expr) (ts : Tokens) → All (λ x v. level_of x ≡ k) (grow inner n k t ts)
  grow_level k t ts = all_level k (from_level k ts) (grow inner n k t ts) (grow_bounded k t ts)

  -- ---- forms that have their trees

  expected : (P : Move → Tokens → Type 0) (k : Sign) (ts : Tokens) (f : Unit {0} → Reader Move)
      → ((x : Unit {0}) (v : Tokens) → length v ≤ length ts → All P (f x v)) → All P (expect k ts >>= f)
  expected P k ts f h = search (arith, rules, all_bind, all_ok, expect_shorter)

  pub resume_bounded : (f : Form) (t : Expr) (ts : Tokens) → All (Bounded (reached f) (from ts)) (resume inner n f t ts)
  unfolding resume end_group end_item end_part end_condition
  resume_bounded in_group t ts =
      expected (Bounded postfix (from ts)) s.RightParen ts _
      (λ x v e. grown_bounded postfix (group t) v (from ts) (omega arith))
  resume_bounded (in_part o r turns found k) t ts =
      all_if (Bounded (owned o) (from ts)) (sees s.Comma ts) _ _
      (λ h. all_less (owned o) (from (drop 1 ts)) (from ts) _ (omega (arith, drop_shorter ts))
      (element_bounded o (behind_key r k) turns (then_part found (k, t)) (drop 1 ts)))
      (λ h. expected (Bounded (owned o) (from ts)) (closer r) ts _
      (λ x v e. all_less (owned o) (from v) (from ts) _ (omega arith) (ends_bounded o (then_part found (k, t)) v)))
  resume_bounded (in_item a) t ts =
      expected (Bounded postfix (from ts)) s.RightBracket ts _
      (λ x v e. grown_bounded postfix (item a t) v (from ts) (omega arith))
  resume_bounded (in_prefix op) t ts = completed_bounded (prefix_level op) (unary op t) ts (from ts) (omega arith)
  resume_bounded (in_argument a b x) t ts =
      grown_bounded postscript (test a b x (expr t no_exprs) no_pairs) ts (from ts) (omega arith)
  resume_bounded (in_else a c) t ts = completed_bounded whole (choice c a t) ts (from ts) (omega arith)
  resume_bounded (in_operand k op a) t ts = search (arith, rules, all_cap, operated_bounded)
  resume_bounded (in_condition a) t ts =
      all_if (Bounded whole (from ts)) (says (codes "else") ts) _ _
      (λ h. record { level = refl; proper = refl; bound = omega (arith, drop_shorter ts) })
      (λ h. completed_bounded whole (when t a) ts (from ts) (omega arith))

  pub resume_level : (f : Form) (t : Expr) (ts : Tokens) → All (λ x v. level_of x ≡ reached f) (resume inner n f t ts)
  resume_level f t ts = all_level (reached f) (from ts) (resume inner n f t ts) (resume_bounded f t ts)
