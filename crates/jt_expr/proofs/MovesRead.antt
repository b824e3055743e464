-- Each move reads what the reader of Reading reads.
use Rattle.std.proofs.Common.{◌≡◌, ◌==◌, ℕ, zero, suc, ◌-◌, ◌<◌, ◌≤◌, Bool, true, false, if◌then◌else◌, [], ◌∷◌, length}
use Rattle.std.proofs.Common.{drop, codes, encode_utf8_all, refl, ap, sym, ◌∙◌, Option, Some, None, Ok, Err, arith}
use Rattle.std.proofs.lemmas.Bool.Decides.{nat_tests}
use Rattle.jt_scan.specs.declared.segment.Sign.{Sign}
use Rattle.jt_scan.specs.declared.segment.Sign.TheVariants as s
use Rattle.jt_scan.specs.Cut as cut
use Rattle.jt_ast.specs.declared.expression.UnaryOperator.{UnaryOperator}
use Rattle.jt_ast.specs.declared.expression.BinaryOperator.{BinaryOperator}
use Rattle.jt_ast.specs.Expressions.{Text, Expr, group, list_of, map_of, attribute, item, call, filter, test, unary}
use Rattle.jt_ast.specs.Expressions.{binary, when, choice, no_exprs, expr, no_pairs, levels}
use Rattle.jt_expr.specs.Front.{sees, says, past}
use Rattle.jt_expr.specs.Grammar.{Tokens, literal_of, Level, whole, disjunction, conjunction, inversion, comparison}
use Rattle.jt_expr.specs.Grammar.{sum, concatenation, product, power, postscript, signed, postfix, next}
use Rattle.jt_expr.specs.Grammar.{begins_argument, SequenceKind, items, entries, arguments, closer, takes_plain}
use Rattle.jt_expr.specs.Grammar.{behind_key, LeveledList, no_parts, put}
use Rattle.jt_expr.specs.internal.Collecting.{then_parts, then_part}
use Rattle.jt_expr.specs.internal.Reading as reading
use Rattle.jt_expr.specs.internal.Reading.{ParseResult, Reader, ◌>>=◌, again, loop, cap, syntax, expect, word_at}
use Rattle.jt_expr.specs.internal.Reading.{name_at, operator, key_at, row, part, postfix_step, postscript_step}
use Rattle.jt_expr.specs.internal.Reading.{filter_step, test_step, chain_step, arguments_at, test_arguments, if_part}
use Rattle.jt_expr.specs.internal.Reading.{else_part, read_at}
use Rattle.jt_expr.specs.internal.Pending.{Owner, a_list, a_map, a_call, a_filter, a_test, Form, in_group, in_part}
use Rattle.jt_expr.specs.internal.Pending.{in_item, in_prefix, in_argument, in_else, in_operand, in_condition, Move}
use Rattle.jt_expr.specs.internal.Pending.{grown, complete, nests, owning, owned, operated, prefix_level}
use Rattle.jt_expr.specs.internal.Moves as moves
use Rattle.jt_expr.specs.internal.Moves.{growing, completed, ends, keyed, element, opens, postfix_move, arguments_move}
use Rattle.jt_expr.specs.internal.Moves.{filter_move, test_by, test_move, postscript_move, operated_by, chain_move}
use Rattle.jt_expr.specs.internal.Moves.{if_move, grow, end_group, end_item, end_part, end_condition, resume}
use Rattle.jt_expr.specs.internal.Unwinding.{more, settled, rest_of, onward}
use Rattle.jt_expr.proofs.Binding.{bind_same, through, through_two, both_through, if_one, if_both, if_two, cap_none}
use Rattle.jt_expr.proofs.Binding.{cap_both, cap_one, All, all_if, all_bind, all_cap}
use Rattle.jt_expr.proofs.ReaderLoops.{Raised, Raises, cap_turn}
use Rattle.jt_expr.proofs.RowCollection.{then_parts-none, then_put, then_put_last}
use Rattle.jt_expr.proofs.ParserSound.{Found, row_sound}

-- Nested forms have at most m levels.
module _ (inner : Level → Reader Expr) (m : ℕ)
    (sound : (k : Level) (t : Expr) (ts rest : Tokens) → inner k ts ≡ Ok (t, rest) → Found k m t ts rest) where
  -- ---- sequences

  grown_settled : (k : Level) (t : Expr) (ts : Tokens)
      → (growing inner (suc m) k t ts >>= settled inner (suc m))
      ≡ (growing inner (suc m) k t ts >>= onward inner (suc m))
  unfolding settled onward
  grown_settled k t ts =
      cap_both (levels t) (suc m) (grown k t) (grown k t) ts (settled inner (suc m)) (onward inner (suc m)) (λ le. refl)

  completed_settled : (k : Level) (t : Expr) (ts : Tokens)
      → (completed inner (suc m) k t ts >>= settled inner (suc m))
      ≡ (completed inner (suc m) k t ts >>= onward inner (suc m))
  unfolding settled onward
  completed_settled k t ts =
      cap_both (levels t) (suc m) (complete k t) (complete k t) ts (settled inner (suc m)) (onward inner (suc m))
      (λ le. refl)

  ends_settled : (o : Owner) (q : LeveledList) (ts : Tokens)
      → (ends inner (suc m) o q ts >>= settled inner (suc m)) ≡ (ends inner (suc m) o q ts >>= onward inner (suc m))
  ends_settled o q ts = grown_settled (owned o) (owning o q) ts

  -- The owner of a sequence, given the rest of its parts.
  abbrev after : Owner → LeveledList → LeveledList → Reader Expr
  after o found q v = ends inner (suc m) o (then_parts found q) v >>= settled inner (suc m)

  abbrev row_tail : ℕ → SequenceKind → Option Text × Expr → Reader LeveledList
  row_tail turns r p v =
      if sees s.Comma v then (row inner (suc m) turns (behind_key r p.0) (drop 1 v) >>= λ q w. Ok (put p.0 p.1 q, w))
      else (expect (closer r) v >>= λ _ w. Ok (put p.0 p.1 no_parts, w))

  part_tail : (o : Owner) (r : SequenceKind) (turns : ℕ) (found : LeveledList) (k : Option Text) (t : Expr) (v : Tokens)
      → rest_of inner (suc m) (in_part o r turns found k) t v ≡ (row_tail turns r (k, t) v >>= after o found)
  unfolding rest_of
  part_tail o r turns found k t v =
      if_one (sees s.Comma v) _ _ _ _ (after o found)
      (λ h. sym (through (row inner (suc m) turns (behind_key r k) (drop 1 v)) _ (after o found) _
      (λ q w e. ap (λ z. ends inner (suc m) o z w >>= settled inner (suc m)) (then_put found k t q))))
      (λ h. sym (through (expect (closer r) v) _ (after o found) _
      (λ x w e. ap (λ z. ends inner (suc m) o z w >>= settled inner (suc m)) (then_put_last found k t))))

  part_reads : (o : Owner) (r : SequenceKind) (turns : ℕ) (found : LeveledList) (k : Option Text) (z : ParseResult Expr)
      → (z >>= rest_of inner (suc m) (in_part o r turns found k))
      ≡ (((z >>= λ t v. Ok ((k, t), v)) >>= row_tail turns r) >>= after o found)
  part_reads o r turns found k (Ok p) = part_tail o r turns found k p.0 p.1
  part_reads o r turns found k (Err x) = refl

  plain_reads : (o : Owner) (r : SequenceKind) (turns : ℕ) (found : LeveledList) (ts : Tokens) (b : Bool)
      → (◌>>=◌ {A = Move} (if b then Ok (nests (in_part o r turns found None), ts) else Err syntax)
      (onward inner (suc m)))
      ≡ ((◌>>=◌ {A = Option Text × Expr} (if b then (inner whole ts >>= λ t v. Ok ((None, t), v)) else Err syntax)
      (row_tail turns r))
      >>= after o found)
  unfolding onward
  plain_reads o r turns found ts true = part_reads o r turns found None (inner whole ts)
  plain_reads o r turns found ts false = refl

  keyed_reads : (o : Owner) (r : SequenceKind) (turns : ℕ) (found : LeveledList) (ts : Tokens)
      (key : Option (Text × Tokens))
      → (keyed inner (suc m) o r turns found ts key >>= onward inner (suc m))
      ≡ ((reading.part_by inner (suc m) r ts key >>= row_tail turns r) >>= after o found)
  unfolding onward
  keyed_reads o r turns found ts (Some p) = part_reads o r turns found (Some p.0) (inner whole p.1)
  keyed_reads o r turns found ts None = plain_reads o r turns found ts (takes_plain r)

  element_turn : (o : Owner) (r : SequenceKind) (turns : ℕ) (found : LeveledList) (ts : Tokens)
      → element inner (suc m) o r (suc turns) found ts
      ≡ (if sees (closer r) ts then ends inner (suc m) o found (drop 1 ts)
      else keyed inner (suc m) o r turns found ts (key_at r ts))
  unfolding element
  element_turn o r turns found ts = grind (arith, nat_tests)

  element_none : (o : Owner) (r : SequenceKind) (found : LeveledList) (ts : Tokens)
      → element inner (suc m) o r zero found ts ≡ Err syntax
  unfolding element
  element_none o r found ts = refl

  -- A sequence from its next element on.
  pub element_reads : (o : Owner) (r : SequenceKind) (turns : ℕ) (found : LeveledList) (ts : Tokens)
      → (element inner (suc m) o r turns found ts >>= onward inner (suc m))
      ≡ (row inner (suc m) turns r ts >>= after o found)
  unfolding row part
  element_reads o r zero found ts = ap (λ z. z >>= onward inner (suc m)) (element_none o r found ts)
  element_reads o r (suc turns) found ts =
      ap (λ z. z >>= onward inner (suc m)) (element_turn o r turns found ts)
      ∙ if_both (sees (closer r) ts) _ _ (onward inner (suc m)) _ _ (after o found)
      (λ h. sym (ends_settled o found (drop 1 ts))
      ∙ ap (λ z. ends inner (suc m) o z (drop 1 ts) >>= settled inner (suc m)) (sym (then_parts-none found)))
      (λ h. keyed_reads o r turns found ts (key_at r ts))

  opens_reads : (o : Owner) (r : SequenceKind) (ts : Tokens)
      → (opens inner (suc m) o r ts >>= onward inner (suc m))
      ≡ (row inner (suc m) (length ts) r ts >>= λ q v. ends inner (suc m) o q v >>= settled inner (suc m))
  opens_reads o r ts = element_reads o r (length ts) no_parts ts

  -- ---- primaries

  group_reads : (ts : Tokens) → ((inner whole ts >>= λ t v. expect s.RightParen v >>= λ _ w. Ok (group t, w))
      >>= more inner (suc m) postfix)
      ≡ (inner whole ts >>= rest_of inner (suc m) in_group)
  unfolding rest_of resume end_group settled
  group_reads ts = grind (arith, through, both_through, cap_none)

  list_reads : (ts : Tokens) → ((row inner (suc m) (length ts) items ts >>= λ p v. Ok (list_of p.0, v))
      >>= more inner (suc m) postfix)
      ≡ (opens inner (suc m) a_list items ts >>= onward inner (suc m))
  unfolding settled
  list_reads ts = grind (arith, through, row_sound, cap_none, opens_reads)

  map_reads : (ts : Tokens) → ((row inner (suc m) (length ts) entries ts >>= λ p v. Ok (map_of p.1, v))
      >>= more inner (suc m) postfix)
      ≡ (opens inner (suc m) a_map entries ts >>= onward inner (suc m))
  unfolding settled
  map_reads ts = grind (arith, through, row_sound, cap_none, opens_reads)

  begun_reads : (k : Sign) (ts : Tokens) → (reading.opened inner (suc m) k ts >>= more inner (suc m) postfix)
      ≡ (moves.begun_by inner (suc m) k ts >>= onward inner (suc m))
  unfolding reading.opened onward
  begun_reads s.LeftParen ts = group_reads ts
  begun_reads s.LeftBracket ts = list_reads ts
  begun_reads s.LeftBrace ts = map_reads ts
  begun_reads _ ts = refl

  pub primary_reads : (ts : Tokens) → (reading.primary inner (suc m) ts >>= more inner (suc m) postfix)
      ≡ (moves.primary inner (suc m) ts >>= onward inner (suc m))
  unfolding reading.primary moves.primary onward
  primary_reads [] = refl
  primary_reads (cut.name x ∷ ts) =
      sym (through (reading.word_by inner (suc m) (literal_of x) x ts) _ (onward inner (suc m)) _ (λ t v e. refl))
  primary_reads (cut.number n ∷ ts) = refl
  primary_reads (cut.text v ∷ ts) = refl
  primary_reads (cut.sign k ∷ ts) = begun_reads k ts

  -- ---- postfix forms

  raised_cap : (t new : Expr) (v : Tokens) → levels t < levels new
      → All (Raised (suc m) t) (cap (levels new) (suc m) (Some new) v)
  raised_cap t new v h = all_cap (Raised (suc m) t) (levels new) (suc m) (Some new) v (λ le. (le, h))

  postfix_raises : Raises (suc m) (postfix_step inner (suc m))
  unfolding postfix_step
  postfix_raises t ts = grind (arith, all_if, all_bind, raised_cap, encode_utf8_all)

  postfix_reads : (t : Expr) (ts : Tokens)
      → more inner (suc m) postfix t ts ≡ (postfix_move inner (suc m) t ts >>= onward inner (suc m))
  unfolding more loop postfix_step postfix_move onward rest_of settled resume end_item
  postfix_reads t ts =
      let step : Expr → Reader (Option Expr) = postfix_step inner (suc m) in
      let on : Option Expr → Reader Expr = again (loop step m) t in
      if_both (sees s.Dot ts) _ _ on _ _ (onward inner (suc m))
      (λ h. both_through (word_at (drop 1 ts)) _ on _ (onward inner (suc m)) (λ x v e.
      cap_turn m step postfix_raises t (attribute t (encode_utf8_all x)) v (omega arith)
      (grown postfix (attribute t (encode_utf8_all x))) (onward inner (suc m)) refl))
      (λ h. if_both (sees s.LeftBracket ts) _ _ on _ _ (onward inner (suc m))
      (λ h2. through (inner whole (drop 1 ts)) _ on _
      (λ i v e. both_through (expect s.RightBracket v) _ on _ (settled inner (suc m)) (λ x w e2.
      cap_turn m step postfix_raises t (item t i) w (omega arith) (grown postfix (item t i)) (settled inner (suc m))
      refl)))
      (λ h2. if_both (sees s.LeftParen ts) _ _ on _ _ (onward inner (suc m))
      (λ h3. through (row inner (suc m) (length (drop 1 ts)) arguments (drop 1 ts)) _ on _ (λ p v e.
      cap_turn m step postfix_raises t (call t p.0 p.1) v (omega arith) (grown postfix (call t p.0 p.1))
      (settled inner (suc m)) refl)
      ∙ sym (opens_reads (a_call t) arguments (drop 1 ts)))
      (λ h3. refl)))

  -- ---- filters and tests

  filter_raises : (t : Expr) (ts : Tokens) → All (Raised (suc m) t) (filter_step inner (suc m) t ts)
  unfolding filter_step
  filter_raises t ts = grind (arith, all_bind, raised_cap, encode_utf8_all)

  test_raises : (b : Bool) (t : Expr) (ts : Tokens) → All (Raised (suc m) t) (test_step inner (suc m) b t ts)
  unfolding test_step
  test_raises b t ts = grind (arith, all_bind, raised_cap, encode_utf8_all)

  postscript_raises : Raises (suc m) (postscript_step inner (suc m))
  unfolding postscript_step
  postscript_raises t ts =
      let P : Option Expr → Tokens → Type 0 = Raised (suc m) t in
      all_if P (sees s.Pipe ts) _ _
      (λ h. filter_raises t (drop 1 ts))
      (λ h. all_if P (says (codes "is") ts) _ _
      (λ h2. test_raises (says (codes "not") (drop 1 ts)) t (drop 1 ts))
      (λ h2. tt))

  -- What follows a step of filters and tests from t.
  abbrev scripted : Expr → Option Expr → Reader Expr
  scripted t = again (loop (postscript_step inner (suc m)) m) t

  -- The tree of an owner with its parts, as a step.
  abbrev stepped : Owner → LeveledList → Reader (Option Expr)
  stepped o p w = cap (levels (owning o p)) (suc m) (Some (owning o p)) w

  ends_turn : (t : Expr) (o : Owner) (p : LeveledList) (w : Tokens) → levels t < levels (owning o p)
      → owned o ≡ postscript → (stepped o p w >>= scripted t) ≡ (ends inner (suc m) o p w >>= settled inner (suc m))
  unfolding settled more
  ends_turn t o p w more-levels is =
      let step : Expr → Reader (Option Expr) = postscript_step inner (suc m) in
      cap_turn m step postscript_raises t (owning o p) w more-levels (grown (owned o) (owning o p))
      (settled inner (suc m)) (ap (λ k. more inner (suc m) k (owning o p) w) is)

  arguments_read : (t : Expr) (o : Owner) (v : Tokens) → ((p : LeveledList) → levels t < levels (owning o p))
      → owned o ≡ postscript
      → ((arguments_at inner (suc m) v >>= stepped o) >>= scripted t)
      ≡ (arguments_move inner (suc m) o v >>= onward inner (suc m))
  unfolding arguments_at arguments_move
  arguments_read t o v above is =
      if_two (sees s.LeftParen v) _ _ (stepped o) (scripted t) _ _ (onward inner (suc m))
      (λ h. through (row inner (suc m) (length (drop 1 v)) arguments (drop 1 v)) (stepped o) (scripted t) _
      (λ p w e. ends_turn t o p w (above p) is)
      ∙ sym (opens_reads o arguments (drop 1 v)))
      (λ h. ends_turn t o no_parts v (above no_parts) is ∙ ends_settled o no_parts v)

  filter_reads : (t : Expr) (ts : Tokens)
      → (filter_step inner (suc m) t ts >>= scripted t) ≡ (filter_move inner (suc m) t ts >>= onward inner (suc m))
  unfolding filter_step filter_move
  filter_reads t ts =
      both_through (name_at ts) _ (scripted t) _ (onward inner (suc m))
      (λ x v e. arguments_read t (a_filter t (encode_utf8_all x)) v (λ p. omega arith) refl)

  argument_reads : (t : Expr) (b : Bool) (x : Text) (v : Tokens)
      → (((inner postfix v >>= λ a w. Ok ((expr a no_exprs, no_pairs), w)) >>= stepped (a_test t b x)) >>= scripted t)
      ≡ (inner postfix v >>= rest_of inner (suc m) (in_argument t b x))
  unfolding rest_of resume
  argument_reads t b x v =
      through_two (inner postfix v) _ (stepped (a_test t b x)) (scripted t) _
      (λ a w e. ends_turn t (a_test t b x) (expr a no_exprs, no_pairs) w (omega arith) refl)

  test_reads : (b : Bool) (t : Expr) (ts : Tokens)
      → (test_step inner (suc m) b t ts >>= scripted t) ≡ (test_move inner (suc m) b t ts >>= onward inner (suc m))
  unfolding test_step test_move test_arguments onward
  test_reads b t ts =
      both_through (word_at (past b ts)) _ (scripted t) _ (onward inner (suc m)) (λ x v e.
      let o : Owner = a_test t b (encode_utf8_all x) in
      if_two (begins_argument v) _ _ (stepped o) (scripted t) _ _ (onward inner (suc m))
      (λ h. argument_reads t b (encode_utf8_all x) v)
      (λ h. arguments_read t o v (λ p. omega arith) refl))

  postscript_reads : (t : Expr) (ts : Tokens)
      → more inner (suc m) postscript t ts ≡ (postscript_move inner (suc m) t ts >>= onward inner (suc m))
  unfolding more loop postscript_step postscript_move onward
  postscript_reads t ts =
      if_both (sees s.Pipe ts) _ _ (scripted t) _ _ (onward inner (suc m))
      (λ h. filter_reads t (drop 1 ts))
      (λ h. if_both (says (codes "is") ts) _ _ (scripted t) _ _ (onward inner (suc m))
      (λ h2. test_reads (says (codes "not") (drop 1 ts)) t (drop 1 ts))
      (λ h2. refl))

  -- ---- operators

  -- A chain of operators, given the reader of its operands.
  module _ (k : Level) (operand : Reader Expr) where
    chain_by_raises : (t : Expr) (ts : Tokens) (found : Option (BinaryOperator × Tokens))
        → All (Raised (suc m) t) (reading.chain_by inner (suc m) operand t ts found)
    chain_by_raises t ts None = tt
    chain_by_raises t ts (Some p) = grind (arith, all_bind, raised_cap)

    chain_raises : Raises (suc m) (chain_step inner (suc m) k operand)
    unfolding chain_step
    chain_raises t ts = chain_by_raises t ts (operator k ts)

    abbrev chained : Expr → Option Expr → Reader Expr
    chained t = again (loop (chain_step inner (suc m) k operand) m) t

    chain_by_reads : ((x : Expr) (v : Tokens)
        → settled inner (suc m) (operated k x) v ≡ loop (chain_step inner (suc m) k operand) (suc m) x v)
        → ((v : Tokens) → operand v ≡ read_at inner (suc m) (next k) v)
        → (t : Expr) (ts : Tokens) (found : Option (BinaryOperator × Tokens))
        → (reading.chain_by inner (suc m) operand t ts found >>= chained t)
        ≡ (operated_by inner (suc m) k t ts found >>= onward inner (suc m))
    unfolding onward rest_of resume
    chain_by_reads is reads t ts None = refl
    chain_by_reads is reads t ts (Some p) = grind (arith, through, cap_turn, chain_raises)

    chain_reads : ((x : Expr) (v : Tokens)
        → settled inner (suc m) (operated k x) v ≡ loop (chain_step inner (suc m) k operand) (suc m) x v)
        → ((v : Tokens) → operand v ≡ read_at inner (suc m) (next k) v)
        → (t : Expr) (ts : Tokens) → loop (chain_step inner (suc m) k operand) (suc m) t ts
        ≡ (chain_move inner (suc m) k t ts >>= onward inner (suc m))
    unfolding loop chain_step chain_move
    chain_reads is reads t ts = chain_by_reads is reads t ts (operator k ts)

  compare_reads : (t : Expr) (ts : Tokens) (found : Option (BinaryOperator × Tokens))
      → reading.compare_by inner (suc m) t ts found
      ≡ (operated_by inner (suc m) comparison t ts found >>= onward inner (suc m))
  unfolding onward rest_of resume settled read_at
  compare_reads t ts None = refl
  compare_reads t ts (Some p) =
      bind_same (reading.read_sum inner (suc m) p.1) _ (rest_of inner (suc m) (in_operand comparison p.0 t)) (λ b w e.
      cap_one (levels (binary p.0 t b)) (suc m) (binary p.0 t b) (complete comparison (binary p.0 t b)) w
      (settled inner (suc m)) (λ le. refl))

  if_reads : (t : Expr) (ts : Tokens)
      → if_part inner (suc m) t ts ≡ (if_move inner (suc m) t ts >>= onward inner (suc m))
  unfolding if_part if_move onward rest_of read_at
  if_reads t ts = if_one (says (codes "if") ts) _ _ _ _ (onward inner (suc m)) (λ h. refl) (λ h. refl)

  none_reads : (k : Level) (t : Expr) (ts : Tokens) → operator k ts ≡ None
      → Ok (t, ts) ≡ (chain_move inner (suc m) k t ts >>= onward inner (suc m))
  unfolding chain_move onward
  none_reads k t ts e = sym (ap (λ f. operated_by inner (suc m) k t ts f >>= onward inner (suc m)) e)

  -- What extends a tree of a level is what follows it.
  pub grow_reads : (k : Level) (t : Expr) (ts : Tokens)
      → more inner (suc m) k t ts ≡ (grow inner (suc m) k t ts >>= onward inner (suc m))
  unfolding more grow settled operator chain_move
  grow_reads postfix t ts = postfix_reads t ts
  grow_reads signed t ts = none_reads signed t ts refl
  grow_reads postscript t ts = postscript_reads t ts
  grow_reads power t ts = chain_reads power (read_at inner (suc m) postscript) (λ x v. refl) (λ v. refl) t ts
  grow_reads product t ts = chain_reads product (read_at inner (suc m) power) (λ x v. refl) (λ v. refl) t ts
  grow_reads concatenation t ts =
      chain_reads concatenation (read_at inner (suc m) product) (λ x v. refl) (λ v. refl) t ts
  grow_reads sum t ts = chain_reads sum (read_at inner (suc m) concatenation) (λ x v. refl) (λ v. refl) t ts
  grow_reads comparison t ts = compare_reads t ts (operator comparison ts)
  grow_reads inversion t ts = none_reads inversion t ts refl
  grow_reads conjunction t ts = chain_reads conjunction (read_at inner (suc m) inversion) (λ x v. refl) (λ v. refl) t ts
  grow_reads disjunction t ts =
      chain_reads disjunction (read_at inner (suc m) conjunction) (λ x v. refl) (λ v. refl) t ts
  grow_reads whole t ts = if_reads t ts

  -- ---- forms that have their trees

  operated_settled : (k : Level) (t : Expr) (ts : Tokens)
      → settled inner (suc m) (operated k t) ts ≡ onward inner (suc m) (operated k t) ts
  unfolding settled onward
  operated_settled comparison t ts = refl
  operated_settled _ t ts = refl

  condition_reads : (a t : Expr) (ts : Tokens)
      → else_part inner (suc m) a t ts ≡ (end_condition inner (suc m) a t ts >>= onward inner (suc m))
  unfolding else_part end_condition onward rest_of resume settled
  condition_reads a t ts =
      if_one (says (codes "else") ts) _ _ _ _ (onward inner (suc m))
      (λ h. bind_same (inner whole (drop 1 ts)) _ (rest_of inner (suc m) (in_else a t)) (λ b w e.
      cap_one (levels (choice t a b)) (suc m) (choice t a b) (complete whole (choice t a b)) w (settled inner (suc m))
      (λ le. refl)))
      (λ h.
      cap_one (levels (when t a)) (suc m) (when t a) (complete whole (when t a)) ts (onward inner (suc m)) (λ le. refl))

  -- A form with its tree is the rest of the form.
  pub resume_reads : (f : Form) (t : Expr) (ts : Tokens)
      → rest_of inner (suc m) f t ts ≡ (resume inner (suc m) f t ts >>= onward inner (suc m))
  unfolding rest_of resume end_group end_item end_part settled onward
  resume_reads in_group t ts =
      both_through (expect s.RightParen ts) _ (settled inner (suc m)) _ (onward inner (suc m))
      (λ x v e. grown_settled postfix (group t) v)
  resume_reads (in_part o r turns found k) t ts =
      if_one (sees s.Comma ts) _ _ _ _ (onward inner (suc m))
      (λ h. sym (element_reads o (behind_key r k) turns (then_part found (k, t)) (drop 1 ts)))
      (λ h. sym (through (expect (closer r) ts) _ (onward inner (suc m)) _
      (λ x v e. sym (ends_settled o (then_part found (k, t)) v))))
  resume_reads (in_item a) t ts =
      both_through (expect s.RightBracket ts) _ (settled inner (suc m)) _ (onward inner (suc m))
      (λ x v e. grown_settled postfix (item a t) v)
  resume_reads (in_prefix op) t ts = completed_settled (prefix_level op) (unary op t) ts
  resume_reads (in_argument a b x) t ts = grown_settled postscript (test a b x (expr t no_exprs) no_pairs) ts
  resume_reads (in_else a c) t ts = completed_settled whole (choice c a t) ts
  resume_reads (in_operand k op a) t ts =
      cap_both (levels (binary op a t)) (suc m) (operated k (binary op a t)) (operated k (binary op a t)) ts
      (settled inner (suc m)) (onward inner (suc m)) (λ le. operated_settled k (binary op a t) ts)
  resume_reads (in_condition a) t ts = condition_reads a t ts

  -- ---- prefix operators

  pub prefix_reads : (k : Level) (op : UnaryOperator) (ts : Tokens)
      → (inner k ts >>= λ t v. Ok (unary op t, v)) ≡ (inner k ts >>= rest_of inner (suc m) (in_prefix op))
  unfolding rest_of resume settled
  prefix_reads k op ts = grind (arith, bind_same, cap_none)
