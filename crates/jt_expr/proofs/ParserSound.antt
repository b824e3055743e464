-- The reader is sound: the tokens that it takes spell the tree, which has an allowed number of
-- levels.
use Rattle.std.proofs.Common.{◌≡◌, ℕ, zero, suc, ◌≤◌, nat_le, Bool, true, false, if◌then◌else◌, [], ◌∷◌, ◌++◌, length}
use Rattle.std.proofs.Common.{drop, codes, encode_utf8_all, bytes_eq, refl, sym, ap, subst, ◌∙◌, append_assoc, arith}
use Rattle.std.proofs.Common.{Option, Some, None, Ok, Err, rules}
use Rattle.std.proofs.lemmas.Bool.Decides.{nat_tests}
use Rattle.std.proofs.lemmas.Bool.{not_from_false}
use Rattle.jt_scan.specs.declared.segment.Sign.{Sign}
use Rattle.jt_scan.specs.declared.segment.Sign.TheVariants as s
use Rattle.jt_scan.specs.Cut as cut
use Rattle.jt_scan.specs.Cut.{Token}
use Rattle.jt_ast.specs.declared.expression.UnaryOperator.TheVariants as u
use Rattle.jt_ast.specs.declared.expression.BinaryOperator.{BinaryOperator}
use Rattle.jt_ast.specs.declared.expression.BinaryOperator.TheVariants as o
use Rattle.jt_ast.specs.Expressions.{Text, Literal, Expr, group, list_of, map_of, attribute, item, call, filter, test}
use Rattle.jt_ast.specs.Expressions.{unary, binary, when, choice, no_exprs, expr, no_pairs, levels}
use Rattle.jt_expr.specs.Grammar.{Tokens, word, is_reserved, literal_of, names_test, Level, whole, disjunction}
use Rattle.jt_expr.specs.Grammar.{conjunction, inversion, comparison, sum, concatenation, product, power, postscript}
use Rattle.jt_expr.specs.Grammar.{signed, postfix, next, is_chain, level_of, operator_tokens, is_tokens}
use Rattle.jt_expr.specs.Grammar.{begins_argument, SequenceKind, items, entries, arguments, keywords, closer}
use Rattle.jt_expr.specs.Grammar.{takes_plain, takes_names, behind_key, LeveledList, no_parts, put, Spells, plain}
use Rattle.jt_expr.specs.Grammar.{an_if, an_if_else, chain, inverted, upright, compared, alone, postscripts, minus}
use Rattle.jt_expr.specs.Grammar.{plus, unsigned, postfixes, Goes, stay, operated, filtered, tested, attributed}
use Rattle.jt_expr.specs.Grammar.{indexed, called, Primary, a_number, a_text, a_constant, a_name, a_group, a_list}
use Rattle.jt_expr.specs.Grammar.{a_map, Arguments, without, within, TestArguments, as_filter, bare, Holds, closed}
use Rattle.jt_expr.specs.Grammar.{last, more, IsPart, without_key, an_entry, by_name}
use Rattle.jt_expr.specs.internal.Reading as r
use Rattle.jt_expr.specs.Front.{sees, says, past}
use Rattle.jt_expr.specs.internal.Reading.{cap, Reader, ParseResult, ◌>>=◌, operator, key_at, keyword, entry_key, read}
use Rattle.jt_expr.specs.internal.Reading.{read_at, again, loop, chain_step, chain_by, filter_step, test_step}
use Rattle.jt_expr.specs.internal.Reading.{postscript_step, postfix_step, read_whole, read_disjunction}
use Rattle.jt_expr.specs.internal.Reading.{read_conjunction, read_inversion, read_comparison, read_sum}
use Rattle.jt_expr.specs.internal.Reading.{read_concatenation, read_product, read_power, read_postscript, read_signed}
use Rattle.jt_expr.specs.internal.Reading.{read_postfix, expect, word_at, name_at, unreserved, if_part, else_part}
use Rattle.jt_scan.proofs.ParseResultSteps.{by_test}
use Rattle.jt_expr.proofs.FirstTokenTests.{says_sound, sees_sound}
use Rattle.jt_expr.proofs.FirstTokens.{begins, begins_primary}
use Rattle.jt_expr.specs.Promises.{parts_levels}
use Rattle.jt_expr.proofs.ParserComplete.{with_key, put_levels}

-- ---- steps

bind_ok : {A B : Type 0} (o : ParseResult A) (f : A → Reader B) (b : B) (rest : Tokens) → (o >>= f) ≡ Ok (b, rest)
    → (a : A) × (v : Tokens) × (o ≡ Ok (a, v)) × (f a v ≡ Ok (b, rest))
bind_ok (Ok p) f b rest e = (p.0, p.1, refl, e)
bind_ok (Err x) f b rest e = cc

-- Equal results have equal values and equal rests.
ok_parts : {A : Type 0} {a b : A} {v w : Tokens} → ◌≡◌ {A = ParseResult A} (Ok (a, v)) (Ok (b, w)) → (a ≡ b) × (v ≡ w)
ok_parts {A} {a} {b} {v} {w} e =
    let p : (a, v) ≡ (b, w) = cc in (ap (λ (q : A × Tokens). q.0) p, ap (λ (q : A × Tokens). q.1) p)

some_pair : {A : Type 0} {a b : A} {v w : Tokens} → ◌≡◌ {A = Option (A × Tokens)} (Some (a, v)) (Some (b, w))
    → (a ≡ b) × (v ≡ w)
some_pair {A} {a} {b} {v} {w} e =
    let p : (a, v) ≡ (b, w) = cc in (ap (λ (q : A × Tokens). q.0) p, ap (λ (q : A × Tokens). q.1) p)

cap_ok : {A : Type 0} (l n : ℕ) (a b : A) (v w : Tokens) → cap l n a v ≡ Ok (b, w) → (l ≤ n) × (a ≡ b) × (v ≡ w)
cap_ok {A} l n a b v w e = search (arith, rules, by_test, nat_le, ok_parts, nat_tests)

some_is : {A : Type 0} {a b : A} → ◌≡◌ {A = Option A} (Some a) (Some b) → a ≡ b
some_is e = cc

no_some : {A B : Type 0} (a : A) (v w : Tokens) → ◌≡◌ {A = ParseResult (Option A)} (Ok (None, v)) (Ok (Some a, w)) → B
no_some a v w e = let p = (ok_parts e).0 in absurd (cc)

no_cap : {A B : Type 0} (l n : ℕ) (a : A) (v w : Tokens) → cap l n (Some a) v ≡ Ok (None, w) → B
no_cap l n a v w e = let q = cap_ok l n (Some a) None v w e in let p = q.1 in absurd (cc)

expect_sound : (k : Sign) (ts v : Tokens) (x : Unit {0}) → expect k ts ≡ Ok (x, v) → ts ≡ cut.sign k ∷ v
unfolding expect
expect_sound k ts v x e = search (arith, rules, by_test, sees_sound, ok_parts)

pub word_sound : (ts v : Tokens) (x : Text) → word_at ts ≡ Ok (x, v) → ts ≡ cut.name x ∷ v
unfolding word_at
word_sound ts v x e = search (arith, rules, ok_parts)

expect_bind : {B : Type 0} (k : Sign) (ts : Tokens) (f : Unit {0} → Reader B) (b : B) (rest : Tokens)
    → (expect k ts >>= f) ≡ Ok (b, rest) → (v : Tokens) × (ts ≡ cut.sign k ∷ v) × (f tt v ≡ Ok (b, rest))
expect_bind k ts f b rest e = search (arith, rules, bind_ok, expect_sound)

word_bind : {B : Type 0} (ts : Tokens) (f : Text → Reader B) (b : B) (rest : Tokens) → (word_at ts >>= f) ≡ Ok (b, rest)
    → (x : Text) × (v : Tokens) × (ts ≡ cut.name x ∷ v) × (f x v ≡ Ok (b, rest))
word_bind ts f b rest e = search (arith, rules, bind_ok, word_sound)

pub name_sound : (ts v : Tokens) (x : Text) → name_at ts ≡ Ok (x, v) → (ts ≡ cut.name x ∷ v) × (is_reserved x ≡ false)
unfolding name_at
name_sound ts v x e = search (arith, rules, bind_ok, by_test, ok_parts, word_sound)

name_bind : {B : Type 0} (ts : Tokens) (f : Text → Reader B) (b : B) (rest : Tokens) → (name_at ts >>= f) ≡ Ok (b, rest)
    → (x : Text) × (v : Tokens) × (ts ≡ cut.name x ∷ v) × (is_reserved x ≡ false) × (f x v ≡ Ok (b, rest))
name_bind ts f b rest e = search (arith, rules, bind_ok, name_sound)

-- ---- operators

-- An operator of one token.
one_token : (t : Token) (made op : BinaryOperator) (ts v : Tokens) → ts ≡ t ∷ drop 1 ts
    → ◌≡◌ {A = Option (BinaryOperator × Tokens)} (Some (made, drop 1 ts)) (Some (op, v)) → {k : Level}
    → level_of made ≡ k → operator_tokens made ≡ t ∷ []
    → (ts ≡ operator_tokens op ++ v) × (level_of op ≡ k)
one_token t made op ts v h e {k} l same = search (arith, rules, some_pair)

none_some : {A B : Type 0} (a : A) → ◌≡◌ {A = Option A} None (Some a) → B
none_some a e = absurd (cc)

not_in_sound : (op : BinaryOperator) (ts v : Tokens) → r.not_in ts ≡ Some (op, v)
    → (ts ≡ operator_tokens op ++ v) × (level_of op ≡ comparison)
not_in_sound op ts v e = search (arith, rules, by_test, some_pair, says_sound, none_some)

-- A test for one token, and what follows it.
test_or : {k : Level} {t : Token} {op : BinaryOperator} {ts v : Tokens} {b : Bool}
    {other : Option (BinaryOperator × Tokens)} (made : BinaryOperator)
    → (if b then Some (made, drop 1 ts) else other) ≡ Some (op, v) → (b ≡ true → ts ≡ t ∷ drop 1 ts)
    → level_of made ≡ k → operator_tokens made ≡ t ∷ []
    → (other ≡ Some (op, v) → (ts ≡ operator_tokens op ++ v) × (level_of op ≡ k))
    → (ts ≡ operator_tokens op ++ v) × (level_of op ≡ k)
test_or {b = true} made e is l same g = one_token _ made _ _ _ (is refl) e l same
test_or {b = false} made e is l same g = g e

pub operator_sound : (k : Level) (op : BinaryOperator) (ts v : Tokens) → operator k ts ≡ Some (op, v)
    → (ts ≡ operator_tokens op ++ v) × (level_of op ≡ k)
unfolding operator
operator_sound whole op ts v e = cc
operator_sound disjunction op ts v e = test_or o.Or e (says_sound (codes "or") ts) refl refl (none_some (op, v))
operator_sound conjunction op ts v e = test_or o.And e (says_sound (codes "and") ts) refl refl (none_some (op, v))
operator_sound inversion op ts v e = cc
operator_sound comparison op ts v e =
    test_or o.Equal e (sees_sound s.Equal ts) refl refl (λ e.
    test_or o.NotEqual e (sees_sound s.NotEqual ts) refl refl (λ e.
    test_or o.Less e (sees_sound s.Less ts) refl refl (λ e.
    test_or o.LessOrEqual e (sees_sound s.LessEqual ts) refl refl (λ e.
    test_or o.Greater e (sees_sound s.Greater ts) refl refl (λ e.
    test_or o.GreaterOrEqual e (sees_sound s.GreaterEqual ts) refl refl (λ e.
    test_or o.In e (says_sound (codes "in") ts) refl refl (not_in_sound op ts v)))))))
operator_sound sum op ts v e =
    test_or o.Add e (sees_sound s.Plus ts) refl refl (λ e.
    test_or o.Subtract e (sees_sound s.Minus ts) refl refl (none_some (op, v)))
operator_sound concatenation op ts v e = test_or o.Concatenate e (sees_sound s.Tilde ts) refl refl (none_some (op, v))
operator_sound product op ts v e =
    test_or o.Multiply e (sees_sound s.Times ts) refl refl (λ e.
    test_or o.FloorDivide e (sees_sound s.FloorDivide ts) refl refl (λ e.
    test_or o.Remainder e (sees_sound s.Percent ts) refl refl (none_some (op, v))))
operator_sound power op ts v e = test_or o.Power e (sees_sound s.Power ts) refl refl (none_some (op, v))
operator_sound postscript op ts v e = cc
operator_sound signed op ts v e = cc
operator_sound postfix op ts v e = cc

is_sound : (b : Bool) (ts v : Tokens) (x : Text) → says (codes "is") ts ≡ true → says (codes "not") (drop 1 ts) ≡ b
    → past b (drop 1 ts) ≡ cut.name x ∷ v → (ts ≡ is_tokens b ++ (cut.name x ∷ v)) × (names_test b x ≡ true)
is_sound true ts v x h b p = search (arith, rules, says_sound)
is_sound false ts v x h b p = search (arith, rules, says_sound, not_from_false, bytes_eq)

-- ---- trees that are found

abbrev pub Found : Level → ℕ → Expr → Tokens → Tokens → Type 0
Found k n t ts rest = (x : Tokens) × (ts ≡ x ++ rest) × Spells k t x × (levels t ≤ n)

abbrev FoundOn : Level → ℕ → Expr → Expr → Tokens → Tokens → Type 0
FoundOn k n a t ts rest = (y : Tokens) × (ts ≡ y ++ rest) × Goes k a t y × (levels t ≤ n)

abbrev FoundPrimary : ℕ → Expr → Tokens → Tokens → Type 0
FoundPrimary n t ts rest = (x : Tokens) × (ts ≡ x ++ rest) × Primary t x × (levels t ≤ n)

abbrev FoundPart : SequenceKind → ℕ → Option Text × Expr → Tokens → Tokens → Type 0
FoundPart w n q ts rest = (x : Tokens) × (ts ≡ x ++ rest) × IsPart w q.0 q.1 x × (levels q.1 ≤ n)

abbrev FoundRow : SequenceKind → ℕ → LeveledList → Tokens → Tokens → Type 0
FoundRow w n p ts rest = (x : Tokens) × (ts ≡ x ++ rest) × Holds w p x × (parts_levels p ≤ n)

abbrev pub FoundArguments : ℕ → LeveledList → Tokens → Tokens → Type 0
FoundArguments n p ts rest = (x : Tokens) × (ts ≡ x ++ rest) × Arguments p x × (parts_levels p ≤ n)

abbrev FoundTestArguments : ℕ → LeveledList → Tokens → Tokens → Type 0
FoundTestArguments n p ts rest = (x : Tokens) × (ts ≡ x ++ rest) × TestArguments p x × (parts_levels p ≤ n)

-- The tokens of one part, followed by those of another one.
joined : (ts v rest x y : Tokens) → ts ≡ x ++ v → v ≡ y ++ rest → ts ≡ (x ++ y) ++ rest
joined ts v rest x y e f = e ∙ ap (λ w. x ++ w) f ∙ sym (append_assoc x y rest)

-- ---- keys

abbrev KeyFound : SequenceKind → Tokens → Text → Tokens → Type 0
KeyFound w ts k v =
    (z : Tokens) × (ts ≡ z ++ v) × ((t : Expr) (x : Tokens) → Spells whole t x → IsPart w (Some k) t (z ++ x))

entry_sound : (ts v : Tokens) (k : Text) → entry_key ts ≡ Some (k, v) → KeyFound entries ts k v
unfolding entry_key
entry_sound [] v k e = none_some (k, v) e
entry_sound (cut.name x ∷ ts) v k e = none_some (k, v) e
entry_sound (cut.number m ∷ ts) v k e = none_some (k, v) e
entry_sound (cut.text x ∷ ts) v k e =
    by_test (sees s.Colon ts) _ _ _ e
    (λ h q. let p = some_pair q in
    subst (λ j. KeyFound entries (cut.text x ∷ ts) j v) p.0 (
      cut.text x ∷ cut.sign s.Colon ∷ [],
      ap (λ z. cut.text x ∷ z) (sees_sound s.Colon ts h ∙ ap (λ z. cut.sign s.Colon ∷ z) p.1),
      λ t y d. an_entry d,
    ))
    (λ h q. none_some (k, v) q)
entry_sound (cut.sign j ∷ ts) v k e = none_some (k, v) e

keyword_sound : (w : SequenceKind) → takes_names w ≡ true → (ts v : Tokens) (k : Text) → keyword ts ≡ Some (k, v)
    → KeyFound w ts k v
unfolding keyword
keyword_sound w names [] v k e = none_some (k, v) e
keyword_sound w names (cut.name x ∷ ts) v k e =
    by_test (is_reserved x) _ _ _ e
    (λ h q. none_some (k, v) q)
    (λ h q. by_test (sees s.Assign ts) _ _ _ q
    (λ h2 q2. let p = some_pair q2 in
    subst (λ j. KeyFound w (cut.name x ∷ ts) j v) p.0 (
      cut.name x ∷ cut.sign s.Assign ∷ [],
      ap (λ z. cut.name x ∷ z) (sees_sound s.Assign ts h2 ∙ ap (λ z. cut.sign s.Assign ∷ z) p.1),
      λ t y d. by_name names h d,
    ))
    (λ h2 q2. none_some (k, v) q2))
keyword_sound w names (cut.number m ∷ ts) v k e = none_some (k, v) e
keyword_sound w names (cut.text x ∷ ts) v k e = none_some (k, v) e
keyword_sound w names (cut.sign j ∷ ts) v k e = none_some (k, v) e

key_sound : (w : SequenceKind) (ts v : Tokens) (k : Text) → key_at w ts ≡ Some (k, v) → KeyFound w ts k v
key_sound w ts v k e = search (arith, rules, none_some, entry_sound, keyword_sound)

-- ---- sequences of one kind

item_plain : {w : SequenceKind} {k : Option Text} {t : Expr} {x : Tokens} → IsPart w k t x → w ≡ items → k ≡ None
item_plain (without_key h d) e = refl
item_plain (an_entry d) e = absurd (cc)
item_plain (by_name {r = w} h g d) e =
    let q : takes_names items ≡ true = subst (λ z. takes_names z ≡ true) e h in absurd (cc)

pub items_plain : {w : SequenceKind} {p : LeveledList} {x : Tokens} → Holds w p x → w ≡ items → p.1 ≡ no_pairs
items_plain closed e = refl
items_plain (last {r = w} {k} {t} {x} d) e = subst (λ j. (put j t no_parts).1 ≡ no_pairs) (sym (item_plain d e)) refl
items_plain (more {r = w} {k} {t} {p} {x} {y} d g) e = search (arith, rules, item_plain, items_plain g)

entry_keyed : {w : SequenceKind} {k : Option Text} {t : Expr} {x : Tokens} → IsPart w k t x → w ≡ entries
    → (j : Text) × (k ≡ Some j)
entry_keyed (without_key {r = w} h d) e =
    let q : takes_plain entries ≡ true = subst (λ z. takes_plain z ≡ true) e h in absurd (cc)
entry_keyed (an_entry {v} d) e = (encode_utf8_all v, refl)
entry_keyed (by_name {r = w} {n} h g d) e = (encode_utf8_all n, refl)

pub entries_keyed : {w : SequenceKind} {p : LeveledList} {x : Tokens} → Holds w p x → w ≡ entries → p.0 ≡ no_exprs
entries_keyed closed e = refl
entries_keyed (last {r = w} {k} {t} {x} d) e =
    let j = entry_keyed d e in subst (λ i. (put i t no_parts).0 ≡ no_exprs) (sym j.1) refl
entries_keyed (more {r = w} {k} {t} {p} {x} {y} d g) e = search (arith, rules, entry_keyed, entries_keyed g)

module _ (inner : Level → Reader Expr) (n : ℕ)
    (sound : (k : Level) (t : Expr) (ts rest : Tokens) → inner k ts ≡ Ok (t, rest) → Found k n t ts rest) where
  -- ---- sequences in brackets

  part_by_sound : (w : SequenceKind) (q : Option Text × Expr) (ts rest : Tokens) (found : Option (Text × Tokens))
      → key_at w ts ≡ found → r.part_by inner (suc n) w ts found ≡ Ok (q, rest) → FoundPart w n q ts rest
  part_by_sound w q ts rest None f e =
      by_test (takes_plain w) _ _ _ e
      (λ h k.
      let a = bind_ok (inner whole ts) (with_key None) q rest k in
      let p = ok_parts a.3 in
      let d = sound whole a.0 ts a.1 a.2 in
      subst (λ z. FoundPart w n z ts rest) p.0 (d.0, d.1 ∙ ap (λ z. d.0 ++ z) p.1, without_key h d.2, d.3))
      (λ h k. absurd (cc))
  part_by_sound w q ts rest (Some g) f e =
      let a = bind_ok (inner whole g.1) (with_key (Some g.0)) q rest e in
      let p = ok_parts a.3 in
      let d = sound whole a.0 g.1 a.1 a.2 in
      let k = key_sound w ts g.1 g.0 f in
      subst (λ z. FoundPart w n z ts rest) p.0
      (k.0 ++ d.0, joined ts g.1 rest k.0 d.0 k.1 (d.1 ∙ ap (λ z. d.0 ++ z) p.1), k.2 a.0 d.0 d.2, d.3)

  part_sound : (w : SequenceKind) (q : Option Text × Expr) (ts rest : Tokens) → r.part inner (suc n) w ts ≡ Ok (q, rest)
      → FoundPart w n q ts rest
  unfolding r.part
  part_sound w q ts rest e = part_by_sound w q ts rest (key_at w ts) refl e

  pub row_sound : (turns : ℕ) (w : SequenceKind) (p : LeveledList) (ts rest : Tokens)
      → r.row inner (suc n) turns w ts ≡ Ok (p, rest) → FoundRow w n p ts rest
  unfolding r.row
  row_sound zero w p ts rest e = cc
  row_sound (suc turns) w p ts rest e =
      by_test (sees (closer w) ts) _ _ _ e
      (λ h k. let q = ok_parts k in
      subst (λ z. FoundRow w n z ts rest) q.0 (
        cut.sign (closer w) ∷ [],
        sees_sound (closer w) ts h ∙ ap (λ z. cut.sign (closer w) ∷ z) q.1,
        closed,
        omega arith,
      ))
      (λ h k.
      let f : Option Text × Expr → Reader LeveledList = λ g v.
      if sees s.Comma v then (r.row inner (suc n) turns (behind_key w g.0) (drop 1 v) >>= λ q z. Ok (put g.0 g.1 q, z))
      else (expect (closer w) v >>= λ _ z. Ok (put g.0 g.1 no_parts, z)) in
      let a = bind_ok (r.part inner (suc n) w ts) f p rest k in
      let key = (a.0).0 in
      let made = (a.0).1 in
      let d = part_sound w a.0 ts a.1 a.2 in
      by_test (sees s.Comma a.1) _ _ _ a.3
      (λ h2 k2.
      let c : LeveledList → Reader LeveledList = λ q z. Ok (put key made q, z) in
      let b = bind_ok (r.row inner (suc n) turns (behind_key w key) (drop 1 a.1)) c p rest k2 in
      let q = ok_parts b.3 in
      let g = row_sound turns (behind_key w key) b.0 (drop 1 a.1) b.1 b.2 in
      subst (λ z. FoundRow w n z ts rest) q.0 (
        d.0 ++ (cut.sign s.Comma ∷ g.0),
        joined ts a.1 rest d.0 (cut.sign s.Comma ∷ g.0) d.1
            (sees_sound s.Comma a.1 h2 ∙ ap (λ z. cut.sign s.Comma ∷ z) (g.1 ∙ ap (λ z. g.0 ++ z) q.1)),
        more d.2 g.2,
        omega (arith, put_levels key made b.0),
      ))
      (λ h2 k2.
      let c : Unit {0} → Reader LeveledList = λ _ z. Ok (put key made no_parts, z) in
      let b = expect_bind (closer w) a.1 c p rest k2 in
      let q = ok_parts b.2 in
      subst (λ z. FoundRow w n z ts rest) q.0 (
        d.0 ++ (cut.sign (closer w) ∷ []),
        joined ts a.1 rest d.0 (cut.sign (closer w) ∷ []) d.1 (b.1 ∙ ap (λ z. cut.sign (closer w) ∷ z) q.1),
        last d.2,
        omega (arith, put_levels key made no_parts),
      )))

  -- ---- primaries

  group_sound : (t : Expr) (ts rest : Tokens)
      → (inner whole ts >>= λ t v. expect s.RightParen v >>= λ _ w. Ok (group t, w)) ≡ Ok (t, rest)
      → FoundPrimary (suc n) t (cut.sign s.LeftParen ∷ ts) rest
  group_sound t ts rest e =
      let a = bind_ok (inner whole ts) (λ t v. expect s.RightParen v >>= λ _ w. Ok (group t, w)) t rest e in
      let q = expect_bind s.RightParen a.1 (λ _ w. Ok (group a.0, w)) t rest a.3 in
      let p = ok_parts q.2 in
      let d = sound whole a.0 ts a.1 a.2 in
      subst (λ v. FoundPrimary (suc n) v (cut.sign s.LeftParen ∷ ts) rest) p.0 (
        cut.sign s.LeftParen ∷ (d.0 ++ cut.sign s.RightParen ∷ []),
        ap (λ w. cut.sign s.LeftParen ∷ w)
            (joined ts a.1 rest d.0 (cut.sign s.RightParen ∷ []) d.1 (q.1 ∙ ap (λ w. cut.sign s.RightParen ∷ w) p.1)),
        a_group d.2,
        omega arith,
      )

  list_sound : (t : Expr) (ts rest : Tokens)
      → (r.row inner (suc n) (length ts) items ts >>= λ p v. Ok (list_of p.0, v)) ≡ Ok (t, rest)
      → FoundPrimary (suc n) t (cut.sign s.LeftBracket ∷ ts) rest
  list_sound t ts rest e =
      let a = bind_ok (r.row inner (suc n) (length ts) items ts) (λ p v. Ok (list_of p.0, v)) t rest e in
      let p = ok_parts a.3 in
      let d = row_sound (length ts) items a.0 ts a.1 a.2 in
      let held : Holds items ((a.0).0, no_pairs) d.0 =
      subst (λ ps. Holds items ((a.0).0, ps) d.0) (items_plain d.2 refl) d.2 in
      subst (λ v. FoundPrimary (suc n) v (cut.sign s.LeftBracket ∷ ts) rest) p.0 (
        cut.sign s.LeftBracket ∷ d.0,
        ap (λ w. cut.sign s.LeftBracket ∷ w) (d.1 ∙ ap (λ w. d.0 ++ w) p.1),
        a_list held,
        omega (arith, d.3),
      )

  map_sound : (t : Expr) (ts rest : Tokens)
      → (r.row inner (suc n) (length ts) entries ts >>= λ p v. Ok (map_of p.1, v)) ≡ Ok (t, rest)
      → FoundPrimary (suc n) t (cut.sign s.LeftBrace ∷ ts) rest
  map_sound t ts rest e =
      let a = bind_ok (r.row inner (suc n) (length ts) entries ts) (λ p v. Ok (map_of p.1, v)) t rest e in
      let p = ok_parts a.3 in
      let d = row_sound (length ts) entries a.0 ts a.1 a.2 in
      let held : Holds entries (no_exprs, (a.0).1) d.0 =
      subst (λ es. Holds entries (es, (a.0).1) d.0) (entries_keyed d.2 refl) d.2 in
      subst (λ v. FoundPrimary (suc n) v (cut.sign s.LeftBrace ∷ ts) rest) p.0 (
        cut.sign s.LeftBrace ∷ d.0,
        ap (λ w. cut.sign s.LeftBrace ∷ w) (d.1 ∙ ap (λ w. d.0 ++ w) p.1),
        a_map held,
        omega (arith, d.3),
      )

  opened_sound : (k : Sign) (t : Expr) (ts rest : Tokens) → r.opened inner (suc n) k ts ≡ Ok (t, rest)
      → FoundPrimary (suc n) t (cut.sign k ∷ ts) rest
  unfolding r.opened
  opened_sound k t ts rest e = search (arith, rules, group_sound, list_sound, map_sound)

  word_by_sound : (o : Option Literal) (x : Text) (t : Expr) (ts rest : Tokens) → literal_of x ≡ o
      → r.word_by inner (suc n) o x ts ≡ Ok (t, rest) → FoundPrimary (suc n) t (cut.name x ∷ ts) rest
  word_by_sound (Some l) x t ts rest f e =
      let p = ok_parts e in
      subst (λ v. FoundPrimary (suc n) v (cut.name x ∷ ts) rest) p.0
      (cut.name x ∷ [], ap (λ w. cut.name x ∷ w) p.1, a_constant f, omega arith)
  word_by_sound None x t ts rest f e =
      by_test (is_reserved x) _ _ _ e
      (λ h k. absurd (cc))
      (λ h k. let p = ok_parts k in
      subst (λ v. FoundPrimary (suc n) v (cut.name x ∷ ts) rest) p.0
      (cut.name x ∷ [], ap (λ w. cut.name x ∷ w) p.1, a_name h, omega arith))

  primary_sound : (t : Expr) (ts rest : Tokens) → r.primary inner (suc n) ts ≡ Ok (t, rest)
      → FoundPrimary (suc n) t ts rest
  unfolding r.primary
  primary_sound t [] rest e = cc
  primary_sound t (cut.name x ∷ ts) rest e = word_by_sound (literal_of x) x t ts rest refl e
  primary_sound t (cut.number m ∷ ts) rest e =
      let p = ok_parts e in
      subst (λ v. FoundPrimary (suc n) v (cut.number m ∷ ts) rest) p.0
      (cut.number m ∷ [], ap (λ w. cut.number m ∷ w) p.1, a_number, omega arith)
  primary_sound t (cut.text x ∷ ts) rest e =
      let p = ok_parts e in
      subst (λ v. FoundPrimary (suc n) v (cut.text x ∷ ts) rest) p.0
      (cut.text x ∷ [], ap (λ w. cut.text x ∷ w) p.1, a_text, omega arith)
  primary_sound t (cut.sign k ∷ ts) rest e = opened_sound k t ts rest e

  -- ---- loops

  -- A tree that stays unchanged.
  stays : (k : Level) (a t : Expr) (ts rest : Tokens) → levels a ≤ suc n
      → ◌≡◌ {A = ParseResult Expr} (Ok (a, ts)) (Ok (t, rest)) → FoundOn k (suc n) a t ts rest
  stays k a t ts rest le e = let p = ok_parts e in subst (λ v. FoundOn k (suc n) a v ts rest) p.0 ([], p.1, stay, le)

  -- A step extends a tree to a new one.
  abbrev Steps : Level → Expr → Expr → Tokens → Tokens → Type 0
  Steps k a new ts v =
      (levels new ≤ suc n)
      × ((t : Expr) (rest : Tokens) → FoundOn k (suc n) new t v rest → FoundOn k (suc n) a t ts rest)

  -- The steps follow the grammar.
  record StepSound (k : Level) (step : Expr → Reader (Option Expr)) : Type 0 where
    grows : (a new : Expr) (ts v : Tokens) → step a ts ≡ Ok (Some new, v) → Steps k a new ts v
    stops : (a : Expr) (ts v : Tokens) → step a ts ≡ Ok (None, v) → ts ≡ v

  loop_sound : (k : Level) (step : Expr → Reader (Option Expr)) → StepSound k step
      → (turns : ℕ) (a t : Expr) (ts rest : Tokens) → levels a ≤ suc n → loop step turns a ts ≡ Ok (t, rest)
      → FoundOn k (suc n) a t ts rest
  unfolding loop
  loop_sound k step z zero a t ts rest le e = cc
  loop_sound k step z (suc turns) a t ts rest le e =
      let b = bind_ok (step a ts) (again (loop step turns) a) t rest e in
      went (loop_sound k step z turns) b.0 b.1 b.2 b.3
    where
      went : ((new t : Expr) (v rest : Tokens) → levels new ≤ suc n → loop step turns new v ≡ Ok (t, rest)
          → FoundOn k (suc n) new t v rest)
          → (o : Option Expr) (v : Tokens) → step a ts ≡ Ok (o, v) → again (loop step turns) a o v ≡ Ok (t, rest)
          → FoundOn k (suc n) a t ts rest
      went further None v f g =
          subst (λ y. FoundOn k (suc n) a t y rest) (sym (z.stops a ts v f)) (stays k a t v rest le g)
      went further (Some new) v f g = let d = z.grows a new ts v f in d.1 t rest (further new t v rest d.0 g)

  -- The new tree of a step has an allowed number of levels.
  capped : (k : Level) (a made new : Expr) (ts v w : Tokens)
      → cap (levels made) (suc n) (Some made) w ≡ Ok (Some new, v)
      → ((t : Expr) (rest : Tokens) → FoundOn k (suc n) made t w rest → FoundOn k (suc n) a t ts rest)
      → Steps k a new ts v
  capped k a made new ts v w e f = search (arith, rules, cap_ok, some_is)

  -- ---- postfix forms

  attribute_sound : (a t : Expr) (x : Text) (ts v rest : Tokens) → sees s.Dot ts ≡ true → drop 1 ts ≡ cut.name x ∷ v
      → FoundOn postfix (suc n) (attribute a (encode_utf8_all x)) t v rest → FoundOn postfix (suc n) a t ts rest
  attribute_sound a t x ts v rest h w g = (
    cut.sign s.Dot ∷ cut.name x ∷ g.0,
    sees_sound s.Dot ts h ∙ ap (λ z. cut.sign s.Dot ∷ z) (w ∙ ap (λ z. cut.name x ∷ z) g.1),
    attributed g.2,
    g.3,
  )

  index_sound : (a t i : Expr) (ts v w rest : Tokens) → sees s.LeftBracket ts ≡ true → Found whole n i (drop 1 ts) v
      → v ≡ cut.sign s.RightBracket ∷ w → FoundOn postfix (suc n) (item a i) t w rest
      → FoundOn postfix (suc n) a t ts rest
  index_sound a t i ts v w rest h d q g = (
    cut.sign s.LeftBracket ∷ (d.0 ++ (cut.sign s.RightBracket ∷ g.0)),
    sees_sound s.LeftBracket ts h ∙ ap (λ z. cut.sign s.LeftBracket ∷ z)
        (joined (drop 1 ts) v rest d.0 (cut.sign s.RightBracket ∷ g.0) d.1
        (q ∙ ap (λ z. cut.sign s.RightBracket ∷ z) g.1)),
    indexed d.2 g.2,
    g.3,
  )

  call_sound : (a t : Expr) (p : LeveledList) (ts v rest : Tokens) → sees s.LeftParen ts ≡ true
      → FoundRow arguments n p (drop 1 ts) v → FoundOn postfix (suc n) (call a p.0 p.1) t v rest
      → FoundOn postfix (suc n) a t ts rest
  call_sound a t p ts v rest h d g = (
    cut.sign s.LeftParen ∷ (d.0 ++ g.0),
    sees_sound s.LeftParen ts h ∙ ap (λ z. cut.sign s.LeftParen ∷ z) (joined (drop 1 ts) v rest d.0 g.0 d.1 g.1),
    called d.2 g.2,
    g.3,
  )

  postfix_grows : (a new : Expr) (ts v : Tokens) → postfix_step inner (suc n) a ts ≡ Ok (Some new, v)
      → Steps postfix a new ts v
  unfolding postfix_step
  postfix_grows a new ts v e =
      by_test (sees s.Dot ts) _ _ _ e
      (λ h k.
      let w = word_bind (drop 1 ts)
      (λ x v. cap (levels (attribute a (encode_utf8_all x))) (suc n) (Some (attribute a (encode_utf8_all x))) v)
      (Some new) v k in
      capped postfix a (attribute a (encode_utf8_all w.0)) new ts v w.1 w.3
      (λ t rest g. attribute_sound a t w.0 ts w.1 rest h w.2 g))
      (λ h k. by_test (sees s.LeftBracket ts) _ _ _ k
      (λ h2 k2.
      let b = bind_ok (inner whole (drop 1 ts))
      (λ i v. expect s.RightBracket v >>= λ _ w. cap (levels (item a i)) (suc n) (Some (item a i)) w) (Some new) v k2 in
      let q = expect_bind s.RightBracket b.1 (λ _ w. cap (levels (item a b.0)) (suc n) (Some (item a b.0)) w) (Some new)
      v b.3 in
      capped postfix a (item a b.0) new ts v q.0 q.2
      (λ t rest g. index_sound a t b.0 ts b.1 q.0 rest h2 (sound whole b.0 (drop 1 ts) b.1 b.2) q.1 g))
      (λ h2 k2. by_test (sees s.LeftParen ts) _ _ _ k2
      (λ h3 k3.
      let f : LeveledList → Reader (Option Expr) =
      λ p v. cap (levels (call a p.0 p.1)) (suc n) (Some (call a p.0 p.1)) v in
      let b = bind_ok (r.row inner (suc n) (length (drop 1 ts)) arguments (drop 1 ts)) f (Some new) v k3 in
      capped postfix a (call a (b.0).0 (b.0).1) new ts v b.1 b.3
      (λ t rest g.
      call_sound a t b.0 ts b.1 rest h3 (row_sound (length (drop 1 ts)) arguments b.0 (drop 1 ts) b.1 b.2) g))
      (λ h3 k3. no_some new ts v k3)))

  postfix_stops : (a : Expr) (ts v : Tokens) → postfix_step inner (suc n) a ts ≡ Ok (None, v) → ts ≡ v
  unfolding postfix_step
  postfix_stops a ts v e =
      search (arith, rules, by_test, word_bind, encode_utf8_all, no_cap, bind_ok, expect_bind, ok_parts)

  postfix_sound : (t : Expr) (ts rest : Tokens) → read_postfix inner (suc n) ts ≡ Ok (t, rest)
      → Found postfix (suc n) t ts rest
  unfolding read_postfix
  postfix_sound t ts rest e =
      let a = bind_ok (r.primary inner (suc n) ts) (loop (postfix_step inner (suc n)) (suc n)) t rest e in
      let d = primary_sound a.0 ts a.1 a.2 in
      let g = loop_sound postfix (postfix_step inner (suc n)) (record { grows = postfix_grows; stops = postfix_stops })
      (suc n) a.0 t a.1 rest d.3 a.3 in
      (d.0 ++ g.0, joined ts a.1 rest d.0 g.0 d.1 g.1, postfixes d.2 g.2, g.3)

  signed_sound : (t : Expr) (ts rest : Tokens) → read_signed inner (suc n) ts ≡ Ok (t, rest)
      → Found signed (suc n) t ts rest
  unfolding read_signed
  signed_sound t ts rest e =
      by_test (sees s.Minus ts) _ _ _ e
      (λ h k.
      let a = bind_ok (inner signed (drop 1 ts)) (λ t v. Ok (unary u.Negate t, v)) t rest k in
      let p = ok_parts a.3 in
      let d = sound signed a.0 (drop 1 ts) a.1 a.2 in
      subst (λ v. Found signed (suc n) v ts rest) p.0 (
        cut.sign s.Minus ∷ d.0,
        sees_sound s.Minus ts h ∙ ap (λ z. cut.sign s.Minus ∷ z) (d.1 ∙ ap (λ z. d.0 ++ z) p.1),
        minus d.2,
        omega arith,
      ))
      (λ h k. by_test (sees s.Plus ts) _ _ _ k
      (λ h2 k2.
      let a = bind_ok (inner signed (drop 1 ts)) (λ t v. Ok (unary u.Plus t, v)) t rest k2 in
      let p = ok_parts a.3 in
      let d = sound signed a.0 (drop 1 ts) a.1 a.2 in
      subst (λ v. Found signed (suc n) v ts rest) p.0 (
        cut.sign s.Plus ∷ d.0,
        sees_sound s.Plus ts h2 ∙ ap (λ z. cut.sign s.Plus ∷ z) (d.1 ∙ ap (λ z. d.0 ++ z) p.1),
        plus d.2,
        omega arith,
      ))
      (λ h2 k2. let d = postfix_sound t ts rest k2 in (d.0, d.1, unsigned d.2, d.3)))

  -- ---- filters and tests

  arguments_sound : (p : LeveledList) (ts rest : Tokens) → r.arguments_at inner (suc n) ts ≡ Ok (p, rest)
      → FoundArguments n p ts rest
  unfolding r.arguments_at
  arguments_sound p ts rest e =
      by_test (sees s.LeftParen ts) _ _ _ e
      (λ h k. let d = row_sound (length (drop 1 ts)) arguments p (drop 1 ts) rest k in (
        cut.sign s.LeftParen ∷ d.0,
        sees_sound s.LeftParen ts h ∙ ap (λ z. cut.sign s.LeftParen ∷ z) d.1,
        within d.2,
        d.3,
      ))
      (λ h k. let q = ok_parts k in subst (λ z. FoundArguments n z ts rest) q.0 ([], q.1, without, omega arith))

  -- The tokens that were taken determine that an argument begins.
  begins_front : (x rest : Tokens) → begins_primary x ≡ true → begins_argument (x ++ rest) ≡ true
      → begins_argument x ≡ true
  begins_front x rest some h = search (arith, rules)

  test_arguments_sound : (q : LeveledList) (ts rest : Tokens) → r.test_arguments inner (suc n) ts ≡ Ok (q, rest)
      → FoundTestArguments n q ts rest
  unfolding r.test_arguments
  test_arguments_sound q ts rest e =
      by_test (begins_argument ts) _ _ _ e
      (λ h k.
      let f : Expr → Reader LeveledList = λ t v. Ok ((expr t no_exprs, no_pairs), v) in
      let a = bind_ok (inner postfix ts) f q rest k in
      let p = ok_parts a.3 in
      let d = sound postfix a.0 ts a.1 a.2 in
      let b : begins_argument (d.0 ++ a.1) ≡ true = subst (λ z. begins_argument z ≡ true) d.1 h in
      subst (λ z. FoundTestArguments n z ts rest) p.0
      (d.0, d.1 ∙ ap (λ z. d.0 ++ z) p.1, bare (begins_front d.0 a.1 (begins d.2) b) d.2, omega (arith, d.3)))
      (λ h k. let d = arguments_sound q ts rest k in (d.0, d.1, as_filter d.2, d.3))

  filter_sound : (a t : Expr) (x : Text) (p : LeveledList) (ts v w rest : Tokens) → sees s.Pipe ts ≡ true
      → drop 1 ts ≡ cut.name x ∷ v → is_reserved x ≡ false → FoundArguments n p v w
      → FoundOn postscript (suc n) (filter a (encode_utf8_all x) p.0 p.1) t w rest
      → FoundOn postscript (suc n) a t ts rest
  filter_sound a t x p ts v w rest h e f d g = (
    cut.sign s.Pipe ∷ cut.name x ∷ (d.0 ++ g.0),
    sees_sound s.Pipe ts h
        ∙ ap (λ z. cut.sign s.Pipe ∷ z) (e ∙ ap (λ z. cut.name x ∷ z) (joined v w rest d.0 g.0 d.1 g.1)),
    filtered f d.2 g.2,
    g.3,
  )

  test_sound : (a t : Expr) (b : Bool) (x : Text) (p : LeveledList) (ts v w rest : Tokens)
      → ts ≡ is_tokens b ++ (cut.name x ∷ v) → names_test b x ≡ true → FoundTestArguments n p v w
      → FoundOn postscript (suc n) (test a b (encode_utf8_all x) p.0 p.1) t w rest
      → FoundOn postscript (suc n) a t ts rest
  test_sound a t b x p ts v w rest e f d g = (
    is_tokens b ++ (cut.name x ∷ (d.0 ++ g.0)),
    e ∙ ap (λ z. is_tokens b ++ (cut.name x ∷ z)) (joined v w rest d.0 g.0 d.1 g.1)
        ∙ sym (append_assoc (is_tokens b) (cut.name x ∷ (d.0 ++ g.0)) rest),
    tested x f d.2 g.2,
    g.3,
  )

  -- The tree of a filter.
  abbrev filter_made : Expr → Text → LeveledList → Reader (Option Expr)
  filter_made a x p w =
      cap (levels (filter a (encode_utf8_all x) p.0 p.1)) (suc n) (Some (filter a (encode_utf8_all x) p.0 p.1)) w

  abbrev filter_named : Expr → Text → Reader (Option Expr)
  filter_named a x v = r.arguments_at inner (suc n) v >>= filter_made a x

  -- The tree of a test.
  abbrev test_made : Bool → Expr → Text → LeveledList → Reader (Option Expr)
  test_made b a x p w =
      cap (levels (test a b (encode_utf8_all x) p.0 p.1)) (suc n) (Some (test a b (encode_utf8_all x) p.0 p.1)) w

  abbrev test_named : Bool → Expr → Text → Reader (Option Expr)
  test_named b a x v = r.test_arguments inner (suc n) v >>= test_made b a x

  filter_grows : (a new : Expr) (ts v : Tokens) → sees s.Pipe ts ≡ true
      → filter_step inner (suc n) a (drop 1 ts) ≡ Ok (Some new, v) → Steps postscript a new ts v
  unfolding filter_step
  filter_grows a new ts v h e =
      let w = name_bind (drop 1 ts) (filter_named a) (Some new) v e in
      let b = bind_ok (r.arguments_at inner (suc n) w.1) (filter_made a w.0) (Some new) v w.4 in
      capped postscript a (filter a (encode_utf8_all w.0) (b.0).0 (b.0).1) new ts v b.1 b.3
      (λ t rest g. filter_sound a t w.0 b.0 ts w.1 b.1 rest h w.2 w.3 (arguments_sound b.0 w.1 b.1 b.2) g)

  test_grows : (a new : Expr) (b : Bool) (ts v : Tokens) → says (codes "is") ts ≡ true
      → says (codes "not") (drop 1 ts) ≡ b → test_step inner (suc n) b a (drop 1 ts) ≡ Ok (Some new, v)
      → Steps postscript a new ts v
  unfolding test_step
  test_grows a new b ts v h f e =
      let w = word_bind (past b (drop 1 ts)) (test_named b a) (Some new) v e in
      let c = bind_ok (r.test_arguments inner (suc n) w.1) (test_made b a w.0) (Some new) v w.3 in
      let i = is_sound b ts w.1 w.0 h f w.2 in
      capped postscript a (test a b (encode_utf8_all w.0) (c.0).0 (c.0).1) new ts v c.1 c.3
      (λ t rest g. test_sound a t b w.0 c.0 ts w.1 c.1 rest i.0 i.1 (test_arguments_sound c.0 w.1 c.1 c.2) g)

  postscript_grows : (a new : Expr) (ts v : Tokens) → postscript_step inner (suc n) a ts ≡ Ok (Some new, v)
      → Steps postscript a new ts v
  unfolding postscript_step
  postscript_grows a new ts v e = search (arith, rules, by_test, filter_grows, test_grows, no_some)

  filter_goes : {G : Type 0} (a : Expr) (ts v : Tokens) → filter_step inner (suc n) a ts ≡ Ok (None, v) → G
  unfolding filter_step
  filter_goes a ts v e = search (arith, rules, name_bind, bind_ok, no_cap)

  test_goes : {G : Type 0} (b : Bool) (a : Expr) (ts v : Tokens) → test_step inner (suc n) b a ts ≡ Ok (None, v) → G
  unfolding test_step
  test_goes b a ts v e = search (arith, rules, word_bind, bind_ok, no_cap)

  postscript_stops : (a : Expr) (ts v : Tokens) → postscript_step inner (suc n) a ts ≡ Ok (None, v) → ts ≡ v
  unfolding postscript_step
  postscript_stops a ts v e =
      by_test (sees s.Pipe ts) _ _ _ e
      (λ h k. filter_goes a (drop 1 ts) v k)
      (λ h k. by_test (says (codes "is") ts) _ _ _ k
      (λ h2 k2. test_goes (says (codes "not") (drop 1 ts)) a (drop 1 ts) v k2)
      (λ h2 k2. (ok_parts k2).1))

  postscript_sound : (t : Expr) (ts rest : Tokens) → read_postscript inner (suc n) ts ≡ Ok (t, rest)
      → Found postscript (suc n) t ts rest
  unfolding read_postscript
  postscript_sound t ts rest e =
      let a = bind_ok (read_signed inner (suc n) ts) (loop (postscript_step inner (suc n)) (suc n)) t rest e in
      let d = signed_sound a.0 ts a.1 a.2 in
      let g = loop_sound postscript (postscript_step inner (suc n))
      (record { grows = postscript_grows; stops = postscript_stops }) (suc n) a.0 t a.1 rest d.3 a.3 in
      (d.0 ++ g.0, joined ts a.1 rest d.0 g.0 d.1 g.1, postscripts d.2 g.2, g.3)

  -- ---- operators

  -- The reader reads forms of the level.
  abbrev IsSound : Level → Reader Expr → Type 0
  IsSound k reader = (t : Expr) (ts rest : Tokens) → reader ts ≡ Ok (t, rest) → Found k (suc n) t ts rest

  -- A chain of operators, given the reader of its operands.
  module _ (k : Level) (is : is_chain k ≡ true) (operand : Reader Expr) (operand_sound : IsSound (next k) operand) where
    operated_sound : (op : BinaryOperator) (a b t : Expr) (ts v w rest : Tokens) → operator k ts ≡ Some (op, v)
        → Found (next k) (suc n) b v w → FoundOn k (suc n) (binary op a b) t w rest → FoundOn k (suc n) a t ts rest
    operated_sound op a b t ts v w rest e d g =
        let q = operator_sound k op ts v e in (
          operator_tokens op ++ (d.0 ++ g.0),
          q.0 ∙ ap (λ z. operator_tokens op ++ z) (joined v w rest d.0 g.0 d.1 g.1)
              ∙ sym (append_assoc (operator_tokens op) (d.0 ++ g.0) rest),
          operated is q.1 d.2 g.2,
          g.3,
        )

    chain_by_grows : (a new : Expr) (ts v : Tokens) (found : Option (BinaryOperator × Tokens)) → operator k ts ≡ found
        → chain_by inner (suc n) operand a ts found ≡ Ok (Some new, v) → Steps k a new ts v
    chain_by_grows a new ts v None w e = no_some new ts v e
    chain_by_grows a new ts v (Some p) w e =
        let b =
        bind_ok (operand p.1) (λ c z. cap (levels (binary p.0 a c)) (suc n) (Some (binary p.0 a c)) z) (Some new) v e in
        capped k a (binary p.0 a b.0) new ts v b.1 b.3
        (λ t rest g. operated_sound p.0 a b.0 t ts p.1 b.1 rest w (operand_sound b.0 p.1 b.1 b.2) g)

    chain_by_stops : (a : Expr) (ts v : Tokens) (found : Option (BinaryOperator × Tokens))
        → chain_by inner (suc n) operand a ts found ≡ Ok (None, v) → ts ≡ v
    chain_by_stops a ts v None e = (ok_parts e).1
    chain_by_stops a ts v (Some p) e = search (arith, rules, bind_ok, no_cap)

    chain_step_sound : StepSound k (chain_step inner (suc n) k operand)
    unfolding chain_step
    chain_step_sound = record {
      grows = λ a new ts v e. chain_by_grows a new ts v (operator k ts) refl e;
      stops = λ a ts v e. chain_by_stops a ts v (operator k ts) e;
    }

    chain_sound : IsSound k (r.read_chain inner (suc n) k operand)
    unfolding r.read_chain
    chain_sound t ts rest e =
        let a = bind_ok (operand ts) (loop (chain_step inner (suc n) k operand) (suc n)) t rest e in
        let d = operand_sound a.0 ts a.1 a.2 in
        let g = loop_sound k (chain_step inner (suc n) k operand) chain_step_sound (suc n) a.0 t a.1 rest d.3 a.3 in
        (d.0 ++ g.0, joined ts a.1 rest d.0 g.0 d.1 g.1, chain is d.2 g.2, g.3)

  power_sound : IsSound power (read_power inner (suc n))
  power_sound = chain_sound power refl (read_postscript inner (suc n)) postscript_sound

  product_sound : IsSound product (read_product inner (suc n))
  product_sound = chain_sound product refl (read_power inner (suc n)) power_sound

  concatenation_sound : IsSound concatenation (read_concatenation inner (suc n))
  concatenation_sound = chain_sound concatenation refl (read_product inner (suc n)) product_sound

  sum_sound : IsSound sum (read_sum inner (suc n))
  sum_sound = chain_sound sum refl (read_concatenation inner (suc n)) concatenation_sound

  compare_by_sound : (a t : Expr) (x ts rest : Tokens) → Spells sum a x → levels a ≤ suc n
      → (found : Option (BinaryOperator × Tokens)) → operator comparison ts ≡ found
      → r.compare_by inner (suc n) a ts found ≡ Ok (t, rest) → Found comparison (suc n) t (x ++ ts) rest
  compare_by_sound a t x ts rest z le None w e =
      let p = ok_parts e in
      subst (λ v. Found comparison (suc n) v (x ++ ts) rest) p.0 (x, ap (λ y. x ++ y) p.1, alone z, le)
  compare_by_sound a t x ts rest z le (Some q) w e =
      let b =
      bind_ok (read_sum inner (suc n) q.1) (λ c v. cap (levels (binary q.0 a c)) (suc n) (binary q.0 a c) v) t rest e in
      let c = cap_ok (levels (binary q.0 a b.0)) (suc n) (binary q.0 a b.0) t b.1 rest b.3 in
      let d = sum_sound b.0 q.1 b.1 b.2 in
      let f = operator_sound comparison q.0 ts q.1 w in
      subst (λ v. Found comparison (suc n) v (x ++ ts) rest) c.1 (
        x ++ (operator_tokens q.0 ++ d.0),
        joined (x ++ ts) ts rest x (operator_tokens q.0 ++ d.0) refl
            (f.0 ∙ joined (operator_tokens q.0 ++ q.1) q.1 rest (operator_tokens q.0) d.0 refl
            (d.1 ∙ ap (λ y. d.0 ++ y) c.2)),
        compared f.1 z d.2,
        c.0,
      )

  comparison_sound : (t : Expr) (ts rest : Tokens) → read_comparison inner (suc n) ts ≡ Ok (t, rest)
      → Found comparison (suc n) t ts rest
  unfolding read_comparison
  comparison_sound t ts rest e = search (arith, rules, bind_ok, sum_sound, compare_by_sound)

  inversion_sound : (t : Expr) (ts rest : Tokens) → read_inversion inner (suc n) ts ≡ Ok (t, rest)
      → Found inversion (suc n) t ts rest
  unfolding read_inversion
  inversion_sound t ts rest e =
      by_test (says (codes "not") ts) _ _ _ e
      (λ h k.
      let a = bind_ok (inner inversion (drop 1 ts)) (λ t v. Ok (unary u.Not t, v)) t rest k in
      let p = ok_parts a.3 in
      let d = sound inversion a.0 (drop 1 ts) a.1 a.2 in
      subst (λ v. Found inversion (suc n) v ts rest) p.0 (
        word (codes "not") ∷ d.0,
        says_sound (codes "not") ts h ∙ ap (λ z. word (codes "not") ∷ z) (d.1 ∙ ap (λ z. d.0 ++ z) p.1),
        inverted d.2,
        omega arith,
      ))
      (λ h k. let d = comparison_sound t ts rest k in (d.0, d.1, upright d.2, d.3))

  conjunction_sound : IsSound conjunction (read_conjunction inner (suc n))
  conjunction_sound = chain_sound conjunction refl (read_inversion inner (suc n)) inversion_sound

  disjunction_sound : IsSound disjunction (read_disjunction inner (suc n))
  disjunction_sound = chain_sound disjunction refl (read_conjunction inner (suc n)) conjunction_sound

  -- ---- inline ifs

  else_sound : (a c t : Expr) (x y ts v rest : Tokens) → Spells disjunction a x → Spells disjunction c y
      → ts ≡ x ++ (word (codes "if") ∷ (y ++ v)) → else_part inner (suc n) a c v ≡ Ok (t, rest)
      → Found whole (suc n) t ts rest
  unfolding else_part
  else_sound a c t x y ts v rest da dc same e =
      by_test (says (codes "else") v) _ _ _ e
      (λ h k.
      let b = bind_ok (inner whole (drop 1 v)) (λ b w. cap (levels (choice c a b)) (suc n) (choice c a b) w) t rest k in
      let q = cap_ok (levels (choice c a b.0)) (suc n) (choice c a b.0) t b.1 rest b.3 in
      let d = sound whole b.0 (drop 1 v) b.1 b.2 in
      let z = word (codes "else") ∷ d.0 in
      let behind : v ≡ z ++ rest =
      says_sound (codes "else") v h ∙ ap (λ w. word (codes "else") ∷ w) (d.1 ∙ ap (λ w. d.0 ++ w) q.2) in
      subst (λ j. Found whole (suc n) j ts rest) q.1 (
        x ++ (word (codes "if") ∷ (y ++ z)),
        joined ts (word (codes "if") ∷ (y ++ v)) rest x (word (codes "if") ∷ (y ++ z)) same
            (ap (λ w. word (codes "if") ∷ w) (joined (y ++ v) v rest y z refl behind)),
        an_if_else da dc d.2,
        q.0,
      ))
      (λ h k.
      let q = cap_ok (levels (when c a)) (suc n) (when c a) t v rest k in
      subst (λ j. Found whole (suc n) j ts rest) q.1 (
        x ++ (word (codes "if") ∷ y),
        joined ts (word (codes "if") ∷ (y ++ v)) rest x (word (codes "if") ∷ y) same
            (ap (λ w. word (codes "if") ∷ (y ++ w)) q.2),
        an_if da dc,
        q.0,
      ))

  if_sound : (a t : Expr) (x ts rest : Tokens) → Spells disjunction a x → levels a ≤ suc n
      → if_part inner (suc n) a ts ≡ Ok (t, rest) → Found whole (suc n) t (x ++ ts) rest
  unfolding if_part
  if_sound a t x ts rest da le e =
      by_test (says (codes "if") ts) _ _ _ e
      (λ h k.
      let b = bind_ok (read_disjunction inner (suc n) (drop 1 ts)) (else_part inner (suc n) a) t rest k in
      let d = disjunction_sound b.0 (drop 1 ts) b.1 b.2 in
      else_sound a b.0 t x d.0 (x ++ ts) b.1 rest da d.2
      (ap (λ w. x ++ w) (says_sound (codes "if") ts h ∙ ap (λ w. word (codes "if") ∷ w) d.1)) b.3)
      (λ h k. let p = ok_parts k in
      subst (λ j. Found whole (suc n) j (x ++ ts) rest) p.0 (x, ap (λ w. x ++ w) p.1, plain da, le))

  whole_sound : (t : Expr) (ts rest : Tokens) → read_whole inner (suc n) ts ≡ Ok (t, rest)
      → Found whole (suc n) t ts rest
  unfolding read_whole
  whole_sound t ts rest e = search (arith, rules, bind_ok, disjunction_sound, if_sound)

  at_sound : (k : Level) (t : Expr) (ts rest : Tokens) → read_at inner (suc n) k ts ≡ Ok (t, rest)
      → Found k (suc n) t ts rest
  unfolding read_at
  at_sound whole = whole_sound
  at_sound disjunction = disjunction_sound
  at_sound conjunction = conjunction_sound
  at_sound inversion = inversion_sound
  at_sound comparison = comparison_sound
  at_sound sum = sum_sound
  at_sound concatenation = concatenation_sound
  at_sound product = product_sound
  at_sound power = power_sound
  at_sound postscript = postscript_sound
  at_sound signed = signed_sound
  at_sound postfix = postfix_sound

-- The tokens that are taken spell the tree that is read, which has at most n levels.
pub read_is_spelled : (n : ℕ) (k : Level) (t : Expr) (ts rest : Tokens) → read n k ts ≡ Ok (t, rest)
    → Found k n t ts rest
unfolding read
read_is_spelled zero k t ts rest e = cc
read_is_spelled (suc n) k t ts rest e = at_sound (read n) n (read_is_spelled n) k t ts rest e

pub arguments_are_spelled : (n : ℕ) (p : LeveledList) (ts rest : Tokens)
    → r.arguments_at (read n) (suc n) ts ≡ Ok (p, rest) → FoundArguments n p ts rest
arguments_are_spelled n p ts rest e = arguments_sound (read n) n (read_is_spelled n) p ts rest e
