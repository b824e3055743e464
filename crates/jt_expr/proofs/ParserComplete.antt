-- The reader is complete: a tree that the tokens spell is read, or refused as too deep.
use Rattle.std.proofs.Common.{◌≡◌, ℕ, ℤ, zero, suc, ◌+◌, ◌<◌, ◌≤◌, max, if◌then◌else◌, Bool, true, false, [], ◌∷◌, ◌++◌}
use Rattle.std.proofs.Common.{length, drop, codes, encode_utf8_all, bytes_eq, refl, sym, ap, subst, ◌∙◌, append_assoc}
use Rattle.std.proofs.Common.{arith, Option, Some, None, Ok, Err, length-append, rules}
use Rattle.std.proofs.lemmas.Bool.{not-true}
use Rattle.jt_scan.specs.declared.segment.Sign.TheVariants as s
use Rattle.jt_scan.specs.Cut as cut
use Rattle.jt_ast.specs.declared.expression.UnaryOperator.{UnaryOperator}
use Rattle.jt_ast.specs.declared.expression.UnaryOperator.TheVariants as u
use Rattle.jt_ast.specs.declared.expression.BinaryOperator.{BinaryOperator}
use Rattle.jt_ast.specs.declared.expression.BinaryOperator.TheVariants as o
use Rattle.jt_ast.specs.Expressions.{Text, Literal, number, text, Expr, constant, name, group, list_of, map_of}
use Rattle.jt_ast.specs.Expressions.{attribute, item, call, filter, test, unary, binary, when, choice, Exprs, no_exprs}
use Rattle.jt_ast.specs.Expressions.{expr, Pairs, no_pairs, levels}
use Rattle.jt_expr.specs.Grammar.{Tokens, word, is_reserved, literal_of, names_test, Level, whole, disjunction}
use Rattle.jt_expr.specs.Grammar.{conjunction, inversion, comparison, sum, concatenation, product, power, postscript}
use Rattle.jt_expr.specs.Grammar.{signed, postfix, next, is_chain, level_of, operator_tokens, is_tokens}
use Rattle.jt_expr.specs.Grammar.{begins_argument, SequenceKind, items, entries, arguments, closer, takes_plain}
use Rattle.jt_expr.specs.Grammar.{takes_names, behind_key, LeveledList, no_parts, put, Spells, plain, an_if, an_if_else}
use Rattle.jt_expr.specs.Grammar.{chain, inverted, upright, compared, alone, postscripts, minus, plus, unsigned}
use Rattle.jt_expr.specs.Grammar.{postfixes, Goes, stay, operated, filtered, tested, attributed, indexed, called}
use Rattle.jt_expr.specs.Grammar.{Primary, a_number, a_text, a_constant, a_name, a_group, a_list, a_map, Arguments}
use Rattle.jt_expr.specs.Grammar.{without, within, TestArguments, as_filter, bare, Holds, closed, last, more, IsPart}
use Rattle.jt_expr.specs.Grammar.{without_key, an_entry, by_name}
use Rattle.jt_expr.specs.internal.Reading as r
use Rattle.jt_expr.specs.Front.{sees, says}
use Rattle.jt_expr.specs.internal.Reading.{cap, Reader, ParseResult, ◌>>=◌, operator, key_at, keyword, entry_key, read}
use Rattle.jt_expr.specs.internal.Reading.{read_at, again, loop, chain_step, chain_by, filter_step, test_step}
use Rattle.jt_expr.specs.internal.Reading.{postscript_step, postfix_step, read_whole, read_inversion, read_comparison}
use Rattle.jt_expr.specs.internal.Reading.{read_postscript, read_signed, read_postfix, expect, word_at, name_at}
use Rattle.jt_expr.specs.internal.Reading.{if_part, else_part, read_chain}
use Rattle.jt_expr.specs.Promises.{parts_levels}
use Rattle.jt_expr.proofs.LevelCap.{bound, cap_within, cap_beyond}
use Rattle.jt_expr.proofs.FirstTokenTests.{no_literal, sees_self}
use Rattle.jt_expr.proofs.FirstTokens.{begins, begins_primary, begins_signed, begins_operand, primary-append}
use Rattle.jt_expr.proofs.FirstTokens.{signed-append, argument-append, no_minus-primary, no_plus-primary, no_not-signed}
use Rattle.jt_expr.proofs.FirstTokens.{part_open, second, second-append}
use Rattle.jt_expr.proofs.ReaderLoops.{levels_some}

-- ---- the tokens after a form

abbrev PostfixStops : Tokens → Type 0
PostfixStops ts = (sees s.Dot ts ≡ false) × (sees s.LeftBracket ts ≡ false) × (sees s.LeftParen ts ≡ false)

abbrev PostscriptStops : Tokens → Type 0
PostscriptStops ts =
    (sees s.Pipe ts ≡ false) × (says (codes "is") ts ≡ false) × (begins_argument ts ≡ false) × PostfixStops ts

abbrev PowerStops : Tokens → Type 0
PowerStops ts = (operator power ts ≡ None) × PostscriptStops ts

abbrev ProductStops : Tokens → Type 0
ProductStops ts = (operator product ts ≡ None) × PowerStops ts

abbrev ConcatenationStops : Tokens → Type 0
ConcatenationStops ts = (operator concatenation ts ≡ None) × ProductStops ts

abbrev SumStops : Tokens → Type 0
SumStops ts = (operator sum ts ≡ None) × ConcatenationStops ts

abbrev ComparisonStops : Tokens → Type 0
ComparisonStops ts = (operator comparison ts ≡ None) × SumStops ts

abbrev ConjunctionStops : Tokens → Type 0
ConjunctionStops ts = (operator conjunction ts ≡ None) × ComparisonStops ts

abbrev DisjunctionStops : Tokens → Type 0
DisjunctionStops ts = (operator disjunction ts ≡ None) × ConjunctionStops ts

abbrev WholeStops : Tokens → Type 0
WholeStops ts = (says (codes "if") ts ≡ false) × (says (codes "else") ts ≡ false) × DisjunctionStops ts

-- The tokens do not continue a form of the level.
abbrev pub Stops : Level → Tokens → Type 0
Stops whole ts = WholeStops ts
Stops disjunction ts = DisjunctionStops ts
Stops conjunction ts = ConjunctionStops ts
Stops inversion ts = ComparisonStops ts
Stops comparison ts = ComparisonStops ts
Stops sum ts = SumStops ts
Stops concatenation ts = ConcatenationStops ts
Stops product ts = ProductStops ts
Stops power ts = PowerStops ts
Stops postscript ts = PostscriptStops ts
Stops signed ts = PostfixStops ts
Stops postfix ts = PostfixStops ts

-- The tokens do not continue an operand of the level, if operators may follow that operand.
abbrev Above : Level → Tokens → Type 0
Above whole ts = Unit {0}
Above disjunction ts = ConjunctionStops ts
Above conjunction ts = ComparisonStops ts
Above inversion ts = Unit {0}
Above comparison ts = SumStops ts
Above sum ts = ConcatenationStops ts
Above concatenation ts = ProductStops ts
Above product ts = PowerStops ts
Above power ts = PostscriptStops ts
Above postscript ts = PostfixStops ts
Above signed ts = Unit {0}
Above postfix ts = Unit {0}

stops_above : (k : Level) (ts : Tokens) → Stops k ts → Above k ts
stops_above k ts h = search (arith, rules)

-- A property of the six levels with operators holds for each such level.
chain_cases : (P : Level → Type 0) → P disjunction → P conjunction → P sum → P concatenation → P product → P power
    → (k : Level) → is_chain k ≡ true → P k
chain_cases P d c s t p w x8 h = search (arith, rules)

chain_above : (k : Level) (ts : Tokens) → is_chain k ≡ true → Above k ts → Stops (next k) ts
chain_above k ts c =
    chain_cases (λ j. Above j ts → Stops (next j) ts) (λ h. h) (λ h. h) (λ h. h) (λ h. h) (λ h. h) (λ h. h) k c

operator_stops : (op : BinaryOperator) (ts : Tokens) → Above (level_of op) (operator_tokens op ++ ts)
unfolding operator
operator_stops op ts = search (arith, rules)

operator_at : (op : BinaryOperator) (ts : Tokens) → operator (level_of op) (operator_tokens op ++ ts) ≡ Some (op, ts)
unfolding operator
operator_at op ts = search (arith, rules)

pub if_stops : (ts : Tokens) → Stops disjunction (word (codes "if") ∷ ts)
unfolding operator
if_stops ts = (refl, (refl, (refl, (refl, (refl, (refl, (refl, (refl, refl, refl, (refl, refl, refl)))))))))

else_stops : (ts : Tokens) → Stops disjunction (word (codes "else") ∷ ts)
unfolding operator
else_stops ts = (refl, (refl, (refl, (refl, (refl, (refl, (refl, (refl, refl, refl, (refl, refl, refl)))))))))

pub comma_stops : (ts : Tokens) → Stops whole (cut.sign s.Comma ∷ ts)
unfolding operator
comma_stops ts =
    (refl, refl, (refl, (refl, (refl, (refl, (refl, (refl, (refl, (refl, refl, refl, (refl, refl, refl))))))))))

close_stops : (r : SequenceKind) (ts : Tokens) → Stops whole (cut.sign (closer r) ∷ ts)
unfolding operator
close_stops r ts = search (arith, rules)

pub nothing_stops : Stops whole []
unfolding operator
nothing_stops =
    (refl, refl, (refl, (refl, (refl, (refl, (refl, (refl, (refl, (refl, refl, refl, (refl, refl, refl))))))))))

is_stops : (b : Bool) (ts : Tokens) → PostfixStops (is_tokens b ++ ts)
is_stops false ts = (refl, refl, refl)
is_stops true ts = (refl, refl, refl)

goes_stops : {k : Level} {a t : Expr} {y : Tokens} → Goes k a t y → (rest : Tokens) → Stops k rest → Above k (y ++ rest)
goes_stops (stay {k}) rest h = stops_above k rest h
goes_stops (operated {k} {op} {a} {b} {t} {x} {y} c e d g) rest h = search (arith, rules, append_assoc, operator_stops)
goes_stops (filtered h d g) rest st = (refl, refl, refl)
goes_stops (tested {a} {t} {b} {ts} {ps} {x} {y} n h d g) rest st =
    rw append_assoc (is_stops b ((cut.name n ∷ (x ++ y)) ++ rest))
goes_stops (attributed g) rest h = tt
goes_stops (indexed d g) rest h = tt
goes_stops (called d g) rest h = tt

-- ---- levels

pub put_levels : (k : Option Text) (t : Expr) (p : LeveledList)
    → parts_levels (put k t p) ≡ max (levels t) (parts_levels p)
put_levels None t p = omega arith
put_levels (Some k) t p = omega arith

grows : {k : Level} {a t : Expr} {y : Tokens} → Goes k a t y → levels a ≤ levels t
grows stay = omega arith
grows (operated c e d g) = omega (arith, grows g)
grows (filtered h d g) = omega (arith, grows g)
grows (tested n h d g) = omega (arith, grows g)
grows (attributed g) = omega (arith, grows g)
grows (indexed d g) = omega (arith, grows g)
grows (called d g) = omega (arith, grows g)

-- ---- the loops

-- One step that extends a tree at the level, after its first operand.
abbrev step : (Level → Reader Expr) → ℕ → Level → Expr → Reader (Option Expr)
step inner n postscript = postscript_step inner n
step inner n postfix = postfix_step inner n
step inner n k = chain_step inner n k (read_at inner n (next k))

abbrev on : (Level → Reader Expr) → ℕ → Level → ℕ → Expr → Reader Expr
on inner n k = loop (step inner n k)

bind_bind : {A B C : Type 0} (o : ParseResult A) (f : A → Reader B) (g : B → Reader C)
    → ((o >>= f) >>= g) ≡ (o >>= λ a v. f a v >>= g)
bind_bind (Ok p) f g = refl
bind_bind (Err e) f g = refl

chain_reads : (inner : Level → Reader Expr) (n : ℕ) (k : Level) (ts : Tokens) → is_chain k ≡ true
    → read_at inner n k ts ≡ (read_at inner n (next k) ts >>= on inner n k n)
unfolding read_at read_chain
chain_reads inner n k ts c =
    chain_cases (λ j. read_at inner n j ts ≡ (read_at inner n (next j) ts >>= on inner n j n)) refl refl refl refl refl
    refl k c

chain_turn : (inner : Level → Reader Expr) (n : ℕ) (k : Level) (turns : ℕ) (a : Expr) (ts : Tokens) → is_chain k ≡ true
    → on inner n k (suc turns) a ts
    ≡ (chain_by inner n (read_at inner n (next k)) a ts (operator k ts) >>= again (on inner n k turns) a)
unfolding loop chain_step
chain_turn inner n k turns a ts c = search (arith, rules, chain_cases)

step_stops : (inner : Level → Reader Expr) (n : ℕ) (k : Level) (a : Expr) (ts : Tokens) → Stops k ts
    → step inner n k a ts ≡ Ok (None, ts)
unfolding chain_step postscript_step postfix_step operator
step_stops inner n k a ts h = search (arith, rules)

on_stops : (inner : Level → Reader Expr) (n : ℕ) (k : Level) (turns : ℕ) (a : Expr) (ts : Tokens) → Stops k ts
    → on inner n k (suc turns) a ts ≡ Ok (a, ts)
unfolding loop
on_stops inner n k turns a ts h = ap (λ o. o >>= again (on inner n k turns) a) (step_stops inner n k a ts h)

-- ---- the properties to prove

abbrev At : Level → Expr → Tokens → Type 0
At k t x =
    (n : ℕ) (rest : Tokens) → Stops k rest → read_at (read n) (suc n) k (x ++ rest) ≡ cap (levels t) (suc n) t rest

abbrev Inside : Level → Expr → Tokens → Type 0
Inside k t x = (n : ℕ) (rest : Tokens) → Stops k rest → read n k (x ++ rest) ≡ cap (levels t) n t rest

abbrev OnAt : Level → Expr → Expr → Tokens → Type 0
OnAt k a t y =
    (n turns : ℕ) (rest : Tokens) → levels a ≤ suc n → suc n < levels a + turns → Stops k rest
    → on (read n) (suc n) k turns a (y ++ rest) ≡ cap (levels t) (suc n) t rest

abbrev PrimaryAt : Expr → Tokens → Type 0
PrimaryAt t x = (n : ℕ) (rest : Tokens) → r.primary (read n) (suc n) (x ++ rest) ≡ cap (levels t) (suc n) t rest

abbrev PartAt : SequenceKind → Option Text → Expr → Tokens → Type 0
PartAt w k t x =
    (n : ℕ) (rest : Tokens) → Stops whole rest → sees s.Assign rest ≡ false
    → r.part (read n) (suc n) w (x ++ rest) ≡ cap (levels t) n (k, t) rest

abbrev RowAt : SequenceKind → LeveledList → Tokens → Type 0
RowAt w p x =
    (n turns : ℕ) (rest : Tokens) → length x ≤ turns
    → r.row (read n) (suc n) turns w (x ++ rest) ≡ cap (parts_levels p) n p rest

abbrev pub ArgumentsAt : LeveledList → Tokens → Type 0
ArgumentsAt p x =
    (n : ℕ) (rest : Tokens) → sees s.LeftParen rest ≡ false
    → r.arguments_at (read n) (suc n) (x ++ rest) ≡ cap (parts_levels p) n p rest

-- The tokens begin no argument and continue no postfix form.
abbrev ArgumentStops : Tokens → Type 0
ArgumentStops ts = (begins_argument ts ≡ false) × PostfixStops ts

abbrev TestArgumentsAt : LeveledList → Tokens → Type 0
TestArgumentsAt p x =
    (n : ℕ) (rest : Tokens) → ArgumentStops rest
    → r.test_arguments (read n) (suc n) (x ++ rest) ≡ cap (parts_levels p) n p rest

-- A form of the level is read as a nested form.
inside : (k : Level) (t : Expr) (x : Tokens) → At k t x → Inside k t x
unfolding read
inside k t x h zero rest st = sym (cap_beyond (levels t) 0 t rest (levels_some t))
inside k t x h (suc n) rest st = h n rest st

stay_on : (k : Level) (a : Expr) → OnAt k a a []
stay_on k a n zero rest la lt st = absurd (omega arith)
stay_on k a n (suc turns) rest la lt st =
    on_stops (read n) (suc n) k turns a rest st ∙ sym (cap_within (levels a) (suc n) a rest la)

-- The reader continues from the new tree of a step.
fitted : (k : Level) (a new t : Expr) (y : Tokens) → levels new ≤ levels t → OnAt k new t y
    → (n turns : ℕ) (rest : Tokens) → suc n < levels new + turns → Stops k rest
    → (cap (levels new) (suc n) (Some new) (y ++ rest) >>= again (on (read n) (suc n) k turns) a)
    ≡ cap (levels t) (suc n) t rest
fitted k a new t y le g n turns rest lt st = search (arith, rules, bound)

-- The reader continues from the first operand.
first : (k : Level) (a t : Expr) (y : Tokens) → levels a ≤ levels t → OnAt k a t y → (n turns : ℕ) (rest : Tokens)
    → suc n < levels a + turns → Stops k rest
    → (cap (levels a) (suc n) a (y ++ rest) >>= on (read n) (suc n) k turns) ≡ cap (levels t) (suc n) t rest
first k a t y le g n turns rest lt st = search (arith, rules, bound)

operated_on : (k : Level) (op : BinaryOperator) (a b t : Expr) (x y : Tokens) → is_chain k ≡ true → level_of op ≡ k
    → At (next k) b x → OnAt k (binary op a b) t y → levels (binary op a b) ≤ levels t
    → ((rest : Tokens) → Stops k rest → Above k (y ++ rest)) → OnAt k a t (operator_tokens op ++ (x ++ y))
operated_on k op a b t x y c e d g le ab n zero rest la lt st = absurd (omega arith)
operated_on k op a b t x y c e d g le ab n (suc turns) rest la lt st =
    search (arith, rules, append_assoc, operator_at, chain_turn, bind_bind, chain_above, bound, fitted)

-- ---- filters and tests

abbrev BehindArguments : Level → Tokens → Type 0
BehindArguments postscript ts = ArgumentStops ts
BehindArguments _ ts = Unit {0}

stay_behind : (k : Level) (ts : Tokens) → Stops k ts → BehindArguments k ts
stay_behind k ts h = search (arith, rules)

chain_behind : (k : Level) (ts : Tokens) → is_chain k ≡ true → BehindArguments k ts
chain_behind k ts c = chain_cases (λ j. BehindArguments j ts) tt tt tt tt tt tt k c

is_behind : (b : Bool) (ts : Tokens) → ArgumentStops (is_tokens b ++ ts)
is_behind false ts = (refl, (refl, refl, refl))
is_behind true ts = (refl, (refl, refl, refl))

goes_behind : {k : Level} {a t : Expr} {y : Tokens} → Goes k a t y → (rest : Tokens) → Stops k rest
    → BehindArguments k (y ++ rest)
goes_behind rest x2 x3 = search (arith, rules, stay_behind, chain_behind, is_behind)

filter_turn : (inner : Level → Reader Expr) (n turns : ℕ) (a : Expr) (x : Text) (v : Tokens) → is_reserved x ≡ false
    → on inner n postscript (suc turns) a (cut.sign s.Pipe ∷ cut.name x ∷ v)
    ≡ (r.arguments_at inner n v >>= λ p w. cap (levels (filter a (encode_utf8_all x) p.0 p.1)) n
    (Some (filter a (encode_utf8_all x) p.0 p.1)) w
    >>= again (on inner n postscript turns) a)
unfolding loop postscript_step filter_step name_at word_at
filter_turn inner n turns a x v h = search (arith, rules, bind_bind, encode_utf8_all)

test_turn : (inner : Level → Reader Expr) (n turns : ℕ) (a : Expr) (b : Bool) (x : Text) (v : Tokens)
    → names_test b x ≡ true
    → on inner n postscript (suc turns) a (is_tokens b ++ (cut.name x ∷ v))
    ≡ (r.test_arguments inner n v >>= λ p w. cap (levels (test a b (encode_utf8_all x) p.0 p.1)) n
    (Some (test a b (encode_utf8_all x) p.0 p.1)) w
    >>= again (on inner n postscript turns) a)
unfolding loop postscript_step test_step word_at
test_turn inner n turns a true x v h = search (arith, rules, bind_bind, encode_utf8_all)
test_turn inner n turns a false x v h = search (arith, rules, not-true, bytes_eq, bind_bind, encode_utf8_all)

filtered_on : (a t : Expr) (x : Text) (p : LeveledList) (y z : Tokens) → is_reserved x ≡ false → ArgumentsAt p y
    → OnAt postscript (filter a (encode_utf8_all x) p.0 p.1) t z
    → levels (filter a (encode_utf8_all x) p.0 p.1) ≤ levels t
    → ((rest : Tokens) → PostscriptStops rest → ArgumentStops (z ++ rest))
    → OnAt postscript a t (cut.sign s.Pipe ∷ cut.name x ∷ (y ++ z))
filtered_on a t x p y z h d g le ab n zero rest la lt st = absurd (omega arith)
filtered_on a t x p y z h d g le ab n (suc turns) rest la lt st =
    search (arith, rules, encode_utf8_all, append_assoc, filter_turn, bound, fitted)

tested_on : (a t : Expr) (b : Bool) (x : Text) (p : LeveledList) (y z : Tokens) → names_test b x ≡ true
    → TestArgumentsAt p y → OnAt postscript (test a b (encode_utf8_all x) p.0 p.1) t z
    → levels (test a b (encode_utf8_all x) p.0 p.1) ≤ levels t
    → ((rest : Tokens) → PostscriptStops rest → ArgumentStops (z ++ rest))
    → OnAt postscript a t (is_tokens b ++ (cut.name x ∷ (y ++ z)))
tested_on a t b x p y z h d g le ab n zero rest la lt st = absurd (omega arith)
tested_on a t b x p y z h d g le ab n (suc turns) rest la lt st =
    search (arith, rules, encode_utf8_all, append_assoc, test_turn, bound, fitted)

-- ---- postfix forms

attribute_turn : (inner : Level → Reader Expr) (n turns : ℕ) (a : Expr) (x : Text) (v : Tokens)
    → on inner n postfix (suc turns) a (cut.sign s.Dot ∷ cut.name x ∷ v)
    ≡ (cap (levels (attribute a (encode_utf8_all x))) n (Some (attribute a (encode_utf8_all x))) v
    >>= again (on inner n postfix turns) a)
unfolding loop postfix_step word_at
attribute_turn inner n turns a x v = refl

index_turn : (inner : Level → Reader Expr) (n turns : ℕ) (a : Expr) (v : Tokens)
    → on inner n postfix (suc turns) a (cut.sign s.LeftBracket ∷ v)
    ≡ (inner whole v >>= λ i w. (expect s.RightBracket w >>= λ _ z. cap (levels (item a i)) n (Some (item a i)) z)
    >>= again (on inner n postfix turns) a)
unfolding loop postfix_step
index_turn inner n turns a v = search (arith, rules, bind_bind)

call_turn : (inner : Level → Reader Expr) (n turns : ℕ) (a : Expr) (v : Tokens)
    → on inner n postfix (suc turns) a (cut.sign s.LeftParen ∷ v)
    ≡ (r.row inner n (length v) arguments v
    >>= λ p w. cap (levels (call a p.0 p.1)) n (Some (call a p.0 p.1)) w >>= again (on inner n postfix turns) a)
unfolding loop postfix_step
call_turn inner n turns a v = search (arith, rules, bind_bind)

attributed_on : (a t : Expr) (x : Text) (y : Tokens) → OnAt postfix (attribute a (encode_utf8_all x)) t y
    → levels (attribute a (encode_utf8_all x)) ≤ levels t → OnAt postfix a t (cut.sign s.Dot ∷ cut.name x ∷ y)
attributed_on a t x y g le n zero rest la lt st = absurd (omega arith)
attributed_on a t x y g le n (suc turns) rest la lt st = search (arith, rules, attribute_turn, fitted, encode_utf8_all)

indexed_on : (a i t : Expr) (x y : Tokens) → At whole i x → OnAt postfix (item a i) t y → levels (item a i) ≤ levels t
    → OnAt postfix a t (cut.sign s.LeftBracket ∷ (x ++ (cut.sign s.RightBracket ∷ y)))
unfolding expect
indexed_on a i t x y d g le n zero rest la lt st = absurd (omega arith)
indexed_on a i t x y d g le n (suc turns) rest la lt st =
    let go : Expr → Reader Expr = λ j v. (expect s.RightBracket v
    >>= λ _ w. cap (levels (item a j)) (suc n) (Some (item a j)) w)
    >>= again (on (read n) (suc n) postfix turns) a in
    ap (λ z. on (read n) (suc n) postfix (suc turns) a (cut.sign s.LeftBracket ∷ z))
    (append_assoc x (cut.sign s.RightBracket ∷ y) rest)
    ∙ index_turn (read n) (suc n) turns a (x ++ (cut.sign s.RightBracket ∷ (y ++ rest)))
    ∙ ap (λ o. o >>= go) (inside whole i x d n (cut.sign s.RightBracket ∷ (y ++ rest)) (close_stops items (y ++ rest)))
    ∙ bound (levels i) n (levels t) (suc n) i t (cut.sign s.RightBracket ∷ (y ++ rest)) rest go
    (λ lb. fitted postfix a (item a i) t y le g n turns rest (omega arith) st) (λ gt. omega arith)

called_on : (a t : Expr) (p : LeveledList) (x y : Tokens) → RowAt arguments p x → OnAt postfix (call a p.0 p.1) t y
    → levels (call a p.0 p.1) ≤ levels t → OnAt postfix a t (cut.sign s.LeftParen ∷ (x ++ y))
called_on a t p x y d g le n zero rest la lt st = absurd (omega arith)
called_on a t p x y d g le n (suc turns) rest la lt st =
    search (arith, rules, append_assoc, call_turn, length-append, bound, fitted)

-- ---- sequences in brackets

unnamed : {A : Type 0} (a : A) (c d : Bool) → d ≡ false → (if c then None else (if d then Some a else None)) ≡ None
unnamed a true d h = refl
unnamed a false d h = rw h

no_keyword : (x rest : Tokens) → begins_operand x ≡ true → sees s.Assign (drop 1 (x ++ rest)) ≡ false
    → keyword (x ++ rest) ≡ None
unfolding keyword
no_keyword x rest b h = search (arith, rules, unnamed)

-- An expression without a key is not read as a key.
no_key : (w : SequenceKind) (x rest : Tokens) → takes_plain w ≡ true → begins_operand x ≡ true
    → sees s.Assign (drop 1 (x ++ rest)) ≡ false → key_at w (x ++ rest) ≡ None
no_key w x rest e b h = search (arith, rules, no_keyword)

named_key : (w : SequenceKind) (n : Text) (ts : Tokens) → takes_names w ≡ true → is_reserved n ≡ false
    → key_at w (cut.name n ∷ cut.sign s.Assign ∷ ts) ≡ Some (encode_utf8_all n, ts)
unfolding keyword
named_key w n ts e h = search (arith, rules)

-- The expression of a part, with its key.
abbrev pub with_key : Option Text → Expr → Reader (Option Text × Expr)
with_key k t v = Ok ((k, t), v)

keyed : (k : Option Text) (t : Expr) (x : Tokens) → At whole t x → (n : ℕ) (rest : Tokens) → Stops whole rest
    → (read n whole (x ++ rest) >>= with_key k) ≡ cap (levels t) n (k, t) rest
keyed k t x d n rest st =
    ap (λ o. o >>= with_key k) (inside whole t x d n rest st)
    ∙ bound (levels t) n (levels t) n t (k, t) rest rest (with_key k)
    (λ le. sym (cap_within (levels t) n (k, t) rest le)) (λ gt. gt)

without_key_at : (w : SequenceKind) (t : Expr) (x : Tokens) → takes_plain w ≡ true → begins_operand x ≡ true
    → sees s.Assign (drop 1 x) ≡ false → At whole t x → PartAt w None t x
unfolding r.part
without_key_at w t x e b h d n rest st f =
    ap (r.part_by (read n) (suc n) w (x ++ rest)) (no_key w x rest e b (second-append x rest b h f))
    ∙ rw e (keyed None t x d n rest st)

an_entry_at : (v : Text) (t : Expr) (x : Tokens) → At whole t x
    → PartAt entries (Some (encode_utf8_all v)) t (cut.text v ∷ cut.sign s.Colon ∷ x)
unfolding r.part entry_key
an_entry_at v t x d n rest st f = keyed (Some (encode_utf8_all v)) t x d n rest st

by_name_at : (w : SequenceKind) (m : Text) (t : Expr) (x : Tokens) → takes_names w ≡ true → is_reserved m ≡ false
    → At whole t x → PartAt w (Some (encode_utf8_all m)) t (cut.name m ∷ cut.sign s.Assign ∷ x)
unfolding r.part
by_name_at w m t x e h d n rest st f =
    ap (r.part_by (read n) (suc n) w (cut.name m ∷ cut.sign s.Assign ∷ (x ++ rest))) (named_key w m (x ++ rest) e h)
    ∙ keyed (Some (encode_utf8_all m)) t x d n rest st

closed_at : (w : SequenceKind) → RowAt w no_parts (cut.sign (closer w) ∷ [])
unfolding r.row
closed_at w n zero rest le = absurd (omega arith)
closed_at w n (suc turns) rest le = rw (sees_self (closer w) rest) (sym (cap_within 0 n no_parts rest (omega arith)))

no_comma : (w : SequenceKind) (ts : Tokens) → sees s.Comma (cut.sign (closer w) ∷ ts) ≡ false
no_comma w ts = search (arith, rules)

closes : (w : SequenceKind) (ts : Tokens) → expect (closer w) (cut.sign (closer w) ∷ ts) ≡ Ok (tt, ts)
unfolding expect
closes w ts = rw (sees_self (closer w) ts)

closer_assign : (w : SequenceKind) (ts : Tokens) → sees s.Assign (cut.sign (closer w) ∷ ts) ≡ false
closer_assign w ts = search (arith, rules)

-- The rest of a sequence after a part.
abbrev row_tail : ℕ → ℕ → SequenceKind → Option Text × Expr → Reader LeveledList
row_tail n turns w p v =
    if sees s.Comma v then (r.row (read n) (suc n) turns (behind_key w p.0) (drop 1 v) >>= λ q z. Ok (put p.0 p.1 q, z))
    else (expect (closer w) v >>= λ _ z. Ok (put p.0 p.1 no_parts, z))

row_turn : (n turns : ℕ) (w : SequenceKind) (ts : Tokens) → sees (closer w) ts ≡ false
    → r.row (read n) (suc n) (suc turns) w ts ≡ (r.part (read n) (suc n) w ts >>= row_tail n turns w)
unfolding r.row
row_turn n turns w ts h = rw h

tail_closes : (n turns : ℕ) (w : SequenceKind) (p : Option Text × Expr) (rest : Tokens)
    → row_tail n turns w p (cut.sign (closer w) ∷ rest) ≡ Ok (put p.0 p.1 no_parts, rest)
tail_closes n turns w p rest =
    rw (no_comma w rest) (ap (λ o. o >>= λ _ z. Ok (put p.0 p.1 no_parts, z)) (closes w rest))

last_at : (w : SequenceKind) (k : Option Text) (t : Expr) (x : Tokens)
    → ((rest : Tokens) → sees (closer w) (x ++ rest) ≡ false) → PartAt w k t x
    → RowAt w (put k t no_parts) (x ++ (cut.sign (closer w) ∷ []))
last_at w k t x b d n zero rest le = absurd (omega (arith, length-append x (cut.sign (closer w) ∷ [])))
last_at w k t x b d n (suc turns) rest le =
    let z = cut.sign (closer w) ∷ rest in
    let all : ℕ = parts_levels (put k t no_parts) in
    ap (r.row (read n) (suc n) (suc turns) w) (append_assoc x (cut.sign (closer w) ∷ []) rest)
    ∙ row_turn n turns w (x ++ z) (b z)
    ∙ ap (λ o. o >>= row_tail n turns w) (d n z (close_stops w rest) (closer_assign w rest))
    ∙ bound (levels t) n all n (k, t) (put k t no_parts) z rest (row_tail n turns w)
    (λ lt. tail_closes n turns w (k, t) rest
    ∙ sym (cap_within all n (put k t no_parts) rest (omega (arith, put_levels k t no_parts))))
    (λ gt. omega (arith, put_levels k t no_parts))

more_at : (w : SequenceKind) (k : Option Text) (t : Expr) (p : LeveledList) (x y : Tokens)
    → ((rest : Tokens) → sees (closer w) (x ++ rest) ≡ false) → PartAt w k t x → RowAt (behind_key w k) p y
    → RowAt w (put k t p) (x ++ (cut.sign s.Comma ∷ y))
more_at w k t p x y b d g n zero rest le = absurd (omega (arith, length-append x (cut.sign s.Comma ∷ y)))
more_at w k t p x y b d g n (suc turns) rest le =
    search (arith, rules, append_assoc, row_turn, comma_stops, bound, length-append, cap_within, put_levels)

-- ---- arguments

without_at : ArgumentsAt no_parts []
unfolding r.arguments_at
without_at n rest st = rw st (sym (cap_within 0 n no_parts rest (omega arith)))

within_at : (p : LeveledList) (x : Tokens) → RowAt arguments p x → ArgumentsAt p (cut.sign s.LeftParen ∷ x)
unfolding r.arguments_at
within_at p x g n rest st = g n (length (x ++ rest)) rest (omega (arith, length-append x rest))

arguments_begin : {p : LeveledList} {x : Tokens} → Arguments p x → (rest : Tokens) → begins_argument rest ≡ false
    → begins_argument (x ++ rest) ≡ false
arguments_begin without rest h = h
arguments_begin (within d) rest h = refl

as_filter_at : (p : LeveledList) (x : Tokens) → ArgumentsAt p x
    → ((rest : Tokens) → begins_argument rest ≡ false → begins_argument (x ++ rest) ≡ false) → TestArgumentsAt p x
unfolding r.test_arguments
as_filter_at p x g b n rest st = rw (b rest st.0) (g n rest st.1.2)

bare_at : (t : Expr) (x : Tokens) → begins_argument x ≡ true → At postfix t x
    → TestArgumentsAt (expr t no_exprs, no_pairs) x
unfolding r.test_arguments
bare_at t x b d n rest st =
    let p : LeveledList = (expr t no_exprs, no_pairs) in
    let go : Expr → Reader LeveledList = λ t v. Ok ((expr t no_exprs, no_pairs), v) in
    rw (argument-append x rest b)
    (ap (λ o. o >>= go) (inside postfix t x d n rest st.1)
    ∙ bound (levels t) n (parts_levels p) n t p rest rest go
    (λ le. sym (cap_within (parts_levels p) n p rest (omega arith))) (λ gt. omega arith))

-- ---- primaries

group_at : (t : Expr) (x : Tokens) → At whole t x
    → PrimaryAt (group t) (cut.sign s.LeftParen ∷ (x ++ cut.sign s.RightParen ∷ []))
unfolding r.primary r.opened expect
group_at t x d n rest =
    let tail : Expr → Reader Expr = λ u v. expect s.RightParen v >>= λ _ w. Ok (group u, w) in
    rw (append_assoc x (cut.sign s.RightParen ∷ []) rest)
    (ap (λ o. o >>= tail) (inside whole t x d n (cut.sign s.RightParen ∷ rest) (close_stops arguments rest))
    ∙ bound (levels t) n (levels (group t)) (suc n) t (group t) (cut.sign s.RightParen ∷ rest) rest tail
    (λ le. sym (cap_within (levels (group t)) (suc n) (group t) rest (omega arith))) (λ gt. omega arith))

list_at : (ts : Exprs) (x : Tokens) → RowAt items (ts, no_pairs) x → PrimaryAt (list_of ts) (cut.sign s.LeftBracket ∷ x)
unfolding r.primary r.opened
list_at ts x g n rest = search (arith, rules, length-append, bound, cap_within)

map_at : (ps : Pairs) (x : Tokens) → RowAt entries (no_exprs, ps) x → PrimaryAt (map_of ps) (cut.sign s.LeftBrace ∷ x)
unfolding r.primary r.opened
map_at ps x g n rest = search (arith, rules, length-append, bound, cap_within)

number_at : (v : ℤ) → PrimaryAt (constant (number v)) (cut.number v ∷ [])
unfolding r.primary
number_at v n rest = sym (cap_within 1 (suc n) (constant (number v)) rest (omega arith))

text_at : (v : Text) → PrimaryAt (constant (text (encode_utf8_all v))) (cut.text v ∷ [])
unfolding r.primary
text_at v n rest = sym (cap_within 1 (suc n) (constant (text (encode_utf8_all v))) rest (omega arith))

constant_at : (l : Literal) (x : Text) → literal_of x ≡ Some l → PrimaryAt (constant l) (cut.name x ∷ [])
unfolding r.primary
constant_at l x e n rest =
    ap (λ o. r.word_by (read n) (suc n) o x rest) e ∙ sym (cap_within 1 (suc n) (constant l) rest (omega arith))

name_primary : (x : Text) → is_reserved x ≡ false → PrimaryAt (name (encode_utf8_all x)) (cut.name x ∷ [])
unfolding r.primary
name_primary x h n rest = search (arith, rules, no_literal, cap_within, encode_utf8_all)

-- ---- the levels

chain_at : (k : Level) (a t : Expr) (x y : Tokens) → is_chain k ≡ true → At (next k) a x → OnAt k a t y
    → levels a ≤ levels t → ((rest : Tokens) → Stops k rest → Above k (y ++ rest)) → At k t (x ++ y)
chain_at k a t x y c d g le ab n rest st =
    search (arith, rules, append_assoc, chain_reads, chain_above, first, levels_some)

postscript_at : (a t : Expr) (x y : Tokens) → At signed a x → OnAt postscript a t y → levels a ≤ levels t
    → ((rest : Tokens) → PostscriptStops rest → PostfixStops (y ++ rest)) → At postscript t (x ++ y)
unfolding read_at read_postscript
postscript_at a t x y d g le ab n rest st = search (arith, rules, append_assoc, first, levels_some)

postfix_at : (a t : Expr) (x y : Tokens) → PrimaryAt a x → OnAt postfix a t y → levels a ≤ levels t
    → At postfix t (x ++ y)
unfolding read_at read_postfix
postfix_at a t x y d g le n rest st = search (arith, rules, append_assoc, first, levels_some)

-- A prefix operator before a form that is one level deeper.
in_front : (op : UnaryOperator) (k : Level) (t : Expr) (x : Tokens) → At k t x → (n : ℕ) (rest : Tokens) → Stops k rest
    → (read n k (x ++ rest) >>= λ t v. Ok (unary op t, v)) ≡ cap (levels (unary op t)) (suc n) (unary op t) rest
in_front op k t x d n rest st =
    ap (λ o. o >>= λ t v. Ok (unary op t, v)) (inside k t x d n rest st)
    ∙ bound (levels t) n (levels (unary op t)) (suc n) t (unary op t) rest rest (λ t v. Ok (unary op t, v))
    (λ le. sym (cap_within (levels (unary op t)) (suc n) (unary op t) rest (omega arith))) (λ gt. omega arith)

inverted_at : (t : Expr) (x : Tokens) → At inversion t x → At inversion (unary u.Not t) (word (codes "not") ∷ x)
unfolding read_at read_inversion
inverted_at t x d n rest st = in_front u.Not inversion t x d n rest st

upright_at : (t : Expr) (x : Tokens) → begins_signed x ≡ true → At comparison t x → At inversion t x
unfolding read_at read_inversion
upright_at t x b d n rest st = rw (no_not-signed (x ++ rest) (signed-append x rest b)) (d n rest st)

minus_at : (t : Expr) (x : Tokens) → At signed t x → At signed (unary u.Negate t) (cut.sign s.Minus ∷ x)
unfolding read_at read_signed
minus_at t x d n rest st = in_front u.Negate signed t x d n rest st

plus_at : (t : Expr) (x : Tokens) → At signed t x → At signed (unary u.Plus t) (cut.sign s.Plus ∷ x)
unfolding read_at read_signed
plus_at t x d n rest st = in_front u.Plus signed t x d n rest st

unsigned_at : (t : Expr) (x : Tokens) → begins_primary x ≡ true → At postfix t x → At signed t x
unfolding read_at read_signed
unsigned_at t x b d n rest st = search (arith, rules, primary-append, no_minus-primary, no_plus-primary)

alone_at : (t : Expr) (x : Tokens) → At sum t x → At comparison t x
unfolding read_at read_comparison
alone_at t x d n rest st = search (arith, rules, bound, cap_within)

compared_at : (op : BinaryOperator) (a b : Expr) (x y : Tokens) → level_of op ≡ comparison → At sum a x → At sum b y
    → At comparison (binary op a b) (x ++ (operator_tokens op ++ y))
unfolding read_at read_comparison
compared_at op a b x y e d f n rest st =
    let z = operator_tokens op ++ (y ++ rest) in
    let go : Expr → Reader Expr = λ left v. r.compare_by (read n) (suc n) left v (operator comparison v) in
    let tail : Expr → Reader Expr = λ c v. cap (levels (binary op a c)) (suc n) (binary op a c) v in
    let regroup : (x ++ (operator_tokens op ++ y)) ++ rest ≡ x ++ z =
    append_assoc x (operator_tokens op ++ y) rest ∙ ap (λ w. x ++ w) (append_assoc (operator_tokens op) y rest) in
    let found : operator comparison z ≡ Some (op, y ++ rest) =
    subst (λ j. operator j z ≡ Some (op, y ++ rest)) e (operator_at op (y ++ rest)) in
    let stops : SumStops z = subst (λ j. Above j z) e (operator_stops op (y ++ rest)) in
    ap (read_comparison (read n) (suc n)) regroup
    ∙ ap (λ o. o >>= go) (d n z stops)
    ∙ bound (levels a) (suc n) (levels (binary op a b)) (suc n) a (binary op a b) z rest go
    (λ la. ap (r.compare_by (read n) (suc n) a z) found
    ∙ ap (λ o. o >>= tail) (f n rest st.1)
    ∙ bound (levels b) (suc n) (levels (binary op a b)) (suc n) b (binary op a b) rest rest tail (λ lb. refl)
    (λ gt. omega arith))
    (λ gt. omega arith)

-- ---- inline ifs

plain_at : (t : Expr) (x : Tokens) → At disjunction t x → At whole t x
unfolding read_at read_whole if_part
plain_at t x d n rest st = search (arith, rules, bound, cap_within)

-- An inline `if`, from its parts.
if_at : (a c t : Expr) (x y z : Tokens) → levels a ≤ levels t → levels c ≤ levels t → At disjunction a x
    → At disjunction c y → (n : ℕ) (rest : Tokens) → DisjunctionStops z
    → (levels a ≤ suc n → levels c ≤ suc n → else_part (read n) (suc n) a c z ≡ cap (levels t) (suc n) t rest)
    → read_whole (read n) (suc n) (x ++ (word (codes "if") ∷ (y ++ z))) ≡ cap (levels t) (suc n) t rest
unfolding read_at read_whole if_part
if_at a c t x y z la lc d f n rest st g = search (arith, rules, if_stops, bound)

an_if_at : (c a : Expr) (x y : Tokens) → At disjunction a x → At disjunction c y
    → At whole (when c a) (x ++ (word (codes "if") ∷ y))
unfolding read_at else_part
an_if_at c a x y d f n rest st = search (arith, rules, append_assoc, if_at)

an_if_else_at : (c a b : Expr) (x y z : Tokens) → At disjunction a x → At disjunction c y → At whole b z
    → At whole (choice c a b) (x ++ (word (codes "if") ∷ (y ++ (word (codes "else") ∷ z))))
unfolding read_at else_part
an_if_else_at c a b x y z d f g n rest st =
    let v = word (codes "else") ∷ (z ++ rest) in
    let tail : Expr → Reader Expr = λ b w. cap (levels (choice c a b)) (suc n) (choice c a b) w in
    ap (read_whole (read n) (suc n)) (append_assoc x (word (codes "if") ∷ (y ++ (word (codes "else") ∷ z))) rest
    ∙ ap (λ w. x ++ (word (codes "if") ∷ w)) (append_assoc y (word (codes "else") ∷ z) rest))
    ∙ if_at a c (choice c a b) x y v (omega arith) (omega arith) d f n rest (else_stops (z ++ rest))
    (λ ha hc. ap (λ o. o >>= tail) (inside whole b z g n rest st)
    ∙ bound (levels b) n (levels (choice c a b)) (suc n) b (choice c a b) rest rest tail (λ lb. refl)
    (λ gt. omega arith))

-- ---- all forms

mutual
  spells_at : {k : Level} {t : Expr} {x : Tokens} → Spells k t x → At k t x
  spells_at (plain {t} {x} d) = plain_at t x (spells_at d)
  spells_at (an_if {c} {a} {x} {y} d f) = an_if_at c a x y (spells_at d) (spells_at f)
  spells_at (an_if_else {c} {a} {b} {x} {y} {z} d f g) =
      an_if_else_at c a b x y z (spells_at d) (spells_at f) (spells_at g)
  spells_at (chain {k} {a} {t} {x} {y} c d g) = chain_at k a t x y c (spells_at d) (goes_at g) (grows g) (goes_stops g)
  spells_at (inverted {t} {x} d) = inverted_at t x (spells_at d)
  spells_at (upright {t} {x} d) = upright_at t x (begins d) (spells_at d)
  spells_at (compared {op} {a} {b} {x} {y} e d f) = compared_at op a b x y e (spells_at d) (spells_at f)
  spells_at (alone {t} {x} d) = alone_at t x (spells_at d)
  spells_at (postscripts {a} {t} {x} {y} d g) = postscript_at a t x y (spells_at d) (goes_at g) (grows g) (goes_stops g)
  spells_at (minus {t} {x} d) = minus_at t x (spells_at d)
  spells_at (plus {t} {x} d) = plus_at t x (spells_at d)
  spells_at (unsigned {t} {x} d) = unsigned_at t x (begins d) (spells_at d)
  spells_at (postfixes {a} {t} {x} {y} d g) = postfix_at a t x y (primary_at d) (goes_at g) (grows g)

  goes_at : {k : Level} {a t : Expr} {y : Tokens} → Goes k a t y → OnAt k a t y
  goes_at (stay {k} {t}) = stay_on k t
  goes_at (operated {k} {op} {a} {b} {t} {x} {y} c e d g) =
      operated_on k op a b t x y c e (spells_at d) (goes_at g) (grows g) (goes_stops g)
  goes_at (filtered {a} {t} {n} {ts} {ps} {x} {y} h d g) =
      filtered_on a t n (ts, ps) x y h (arguments_at d) (goes_at g) (grows g) (goes_behind g)
  goes_at (tested {a} {t} {b} {ts} {ps} {x} {y} n h d g) =
      tested_on a t b n (ts, ps) x y h (test_arguments_at d) (goes_at g) (grows g) (goes_behind g)
  goes_at (attributed {a} {t} {n} {y} g) = attributed_on a t n y (goes_at g) (grows g)
  goes_at (indexed {a} {i} {t} {x} {y} d g) = indexed_on a i t x y (spells_at d) (goes_at g) (grows g)
  goes_at (called {a} {t} {ts} {ps} {x} {y} d g) = called_on a t (ts, ps) x y (row_at d) (goes_at g) (grows g)

  primary_at : {t : Expr} {x : Tokens} → Primary t x → PrimaryAt t x
  primary_at (a_number {n}) = number_at n
  primary_at (a_text {v}) = text_at v
  primary_at (a_constant {l} {x} e) = constant_at l x e
  primary_at (a_name {x} h) = name_primary x h
  primary_at (a_group {t} {x} d) = group_at t x (spells_at d)
  primary_at (a_list {ts} {x} d) = list_at ts x (row_at d)
  primary_at (a_map {ps} {x} d) = map_at ps x (row_at d)

  arguments_at : {p : LeveledList} {x : Tokens} → Arguments p x → ArgumentsAt p x
  arguments_at without = without_at
  arguments_at (within {p} {x} d) = within_at p x (row_at d)

  test_arguments_at : {p : LeveledList} {x : Tokens} → TestArguments p x → TestArgumentsAt p x
  test_arguments_at (as_filter {p} {x} d) = as_filter_at p x (arguments_at d) (arguments_begin d)
  test_arguments_at (bare {t} {x} b d) = bare_at t x b (spells_at d)

  row_at : {w : SequenceKind} {p : LeveledList} {x : Tokens} → Holds w p x → RowAt w p x
  row_at (closed {r = w}) = closed_at w
  row_at (last {r = w} {k} {t} {x} d) = last_at w k t x (part_open d) (part_at d)
  row_at (more {r = w} {k} {t} {p} {x} {y} d g) = more_at w k t p x y (part_open d) (part_at d) (row_at g)

  part_at : {w : SequenceKind} {k : Option Text} {t : Expr} {x : Tokens} → IsPart w k t x → PartAt w k t x
  part_at (without_key {r = w} {t} {x} e d) = without_key_at w t x e (begins d) (second d) (spells_at d)
  part_at (an_entry {v} {t} {x} d) = an_entry_at v t x (spells_at d)
  part_at (by_name {r = w} {n} {t} {x} e h d) = by_name_at w n t x e h (spells_at d)

-- A tree that the tokens spell is read if its levels are allowed, and refused as too deep
-- otherwise.
pub spelled_is_read : {k : Level} {t : Expr} {x : Tokens} → Spells k t x → (n : ℕ) (rest : Tokens) → Stops k rest
    → read n k (x ++ rest) ≡ cap (levels t) n t rest
spelled_is_read {k} {t} {x} d = inside k t x (spells_at d)

-- Arguments that no `(` follows are read, or refused as too deep.
pub arguments_are_read : {p : LeveledList} {x : Tokens} → Arguments p x → ArgumentsAt p x
arguments_are_read d = arguments_at d
