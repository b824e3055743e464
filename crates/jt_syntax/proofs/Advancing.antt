-- Tokens that spell a form lead from a place where it may begin to the place behind it.
use Rattle.std.proofs.Common.{◌≡◌, ℤ, Bool, true, false, List, [], ◌∷◌, ◌++◌, codes, refl, sym, ap, subst, ◌∙◌, arith}
use Rattle.std.proofs.Common.{Option, Some, None, rules, ◌⊎◌, inl, inr, bytes_eq, encode_utf8_all}
use Rattle.std.proofs.lemmas.Bool.{not-true}
use Rattle.jt_scan.specs.Cut as cut
use Rattle.jt_scan.specs.declared.segment.Sign.{Sign}
use Rattle.jt_scan.specs.declared.segment.Sign.TheVariants as s
use Rattle.jt_ast.specs.declared.expression.BinaryOperator.{BinaryOperator}
use Rattle.jt_ast.specs.Expressions.{Text, Expr}
use Rattle.jt_expr.specs.Grammar.{Tokens, word, is_reserved, literal_of, names_test, Level, whole, disjunction}
use Rattle.jt_expr.specs.Grammar.{conjunction, inversion, comparison, sum, concatenation, product, power, postscript}
use Rattle.jt_expr.specs.Grammar.{signed, postfix, next, is_chain, level_of, operator_tokens, is_tokens}
use Rattle.jt_expr.specs.Grammar.{begins_argument, opens_argument, SequenceKind, items, entries, arguments}
use Rattle.jt_expr.specs.Grammar.{keywords, closer}
use Rattle.jt_expr.specs.Grammar.{takes_plain, takes_names, behind_key, LeveledList, Spells, plain, an_if, an_if_else}
use Rattle.jt_expr.specs.Grammar.{chain, inverted, upright, compared, alone, postscripts, minus, plus, unsigned}
use Rattle.jt_expr.specs.Grammar.{postfixes, Goes, stay, operated, filtered, tested, attributed, indexed, called}
use Rattle.jt_expr.specs.Grammar.{Primary, a_number, a_text, a_constant, a_name, a_group, a_list, a_map, Arguments}
use Rattle.jt_expr.specs.Grammar.{without, within, TestArguments, as_filter, bare, Holds, closed, last, more, IsPart}
use Rattle.jt_expr.specs.Grammar.{without_key, an_entry, by_name}
use Rattle.jt_syntax.specs.declared.frames.Row.{Row}
use Rattle.jt_syntax.specs.declared.frames.Row.TheVariants as row
use Rattle.jt_syntax.specs.declared.frames.Follow.{Follow}
use Rattle.jt_syntax.specs.declared.frames.Follow.TheVariants as follow
use Rattle.jt_syntax.specs.declared.frames.Bracket.{Bracket}
use Rattle.jt_syntax.specs.declared.frames.Bracket.TheVariants as b
use Rattle.jt_syntax.specs.declared.frames.Clause.{Clause}
use Rattle.jt_syntax.specs.declared.frames.Clause.TheVariants as clause
use Rattle.jt_syntax.specs.declared.frames.Comparison.{Comparison}
use Rattle.jt_syntax.specs.declared.frames.Comparison.TheVariants as comparison_is
use Rattle.jt_syntax.specs.declared.frames.Frame.{Frame}
use Rattle.jt_syntax.specs.declared.frames.Prefixes.TheVariants as prefixes
use Rattle.jt_syntax.specs.declared.frames.Ending.TheVariants as ending
use Rattle.jt_syntax.specs.declared.frames.Place.TheVariants as p
use Rattle.jt_syntax.specs.declared.kinds.Kind.{Kind}
use Rattle.jt_syntax.specs.declared.kinds.Kind.TheVariants as k
use Rattle.jt_syntax.specs.declared.frames.Move.TheVariants as m
use Rattle.jt_syntax.specs.internal.Kinds.{word_kind, is_word}
use Rattle.jt_syntax.specs.internal.Moves.{frame, fresh, follows, named}
use Rattle.jt_syntax.specs.internal.Moves as moves
use Rattle.jt_syntax.specs.internal.States.{State, at, walk, step, made_by, start}
use Rattle.jt_syntax.proofs.Covering.{Walks, arrived, then, covers, covers_trans}
use Rattle.jt_syntax.proofs.Words.{name_kind, constant_kind, word_is_word, operand_kind, not_kind}

-- ---- what is to be proved

abbrev operand_all : Frame → List Frame → State
operand_all f fs = at (p.Operand prefixes.All) f fs

abbrev operand_signs : Frame → List Frame → State
operand_signs f fs = at (p.Operand prefixes.Signs) f fs

abbrev behind : Frame → List Frame → State
behind f fs = at (p.Behind ending.Postscript) f fs

abbrev To : State → Tokens → Frame → List Frame → Type 0
To x ts f fs = Walks x ts (p.Behind ending.Postscript) f fs

abbrev ToPostfix : State → Tokens → Frame → List Frame → Type 0
ToPostfix x ts f fs = Walks x ts (p.Behind ending.Postfix) f fs

-- The tokens lead over an operand, in a frame whose comparison may change.
pub record Compares (x : State) (ts : Tokens) (c : Bracket) (l : Clause) (fs : List Frame) : Type 0 where
  pub taken : Comparison
  pub walks : To x ts (frame c l taken) fs

-- In a frame whose clause may change, too.
pub record Chooses (x : State) (ts : Tokens) (c : Bracket) (fs : List Frame) : Type 0 where
  pub clause : Clause
  pub taken : Comparison
  pub walks : To x ts (frame c clause taken) fs

abbrev Whole : Tokens → Type 0
Whole x = (c : Bracket) (fs : List Frame) → Chooses (operand_all (fresh c) fs) x c fs

abbrev Inverted : Tokens → Type 0
Inverted x = (c : Bracket) (l : Clause) (fs : List Frame)
    → Compares (operand_all (frame c l comparison_is.Open) fs) x c l fs

abbrev Comparing : Tokens → Type 0
Comparing x = (c : Bracket) (l : Clause) (fs : List Frame)
    → Compares (operand_signs (frame c l comparison_is.Open) fs) x c l fs

abbrev Plain : Tokens → Type 0
Plain x = (f : Frame) (fs : List Frame) → To (operand_signs f fs) x f fs

abbrev Postfixed : Tokens → Type 0
Postfixed x = (f : Frame) (fs : List Frame) → ToPostfix (operand_signs f fs) x f fs

abbrev Crosses : Level → Tokens → Type 0
Crosses whole x = Whole x
Crosses disjunction x = Inverted x
Crosses conjunction x = Inverted x
Crosses inversion x = Inverted x
Crosses comparison x = Comparing x
Crosses postfix x = Postfixed x
Crosses _ x = Plain x

abbrev Joins : Tokens → Type 0
Joins x = (c : Bracket) (l : Clause) (t : Comparison) (fs : List Frame) → Compares (behind (frame c l t) fs) x c l fs

abbrev Continues : Tokens → Type 0
Continues x = (f : Frame) (fs : List Frame) → To (behind f fs) x f fs

abbrev Extends : Level → Tokens → Type 0
Extends disjunction x = Joins x
Extends conjunction x = Joins x
Extends sum x = Continues x
Extends concatenation x = Continues x
Extends product x = Continues x
Extends power x = Continues x
Extends postscript x = Continues x
Extends postfix x = (f : Frame) (fs : List Frame) → ToPostfix (at (p.Behind ending.Postfix) f fs) x f fs
Extends _ x = Unit {0}

abbrev row_of : SequenceKind → Row
row_of items = row.Items
row_of entries = row.Entries
row_of arguments = row.Arguments
row_of keywords = row.Keywords

abbrev HoldsAt : SequenceKind → Tokens → Type 0
HoldsAt r x = (t : Follow) (f : Frame) (fs : List Frame)
    → Walks (at p.Part (fresh (b.Sequence (row_of r) t)) (f ∷ fs)) x (follows t) f fs

abbrev PartAt : SequenceKind → Option Text → Tokens → Type 0
PartAt r k x = (t : Follow) (fs : List Frame)
    → Chooses (at p.Part (fresh (b.Sequence (row_of r) t)) fs) x (b.Sequence (row_of (behind_key r k)) t) fs

abbrev ArgumentsAt : Tokens → Type 0
ArgumentsAt x = (f : Frame) (fs : List Frame) → To (at (p.Behind ending.FilterName) f fs) x f fs

abbrev TestArgumentsAt : Tokens → Type 0
TestArgumentsAt x = (f : Frame) (fs : List Frame) → To (at (p.Behind ending.TestName) f fs) x f fs

-- ---- composition

-- Over tokens that lead to a state.
over : (x y : State) (ts us : Tokens) (r : _) (g : Frame) (gs : List Frame) → walk ts (Some x) ≡ Some y
    → Walks y us r g gs → Walks x (ts ++ us) r g gs
over x (at q f fs) ts us r g gs h w = then x ts us q f fs r g gs (arrived x ts q f fs h) w

-- A place that covers another one begins alike.
raised : (ts : Tokens) (q r : _) (f : Frame) (fs : List Frame) (u : _) (g : Frame) (gs : List Frame)
    → covers f.bracket q r ≡ true → Walks (at q f fs) ts u g gs → Walks (at r f fs) ts u g gs
raised ts q r f fs u g gs h w =
    then (at r f fs) [] ts q f fs u g gs (record { place = r; walked = refl; covered = h }) w

-- ---- primaries

number_at : (n : ℤ) → Postfixed (cut.number n ∷ [])
number_at n f fs = arrived _ _ _ _ _ refl

text_at : (v : Text) → Postfixed (cut.text v ∷ [])
text_at v f fs = arrived _ _ _ _ _ refl

constant_at : (x : Text) (l : _) → literal_of x ≡ Some l → Postfixed (cut.name x ∷ [])
constant_at x l e f fs =
    arrived _ _ _ _ _ (ap (λ k. walk [] (step (operand_signs f fs) k)) (constant_kind x l e))

name_at : (x : Text) → is_reserved x ≡ false → Postfixed (cut.name x ∷ [])
name_at x e f fs = arrived _ _ _ _ _ (ap (λ k. walk [] (step (operand_signs f fs) k)) (name_kind x e))

group_at : (x : Tokens) → Whole x → Postfixed (cut.sign s.LeftParen ∷ (x ++ cut.sign s.RightParen ∷ []))
group_at x d f fs =
    let w = d b.Group (f ∷ fs) in
    over (operand_signs f fs) (operand_all (fresh b.Group) (f ∷ fs)) (cut.sign s.LeftParen ∷ [])
    (x ++ cut.sign s.RightParen ∷ []) _ _ _ refl
    (then _ x (cut.sign s.RightParen ∷ []) _ _ _ _ _ _ w.walks (arrived _ _ _ _ _ refl))

list_at : (x : Tokens) → HoldsAt items x → Postfixed (cut.sign s.LeftBracket ∷ x)
list_at x d f fs = over _ _ (cut.sign s.LeftBracket ∷ []) x _ _ _ refl (d follow.Postfix f fs)

map_at : (x : Tokens) → HoldsAt entries x → Postfixed (cut.sign s.LeftBrace ∷ x)
map_at x d f fs = over _ _ (cut.sign s.LeftBrace ∷ []) x _ _ _ refl (d follow.Postfix f fs)

-- ---- inline ifs

if_step : (c : Bracket) (t : Comparison) (fs : List Frame)
    → walk (word (codes "if") ∷ []) (Some (behind (frame c clause.Value t) fs))
    ≡ Some (operand_all (frame c clause.Condition comparison_is.Open) fs)
unfolding word_kind
if_step c t fs = refl

else_step : (c : Bracket) (t : Comparison) (fs : List Frame)
    → walk (word (codes "else") ∷ []) (Some (behind (frame c clause.Condition t) fs)) ≡ Some (operand_all (fresh c) fs)
unfolding word_kind
else_step c t fs = refl

not_step : (f : Frame) (fs : List Frame)
    → walk (word (codes "not") ∷ []) (Some (operand_all f fs)) ≡ Some (operand_all f fs)
unfolding word_kind
not_step f fs = refl

plain_at : (x : Tokens) → Inverted x → Whole x
plain_at x d c fs = let w = d c clause.Value fs in record { clause = clause.Value; taken = w.taken; walks = w.walks }

an_if_at : (x y : Tokens) → Inverted x → Inverted y → Whole (x ++ (word (codes "if") ∷ y))
an_if_at x y d e c fs =
    let v = d c clause.Value fs in
    let w = e c clause.Condition fs in
    record {
      clause = clause.Condition;
      taken = w.taken;
      walks = then _ x (word (codes "if") ∷ y) _ _ _ _ _ _ v.walks
          (over _ _ (word (codes "if") ∷ []) y _ _ _ (if_step c v.taken fs) w.walks);
    }

an_if_else_at : (x y z : Tokens) → Inverted x → Inverted y → Whole z
    → Whole (x ++ (word (codes "if") ∷ (y ++ (word (codes "else") ∷ z))))
an_if_else_at x y z d e g c fs =
    let u = d c clause.Value fs in
    let v = e c clause.Condition fs in
    let w = g c fs in
    record {
      clause = w.clause;
      taken = w.taken;
      walks = then _ x (word (codes "if") ∷ (y ++ (word (codes "else") ∷ z))) _ _ _ _ _ _ u.walks
          (over _ _ (word (codes "if") ∷ []) (y ++ (word (codes "else") ∷ z)) _ _ _ (if_step c u.taken fs)
          (then _ y (word (codes "else") ∷ z) _ _ _ _ _ _ v.walks
          (over _ _ (word (codes "else") ∷ []) z _ _ _ (else_step c v.taken fs) w.walks)));
    }

-- ---- operators

abbrev logical : Level → Bool
logical disjunction = true
logical conjunction = true
logical _ = false

abbrev arithmetic : Level → Bool
arithmetic sum = true
arithmetic concatenation = true
arithmetic product = true
arithmetic power = true
arithmetic _ = false

abbrev comparing : Level → Bool
comparing comparison = true
comparing _ = false

logic_step : (op : BinaryOperator) (c : Bracket) (l : Clause) (t : Comparison) (fs : List Frame)
    → logical (level_of op) ≡ true
    → walk (operator_tokens op) (Some (behind (frame c l t) fs)) ≡ Some (operand_all (frame c l comparison_is.Open) fs)
unfolding word_kind
logic_step op c l t fs h = search (arith, rules)

arithmetic_step : (op : BinaryOperator) (f : Frame) (fs : List Frame) → arithmetic (level_of op) ≡ true
    → walk (operator_tokens op) (Some (behind f fs)) ≡ Some (operand_signs f fs)
unfolding word_kind
arithmetic_step op f fs h = search (arith, rules)

compare_step : (op : BinaryOperator) (c : Bracket) (l : Clause) (fs : List Frame) → comparing (level_of op) ≡ true
    → walk (operator_tokens op) (Some (behind (frame c l comparison_is.Open) fs))
    ≡ Some (operand_signs (frame c l comparison_is.Taken) fs)
unfolding word_kind
compare_step op c l fs h = search (arith, rules)

joined_at : (x y : Tokens) → Inverted x → Joins y → Inverted (x ++ y)
joined_at x y d g c l fs =
    let v = d c l fs in
    let w = g c l v.taken fs in
    record { taken = w.taken; walks = then _ x y _ _ _ _ _ _ v.walks w.walks }

continued_at : (x y : Tokens) → Plain x → Continues y → Plain (x ++ y)
continued_at x y d g f fs = then _ x y _ _ _ _ _ _ (d f fs) (g f fs)

chain_at : (k : Level) (x y : Tokens) → is_chain k ≡ true → Crosses (next k) x → Extends k y → Crosses k (x ++ y)
chain_at whole x y h d g = absurd (cc)
chain_at disjunction x y h d g = joined_at x y d g
chain_at conjunction x y h d g = joined_at x y d g
chain_at inversion x y h d g = absurd (cc)
chain_at comparison x y h d g = absurd (cc)
chain_at sum x y h d g = continued_at x y d g
chain_at concatenation x y h d g = continued_at x y d g
chain_at product x y h d g = continued_at x y d g
chain_at power x y h d g = continued_at x y d g
chain_at postscript x y h d g = absurd (cc)
chain_at signed x y h d g = absurd (cc)
chain_at postfix x y h d g = absurd (cc)

logic_at : (op : BinaryOperator) (x y : Tokens) → logical (level_of op) ≡ true → Inverted x → Joins y
    → Joins (operator_tokens op ++ (x ++ y))
logic_at op x y h d g c l t fs =
    let w = joined_at x y d g c l fs in
    record {
      taken = w.taken;
      walks = over _ _ (operator_tokens op) (x ++ y) _ _ _ (logic_step op c l t fs h) w.walks;
    }

arithmetic_at : (op : BinaryOperator) (x y : Tokens) → arithmetic (level_of op) ≡ true → Plain x → Continues y
    → Continues (operator_tokens op ++ (x ++ y))
arithmetic_at op x y h d g f fs =
    over _ _ (operator_tokens op) (x ++ y) _ _ _ (arithmetic_step op f fs h) (continued_at x y d g f fs)

operated_at : (k : Level) (op : BinaryOperator) (x y : Tokens) → is_chain k ≡ true → level_of op ≡ k
    → Crosses (next k) x → Extends k y → Extends k (operator_tokens op ++ (x ++ y))
operated_at whole op x y h e d g = absurd (cc)
operated_at disjunction op x y h e d g = logic_at op x y (ap logical e) d g
operated_at conjunction op x y h e d g = logic_at op x y (ap logical e) d g
operated_at inversion op x y h e d g = absurd (cc)
operated_at comparison op x y h e d g = absurd (cc)
operated_at sum op x y h e d g = arithmetic_at op x y (ap arithmetic e) d g
operated_at concatenation op x y h e d g = arithmetic_at op x y (ap arithmetic e) d g
operated_at product op x y h e d g = arithmetic_at op x y (ap arithmetic e) d g
operated_at power op x y h e d g = arithmetic_at op x y (ap arithmetic e) d g
operated_at postscript op x y h e d g = absurd (cc)
operated_at signed op x y h e d g = absurd (cc)
operated_at postfix op x y h e d g = absurd (cc)

stay_at : (k : Level) → Extends k []
stay_at whole = tt
stay_at disjunction = λ c l t fs. record { taken = t; walks = arrived _ _ _ _ _ refl }
stay_at conjunction = λ c l t fs. record { taken = t; walks = arrived _ _ _ _ _ refl }
stay_at inversion = tt
stay_at comparison = tt
stay_at sum = λ f fs. arrived _ _ _ _ _ refl
stay_at concatenation = λ f fs. arrived _ _ _ _ _ refl
stay_at product = λ f fs. arrived _ _ _ _ _ refl
stay_at power = λ f fs. arrived _ _ _ _ _ refl
stay_at postscript = λ f fs. arrived _ _ _ _ _ refl
stay_at signed = tt
stay_at postfix = λ f fs. arrived _ _ _ _ _ refl

inverted_at : (x : Tokens) → Inverted x → Inverted (word (codes "not") ∷ x)
inverted_at x d c l fs =
    let w = d c l fs in
    record {
      taken = w.taken;
      walks = over _ _ (word (codes "not") ∷ []) x _ _ _ (not_step (frame c l comparison_is.Open) fs) w.walks;
    }

upright_at : (x : Tokens) → Comparing x → Inverted x
upright_at x d c l fs =
    let w = d c l fs in
    record {
      taken = w.taken;
      walks = raised x (p.Operand prefixes.Signs) (p.Operand prefixes.All) _ _ _ _ _ refl w.walks;
    }

compared_at : (op : BinaryOperator) (x y : Tokens) → level_of op ≡ comparison → Plain x → Plain y
    → Comparing (x ++ (operator_tokens op ++ y))
compared_at op x y e d g c l fs =
    record {
      taken = comparison_is.Taken;
      walks = then _ x (operator_tokens op ++ y) _ _ _ _ _ _ (d (frame c l comparison_is.Open) fs)
          (over _ _ (operator_tokens op) y _ _ _ (compare_step op c l fs (ap comparing e))
          (g (frame c l comparison_is.Taken) fs));
    }

alone_at : (x : Tokens) → Plain x → Comparing x
alone_at x d c l fs =
    record { taken = comparison_is.Open; walks = d (frame c l comparison_is.Open) fs }

minus_at : (x : Tokens) → Plain x → Plain (cut.sign s.Minus ∷ x)
minus_at x d f fs = over _ _ (cut.sign s.Minus ∷ []) x _ _ _ refl (d f fs)

plus_at : (x : Tokens) → Plain x → Plain (cut.sign s.Plus ∷ x)
plus_at x d f fs = over _ _ (cut.sign s.Plus ∷ []) x _ _ _ refl (d f fs)

unsigned_at : (x : Tokens) → Postfixed x → Plain x
unsigned_at x d f fs =
    let w = d f fs in
    record {
      place = w.place;
      walked = w.walked;
      covered = covers_trans f.bracket (p.Behind ending.Postscript) (p.Behind ending.Postfix) w.place refl w.covered;
    }

-- ---- filters and tests

filter_step : (n : Text) (f : Frame) (fs : List Frame) → is_reserved n ≡ false
    → walk (cut.sign s.Pipe ∷ cut.name n ∷ []) (Some (behind f fs)) ≡ Some (at (p.Behind ending.FilterName) f fs)
filter_step n f fs h = ap (λ k. walk [] (step (at p.Filter f fs) k)) (name_kind n h)

filtered_at : (n : Text) (x y : Tokens) → is_reserved n ≡ false → ArgumentsAt x → Continues y
    → Continues (cut.sign s.Pipe ∷ cut.name n ∷ (x ++ y))
filtered_at n x y h d g f fs =
    over _ _ (cut.sign s.Pipe ∷ cut.name n ∷ []) (x ++ y) _ _ _ (filter_step n f fs h)
    (then _ x y _ _ _ _ _ _ (d f fs) (g f fs))

named_next : (e : _) (f : Frame) (t : Kind) → is_word t ≡ true → named e f t ≡ Some (m.To (p.Behind e) f)
named_next e f t h = rw h

test_next : (f : Frame) (t : Kind) → is_word t ≡ true → (t ≡ k.Not → ⊥)
    → moves.next p.Test f t ≡ Some (m.To (p.Behind ending.TestName) f)
test_next f t h n = search (arith, rules)

test_step : (n : Text) (f : Frame) (fs : List Frame) → names_test false n ≡ true
    → walk (word (codes "is") ∷ cut.name n ∷ []) (Some (behind f fs)) ≡ Some (at (p.Behind ending.TestName) f fs)
unfolding word_kind
test_step n f fs h =
    ap (λ o. walk [] (made_by o (at p.Test f fs)))
    (test_next f (word_kind n) (word_is_word n) (not_kind n (not-true (bytes_eq n (codes "not")) h)))

not_test_step : (n : Text) (f : Frame) (fs : List Frame)
    → walk (word (codes "is") ∷ word (codes "not") ∷ cut.name n ∷ []) (Some (behind f fs))
    ≡ Some (at (p.Behind ending.TestName) f fs)
unfolding word_kind
not_test_step n f fs =
    ap (λ o. walk [] (made_by o (at p.NegatedTest f fs))) (named_next ending.TestName f (word_kind n) (word_is_word n))

tested_at : (b : Bool) (n : Text) (x y : Tokens) → names_test b n ≡ true → TestArgumentsAt x → Continues y
    → Continues (is_tokens b ++ (cut.name n ∷ (x ++ y)))
tested_at true n x y h d g f fs =
    over _ _ (word (codes "is") ∷ word (codes "not") ∷ cut.name n ∷ []) (x ++ y) _ _ _ (not_test_step n f fs)
    (then _ x y _ _ _ _ _ _ (d f fs) (g f fs))
tested_at false n x y h d g f fs =
    over _ _ (word (codes "is") ∷ cut.name n ∷ []) (x ++ y) _ _ _ (test_step n f fs h)
    (then _ x y _ _ _ _ _ _ (d f fs) (g f fs))

without_at : ArgumentsAt []
without_at f fs = record { place = p.Behind ending.FilterName; walked = refl; covered = refl }

within_at : (x : Tokens) → HoldsAt arguments x → ArgumentsAt (cut.sign s.LeftParen ∷ x)
within_at x d f fs = over _ _ (cut.sign s.LeftParen ∷ []) x _ _ _ refl (d follow.Postscript f fs)

test_without_at : TestArgumentsAt []
test_without_at f fs = record { place = p.Behind ending.TestName; walked = refl; covered = refl }

test_within_at : (x : Tokens) → HoldsAt arguments x → TestArgumentsAt (cut.sign s.LeftParen ∷ x)
test_within_at x d f fs = over _ _ (cut.sign s.LeftParen ∷ []) x _ _ _ refl (d follow.Postscript f fs)

-- The argument of a test begins as an operand.
bare_name : (x : Text) (f : Frame) (fs : List Frame) → (word_kind x ≡ k.Constant) ⊎ (word_kind x ≡ k.Name)
    → step (at (p.Behind ending.TestName) f fs) (word_kind x) ≡ step (operand_signs f fs) (word_kind x)
bare_name x f fs (inl e) = rw e
bare_name x f fs (inr e) = rw e

bare_sign : (j : Sign) (f : Frame) (fs : List Frame) → opens_argument j ≡ true
    → step (at (p.Behind ending.TestName) f fs) (k.Sign j) ≡ step (operand_signs f fs) (k.Sign j)
bare_sign j f fs h = search (arith, rules)

bare_step : (x : Tokens) (f : Frame) (fs : List Frame) → begins_argument x ≡ true
    → walk x (Some (at (p.Behind ending.TestName) f fs)) ≡ walk x (Some (operand_signs f fs))
bare_step [] f fs h = absurd (cc)
bare_step (cut.name x ∷ ts) f fs h = ap (walk ts) (bare_name x f fs (operand_kind x h))
bare_step (cut.number n ∷ ts) f fs h = refl
bare_step (cut.text v ∷ ts) f fs h = refl
bare_step (cut.sign j ∷ ts) f fs h = ap (walk ts) (bare_sign j f fs h)

bare_at : (x : Tokens) → begins_argument x ≡ true → Postfixed x → TestArgumentsAt x
bare_at x h d f fs =
    let w = unsigned_at x d f fs in
    record { place = w.place; walked = bare_step x f fs h ∙ w.walked; covered = w.covered }

-- ---- postfix forms

attribute_step : (n : Text) (f : Frame) (fs : List Frame)
    → walk (cut.sign s.Dot ∷ cut.name n ∷ []) (Some (at (p.Behind ending.Postfix) f fs))
    ≡ Some (at (p.Behind ending.Postfix) f fs)
attribute_step n f fs =
    ap (λ o. walk [] (made_by o (at p.Attribute f fs))) (named_next ending.Postfix f (word_kind n) (word_is_word n))

attributed_at : (n : Text) (y : Tokens) → Extends postfix y → Extends postfix (cut.sign s.Dot ∷ cut.name n ∷ y)
attributed_at n y g f fs =
    over _ _ (cut.sign s.Dot ∷ cut.name n ∷ []) y _ _ _ (attribute_step n f fs) (g f fs)

indexed_at : (x y : Tokens) → Whole x → Extends postfix y
    → Extends postfix (cut.sign s.LeftBracket ∷ (x ++ (cut.sign s.RightBracket ∷ y)))
indexed_at x y d g f fs =
    let w = d b.Item (f ∷ fs) in
    over _ _ (cut.sign s.LeftBracket ∷ []) (x ++ (cut.sign s.RightBracket ∷ y)) _ _ _ refl
    (then _ x (cut.sign s.RightBracket ∷ y) _ _ _ _ _ _ w.walks
    (over _ _ (cut.sign s.RightBracket ∷ []) y _ _ _ refl (g f fs)))

called_at : (x y : Tokens) → HoldsAt arguments x → Extends postfix y
    → Extends postfix (cut.sign s.LeftParen ∷ (x ++ y))
called_at x y d g f fs =
    over _ _ (cut.sign s.LeftParen ∷ []) (x ++ y) _ _ _ refl
    (then _ x y _ _ _ _ _ _ (d follow.Postfix f fs) (g f fs))

postfixes_at : (x y : Tokens) → Postfixed x → Extends postfix y → Postfixed (x ++ y)
postfixes_at x y d g f fs = then _ x y _ _ _ _ _ _ (d f fs) (g f fs)

-- ---- sequences in brackets

closed_at : (r : SequenceKind) → HoldsAt r (cut.sign (closer r) ∷ [])
closed_at items t f fs = arrived _ _ _ _ _ refl
closed_at entries t f fs = arrived _ _ _ _ _ refl
closed_at arguments t f fs = arrived _ _ _ _ _ refl
closed_at keywords t f fs = arrived _ _ _ _ _ refl

closer_step : (r : SequenceKind) (k : Option Text) (t : Follow) (l : Clause) (o : Comparison) (f : Frame)
    (fs : List Frame)
    → walk (cut.sign (closer r) ∷ []) (Some (behind (frame (b.Sequence (row_of (behind_key r k)) t) l o) (f ∷ fs)))
    ≡ Some (at (follows t) f fs)
closer_step items k t l o f fs = refl
closer_step entries k t l o f fs = refl
closer_step arguments None t l o f fs = refl
closer_step arguments (Some k) t l o f fs = refl
closer_step keywords k t l o f fs = refl

last_at : (r : SequenceKind) (k : Option Text) (x : Tokens) → PartAt r k x
    → HoldsAt r (x ++ (cut.sign (closer r) ∷ []))
last_at r k x d t f fs =
    let w = d t (f ∷ fs) in
    then _ x (cut.sign (closer r) ∷ []) _ _ _ _ _ _ w.walks
    (arrived _ _ _ _ _ (closer_step r k t w.clause w.taken f fs))

more_at : (r : SequenceKind) (k : Option Text) (x y : Tokens) → PartAt r k x → HoldsAt (behind_key r k) y
    → HoldsAt r (x ++ (cut.sign s.Comma ∷ y))
more_at r k x y d g t f fs =
    let w = d t (f ∷ fs) in
    then _ x (cut.sign s.Comma ∷ y) _ _ _ _ _ _ w.walks
    (over _ _ (cut.sign s.Comma ∷ []) y _ _ _ refl (g t f fs))

begun : (c : Bracket) (fs : List Frame) (x : Tokens) → covers c (p.Operand prefixes.All) p.Part ≡ true → Whole x
    → Chooses (at p.Part (fresh c) fs) x c fs
begun c fs x h d =
    let w = d c fs in
    record { clause = w.clause; taken = w.taken; walks = raised x (p.Operand prefixes.All) p.Part _ _ _ _ _ h w.walks }

without_key_at : (r : SequenceKind) (x : Tokens) → takes_plain r ≡ true → Whole x → PartAt r None x
without_key_at items x h d t fs = begun (b.Sequence row.Items t) fs x refl d
without_key_at entries x h d t fs = absurd (cc)
without_key_at arguments x h d t fs = begun (b.Sequence row.Arguments t) fs x refl d
without_key_at keywords x h d t fs = absurd (cc)

an_entry_at : (v : Text) (k : Text) (x : Tokens) → Whole x
    → PartAt entries (Some k) (cut.text v ∷ cut.sign s.Colon ∷ x)
an_entry_at v k x d t fs =
    let w = d (b.Sequence row.Entries t) fs in
    record {
      clause = w.clause;
      taken = w.taken;
      walks = over _ _ (cut.text v ∷ cut.sign s.Colon ∷ []) x _ _ _ refl w.walks;
    }

name_step : (r : SequenceKind) (n : Text) (t : Follow) (fs : List Frame) → takes_names r ≡ true → is_reserved n ≡ false
    → walk (cut.name n ∷ cut.sign s.Assign ∷ []) (Some (at p.Part (fresh (b.Sequence (row_of r) t)) fs))
    ≡ Some (operand_all (fresh (b.Sequence row.Keywords t)) fs)
name_step items n t fs e h = absurd (cc)
name_step entries n t fs e h = absurd (cc)
name_step arguments n t fs e h =
    ap (λ k. walk (cut.sign s.Assign ∷ []) (step (at p.Part (fresh (b.Sequence row.Arguments t)) fs) k)) (name_kind n h)
name_step keywords n t fs e h =
    ap (λ k. walk (cut.sign s.Assign ∷ []) (step (at p.Part (fresh (b.Sequence row.Keywords t)) fs) k)) (name_kind n h)

by_name_row : (r : SequenceKind) (k : Text) → takes_names r ≡ true → row_of (behind_key r (Some k)) ≡ row.Keywords
by_name_row items k h = absurd (cc)
by_name_row entries k h = absurd (cc)
by_name_row arguments k h = refl
by_name_row keywords k h = refl

by_name_at : (r : SequenceKind) (n k : Text) (x : Tokens) → takes_names r ≡ true → is_reserved n ≡ false → Whole x
    → PartAt r (Some k) (cut.name n ∷ cut.sign s.Assign ∷ x)
by_name_at r n k x e h d t fs =
    let w = d (b.Sequence row.Keywords t) fs in
    subst (λ z. Chooses (at p.Part (fresh (b.Sequence (row_of r) t)) fs) (cut.name n ∷ cut.sign s.Assign ∷ x)
    (b.Sequence z t) fs) (sym (by_name_row r k e))
    (record {
      clause = w.clause;
      taken = w.taken;
      walks = over _ _ (cut.name n ∷ cut.sign s.Assign ∷ []) x _ _ _ (name_step r n t fs e h) w.walks;
    })

-- ---- all forms

mutual
  spells_at : {k : Level} {t : Expr} {x : Tokens} → Spells k t x → Crosses k x
  spells_at (plain {t} {x} d) = plain_at x (spells_at d)
  spells_at (an_if {c} {a} {x} {y} d f) = an_if_at x y (spells_at d) (spells_at f)
  spells_at (an_if_else {c} {a} {b} {x} {y} {z} d f g) =
      an_if_else_at x y z (spells_at d) (spells_at f) (spells_at g)
  spells_at (chain {k} {a} {t} {x} {y} c d g) = chain_at k x y c (spells_at d) (goes_at g)
  spells_at (inverted {t} {x} d) = inverted_at x (spells_at d)
  spells_at (upright {t} {x} d) = upright_at x (spells_at d)
  spells_at (compared {op} {a} {b} {x} {y} e d f) = compared_at op x y e (spells_at d) (spells_at f)
  spells_at (alone {t} {x} d) = alone_at x (spells_at d)
  spells_at (postscripts {a} {t} {x} {y} d g) = continued_at x y (spells_at d) (goes_at g)
  spells_at (minus {t} {x} d) = minus_at x (spells_at d)
  spells_at (plus {t} {x} d) = plus_at x (spells_at d)
  spells_at (unsigned {t} {x} d) = unsigned_at x (spells_at d)
  spells_at (postfixes {a} {t} {x} {y} d g) = postfixes_at x y (primary_at d) (goes_at g)

  goes_at : {k : Level} {a t : Expr} {y : Tokens} → Goes k a t y → Extends k y
  goes_at (stay {k} {t}) = stay_at k
  goes_at (operated {k} {op} {a} {b} {t} {x} {y} c e d g) = operated_at k op x y c e (spells_at d) (goes_at g)
  goes_at (filtered {a} {t} {n} {ts} {ps} {x} {y} h d g) = filtered_at n x y h (arguments_at d) (goes_at g)
  goes_at (tested {a} {t} {b} {ts} {ps} {x} {y} n h d g) = tested_at b n x y h (test_arguments_at d) (goes_at g)
  goes_at (attributed {a} {t} {n} {y} g) = attributed_at n y (goes_at g)
  goes_at (indexed {a} {i} {t} {x} {y} d g) = indexed_at x y (spells_at d) (goes_at g)
  goes_at (called {a} {t} {ts} {ps} {x} {y} d g) = called_at x y (holds_at d) (goes_at g)

  primary_at : {t : Expr} {x : Tokens} → Primary t x → Postfixed x
  primary_at (a_number {n}) = number_at n
  primary_at (a_text {v}) = text_at v
  primary_at (a_constant {l} {x} e) = constant_at x l e
  primary_at (a_name {x} h) = name_at x h
  primary_at (a_group {t} {x} d) = group_at x (spells_at d)
  primary_at (a_list {ts} {x} d) = list_at x (holds_at d)
  primary_at (a_map {ps} {x} d) = map_at x (holds_at d)

  arguments_at : {q : LeveledList} {x : Tokens} → Arguments q x → ArgumentsAt x
  arguments_at without = without_at
  arguments_at (within {p = q} {x} d) = within_at x (holds_at d)

  named_arguments_at : {q : LeveledList} {x : Tokens} → Arguments q x → TestArgumentsAt x
  named_arguments_at without = test_without_at
  named_arguments_at (within {p = q} {x} d) = test_within_at x (holds_at d)

  test_arguments_at : {q : LeveledList} {x : Tokens} → TestArguments q x → TestArgumentsAt x
  test_arguments_at (as_filter {p = q} {x} d) = named_arguments_at d
  test_arguments_at (bare {t} {x} b d) = bare_at x b (spells_at d)

  holds_at : {r : SequenceKind} {q : LeveledList} {x : Tokens} → Holds r q x → HoldsAt r x
  holds_at (closed {r}) = closed_at r
  holds_at (last {r} {k} {t} {x} d) = last_at r k x (part_at d)
  holds_at (more {r} {k} {t} {p = q} {x} {y} d g) = more_at r k x y (part_at d) (holds_at g)

  part_at : {r : SequenceKind} {k : Option Text} {t : Expr} {x : Tokens} → IsPart r k t x → PartAt r k x
  part_at (without_key {r} {t} {x} e d) = without_key_at r x e (spells_at d)
  part_at (an_entry {v} {t} {x} d) = an_entry_at v (encode_utf8_all v) x (spells_at d)
  part_at (by_name {r} {n} {t} {x} e h d) = by_name_at r n (encode_utf8_all n) x e h (spells_at d)

-- An expression leads from the start to a place behind an operand, in no bracket.
pub spelled_leads : {t : Expr} {x : Tokens} → Spells whole t x → Chooses start x b.Outermost []
spelled_leads {t} {x} d = spells_at d b.Outermost []
