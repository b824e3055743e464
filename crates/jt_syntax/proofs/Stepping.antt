-- What finishes a state behind a token, with the token before it, finishes the state before the token.
use Rattle.std.proofs.Common.{◌≡◌, Bool, true, false, List, [], ◌∷◌, ◌++◌, codes, refl, sym, ap, subst, ◌∙◌}
use Rattle.std.proofs.Common.{Option, Some, None, ◌⊎◌, inl, inr, append_assoc, encode_utf8_all, if◌then◌else◌}
use Rattle.jt_scan.specs.Cut as cut
use Rattle.jt_scan.specs.Cut.{Token}
use Rattle.jt_scan.specs.declared.segment.Sign.{Sign}
use Rattle.jt_scan.specs.declared.segment.Sign.TheVariants as s
use Rattle.jt_ast.specs.declared.expression.BinaryOperator.{BinaryOperator}
use Rattle.jt_ast.specs.declared.expression.BinaryOperator.TheVariants as o
use Rattle.jt_ast.specs.declared.expression.UnaryOperator.TheVariants as u
use Rattle.jt_ast.specs.Expressions as trees
use Rattle.jt_ast.specs.Expressions.{Text, Expr, Exprs, no_exprs, Pairs, no_pairs, binary}
use Rattle.jt_expr.specs.Grammar.{Tokens, word, is_reserved, names_test, Level, whole, disjunction}
use Rattle.jt_expr.specs.Grammar.{conjunction, comparison, sum, concatenation, product, power, postscript}
use Rattle.jt_expr.specs.Grammar.{signed, postfix, next, is_chain, level_of, operator_tokens, is_tokens}
use Rattle.jt_expr.specs.Grammar.{begins_argument, SequenceKind, items, entries, arguments, keywords, closer}
use Rattle.jt_expr.specs.Grammar.{no_parts, put, Spells, inverted, minus, plus, unsigned, postfixes, Goes}
use Rattle.jt_expr.specs.Grammar.{operated, filtered, tested, attributed, indexed, called, Primary, a_number}
use Rattle.jt_expr.specs.Grammar.{a_text, a_constant, a_name, a_group, a_list, a_map, without, within}
use Rattle.jt_expr.specs.Grammar.{as_filter, bare, closed, last, more, without_key}
use Rattle.jt_expr.specs.Grammar.{an_entry, by_name}
use Rattle.jt_syntax.specs.declared.kinds.Kind.{Kind}
use Rattle.jt_syntax.specs.declared.kinds.Kind.TheVariants as k
use Rattle.jt_syntax.specs.declared.frames.Row.{Row}
use Rattle.jt_syntax.specs.declared.frames.Row.TheVariants as row
use Rattle.jt_syntax.specs.declared.frames.Follow.{Follow}
use Rattle.jt_syntax.specs.declared.frames.Follow.TheVariants as follow
use Rattle.jt_syntax.specs.declared.frames.Bracket.{Bracket}
use Rattle.jt_syntax.specs.declared.frames.Bracket.TheVariants as b
use Rattle.jt_syntax.specs.declared.frames.Clause.{Clause}
use Rattle.jt_syntax.specs.declared.frames.Clause.TheVariants as clause
use Rattle.jt_syntax.specs.declared.frames.Comparison.{Comparison}
use Rattle.jt_syntax.specs.declared.frames.Comparison.TheVariants as comparison_is
use Rattle.jt_syntax.specs.declared.frames.Frame.{Frame}
use Rattle.jt_syntax.specs.declared.frames.Prefixes.TheVariants as prefixes
use Rattle.jt_syntax.specs.declared.frames.Ending.TheVariants as ending
use Rattle.jt_syntax.specs.declared.frames.Place.TheVariants as p
use Rattle.jt_syntax.specs.declared.frames.Move.{Move}
use Rattle.jt_syntax.specs.declared.frames.Move.TheVariants as m
use Rattle.jt_syntax.specs.internal.Moves as moves
use Rattle.jt_syntax.specs.internal.Moves.{frame, fresh, with_comparison}
use Rattle.jt_syntax.proofs.TokenKinds as kinds
use Rattle.jt_syntax.proofs.TokenKinds.{IsOf, kind_view}
use Rattle.jt_syntax.proofs.Words.{name_is_operand, literal_is_operand}
use Rattle.jt_syntax.proofs.Finishing.{Split, Form, Extends, Held, Given, TestGiven, Behind, closes, goes_on}
use Rattle.jt_syntax.proofs.Finishing.{is_extended, kind_of_row, Rest, climbs, single, pair, condition}
use Rattle.jt_syntax.proofs.Finishing.{other, ends, Closes, group, an_item, parts, After, around, Operand}
use Rattle.jt_syntax.proofs.Finishing.{SignWhole, FinishesPart, FinishesKey, InThen, FinishesBehind}
use Rattle.jt_syntax.proofs.Finishing.{FinishesAt, lift, climbed, regroup, to_postscript, to_power}
use Rattle.jt_syntax.proofs.Finishing.{to_product, to_concatenation, to_sum, to_conjunction, all_of_signs}
use Rattle.jt_syntax.proofs.Finishing.{disjunction_of, whole_of}

abbrev pub follow_of : Bracket → Follow
follow_of (b.Sequence r t) = t
follow_of _ = follow.Postfix

-- The tokens finish what the move leads to.
abbrev pub FinishesMove : Move → Frame → List Frame → Tokens → Type 0
FinishesMove (m.To q g) f fs y = FinishesAt q g fs y
FinishesMove (m.Opens q g) f fs y = FinishesAt q g (f ∷ fs) y
FinishesMove m.Closes f fs y = After (follow_of f.bracket) fs y

abbrev pub FinishesNext : Option Move → Frame → List Frame → Tokens → Type 0
FinishesNext None f fs y = ⊥
FinishesNext (Some x) f fs y = FinishesMove x f fs y

-- ---- brackets

after_postfix : {f : Frame} {fs : List Frame} {y : Tokens} → After follow.Postfix (f ∷ fs) y → Rest postfix f fs y
after_postfix (around r) = r

after_postscript : {f : Frame} {fs : List Frame} {y : Tokens} → After follow.Postscript (f ∷ fs) y
    → Rest postscript f fs y
after_postscript (around r) = r

-- A closing sign, and what follows it.
record SignAfter (j : Sign) (fs : List Frame) (y : Tokens) : Type 0 where
  behind : Tokens
  is : y ≡ cut.sign j ∷ behind
  after : After follow.Postfix fs behind

closes_group : {fs : List Frame} {y : Tokens} → Closes b.Group fs y → SignAfter s.RightParen fs y
closes_group (group {y} r) = record { behind = y; is = refl; after = r }

closes_item : {fs : List Frame} {y : Tokens} → Closes b.Item fs y → SignAfter s.RightBracket fs y
closes_item (an_item {y} r) = record { behind = y; is = refl; after = r }

closes_parts : {r : Row} {t : Follow} {fs : List Frame} {y : Tokens} → Closes (b.Sequence r t) fs y
    → Split (Behind (kind_of_row r)) (After t fs) y
closes_parts (parts {z} {y} h a) = record { first = z; rest = y; splits = refl; left = h; right = a }

-- ---- forms that are extended

-- Tokens that extend a tree of the level before what extends it further.
extend : (k : Level) {f : Frame} {fs : List Frame} (x y : Tokens) → is_extended k ≡ true
    → ((g : Tokens) → Extends k g → Extends k (x ++ g)) → Rest k f fs y → Rest k f fs (x ++ y)
extend k {f} {fs} x y h rule r =
    let w = climbed k h r in
    subst (λ z. Rest k f fs z) (append_assoc x w.first w.rest ∙ ap (λ z. x ++ z) (sym w.splits))
    (climbs h (rule w.first w.left) w.right)

pub primary_of : {f : Frame} {fs : List Frame} (t : Expr) (x y : Tokens) → Primary t x → Rest postfix f fs y
    → Operand signed postscript f fs (x ++ y)
primary_of {f} {fs} t x y d r =
    let w = climbed postfix refl r in
    let g = w.left t in
    record {
      first = x ++ w.first;
      rest = w.rest;
      splits = ap (λ z. x ++ z) w.splits ∙ sym (append_assoc x w.first w.rest);
      left = (g.0, unsigned (postfixes d g.1));
      right = w.right;
    }

-- A bare argument of a test.
bare_of : {f : Frame} {fs : List Frame} (t : Expr) (x y : Tokens) → Primary t x
    → ((g : Tokens) → begins_argument (x ++ g) ≡ true) → Rest postfix f fs y
    → Split TestGiven (Rest postscript f fs) (x ++ y)
bare_of {f} {fs} t x y d h r =
    let w = climbed postfix refl r in
    let g = w.left t in
    record {
      first = x ++ w.first;
      rest = w.rest;
      splits = ap (λ z. x ++ z) w.splits ∙ sym (append_assoc x w.first w.rest);
      left = ((trees.expr g.0 no_exprs, no_pairs), bare (h w.first) (postfixes d g.1));
      right = w.right;
    }

-- A sequence in brackets, as one list of tokens.
record Sequenced (r : SequenceKind) (t : Follow) (fs : List Frame) (y : Tokens) : Type 0 where
  parts : Tokens
  behind : Tokens
  is : y ≡ parts ++ behind
  held : Held r parts
  after : After t fs behind

group_of : (f : Frame) (fs : List Frame) (y : Tokens) → FinishesAt (p.Operand prefixes.All) (fresh b.Group) (f ∷ fs) y
    → Operand signed postscript f fs (cut.sign s.LeftParen ∷ y)
group_of f fs y v =
    let w = whole_of (fresh b.Group) (f ∷ fs) y refl v in
    let c = closes_group w.right in
    subst (λ z. Operand signed postscript f fs (cut.sign s.LeftParen ∷ z))
    (append_assoc w.first (cut.sign s.RightParen ∷ []) c.behind
    ∙ ap (λ z. w.first ++ z) (sym c.is) ∙ sym w.splits)
    (primary_of (trees.group w.left.0) (cut.sign s.LeftParen ∷ (w.first ++ (cut.sign s.RightParen ∷ []))) c.behind
    (a_group w.left.1) (after_postfix c.after))

list_of : (f : Frame) (fs : List Frame) (y : Tokens)
    → FinishesAt p.Part (fresh (b.Sequence row.Items follow.Postfix)) (f ∷ fs) y
    → Operand signed postscript f fs (cut.sign s.LeftBracket ∷ y)
list_of f fs y v =
    let w = v refl in
    subst (λ z. Operand signed postscript f fs (cut.sign s.LeftBracket ∷ z)) (sym w.splits)
    (primary_of (trees.list_of w.left.0) (cut.sign s.LeftBracket ∷ w.first) w.rest (a_list w.left.1)
    (after_postfix w.right))

map_of : (f : Frame) (fs : List Frame) (y : Tokens)
    → FinishesAt p.Part (fresh (b.Sequence row.Entries follow.Postfix)) (f ∷ fs) y
    → Operand signed postscript f fs (cut.sign s.LeftBrace ∷ y)
map_of f fs y v =
    let w = v refl in
    subst (λ z. Operand signed postscript f fs (cut.sign s.LeftBrace ∷ z)) (sym w.splits)
    (primary_of (trees.map_of w.left.0) (cut.sign s.LeftBrace ∷ w.first) w.rest (a_map w.left.1)
    (after_postfix w.right))

bare_list : (f : Frame) (fs : List Frame) (y : Tokens)
    → FinishesAt p.Part (fresh (b.Sequence row.Items follow.Postfix)) (f ∷ fs) y
    → Split TestGiven (Rest postscript f fs) (cut.sign s.LeftBracket ∷ y)
bare_list f fs y v =
    let w = v refl in
    subst (λ z. Split TestGiven (Rest postscript f fs) (cut.sign s.LeftBracket ∷ z)) (sym w.splits)
    (bare_of (trees.list_of w.left.0) (cut.sign s.LeftBracket ∷ w.first) w.rest (a_list w.left.1) (λ g. refl)
    (after_postfix w.right))

bare_map : (f : Frame) (fs : List Frame) (y : Tokens)
    → FinishesAt p.Part (fresh (b.Sequence row.Entries follow.Postfix)) (f ∷ fs) y
    → Split TestGiven (Rest postscript f fs) (cut.sign s.LeftBrace ∷ y)
bare_map f fs y v =
    let w = v refl in
    subst (λ z. Split TestGiven (Rest postscript f fs) (cut.sign s.LeftBrace ∷ z)) (sym w.splits)
    (bare_of (trees.map_of w.left.0) (cut.sign s.LeftBrace ∷ w.first) w.rest (a_map w.left.1) (λ g. refl)
    (after_postfix w.right))

-- ---- operands

minus_of : (f : Frame) (fs : List Frame) (y : Tokens) → Operand signed postscript f fs y
    → Operand signed postscript f fs (cut.sign s.Minus ∷ y)
minus_of f fs y v =
    record {
      first = cut.sign s.Minus ∷ v.first;
      rest = v.rest;
      splits = ap (λ z. cut.sign s.Minus ∷ z) v.splits;
      left = (trees.unary u.Negate v.left.0, minus v.left.1);
      right = v.right;
    }

plus_of : (f : Frame) (fs : List Frame) (y : Tokens) → Operand signed postscript f fs y
    → Operand signed postscript f fs (cut.sign s.Plus ∷ y)
plus_of f fs y v =
    record {
      first = cut.sign s.Plus ∷ v.first;
      rest = v.rest;
      splits = ap (λ z. cut.sign s.Plus ∷ z) v.splits;
      left = (trees.unary u.Plus v.left.0, plus v.left.1);
      right = v.right;
    }

not_of : (f : Frame) (fs : List Frame) (y : Tokens) → FinishesAt (p.Operand prefixes.All) f fs y
    → FinishesAt (p.Operand prefixes.All) f fs (word (codes "not") ∷ y)
not_of f fs y v = (
  v.0,
  record {
    first = word (codes "not") ∷ v.1.first;
    rest = v.1.rest;
    splits = ap (λ z. word (codes "not") ∷ z) v.1.splits;
    left = (trees.unary u.Not v.1.left.0, inverted v.1.left.1);
    right = v.1.right;
  },
)

sign_operand : (f : Frame) (fs : List Frame) (y : Tokens) (j : Sign)
    → FinishesNext (moves.operand_sign f j) f fs y → Operand signed postscript f fs (cut.sign j ∷ y)
sign_operand f fs y s.Minus v = minus_of f fs y v
sign_operand f fs y s.Plus v = plus_of f fs y v
sign_operand f fs y s.LeftParen v = group_of f fs y v
sign_operand f fs y s.LeftBracket v = list_of f fs y v
sign_operand f fs y s.LeftBrace v = map_of f fs y v
sign_operand f fs y _ v = absurd v

pub signs_operand : (f : Frame) (fs : List Frame) (y : Tokens) {t : Token} {d : Kind} → IsOf t d
    → FinishesNext (moves.operand prefixes.Signs f d) f fs y → Operand signed postscript f fs (t ∷ y)
signs_operand f fs y (kinds.a_name {x} h) v =
    primary_of (trees.name (encode_utf8_all x)) (cut.name x ∷ []) y (a_name h) v
signs_operand f fs y (kinds.a_constant {x} l h) v =
    primary_of (trees.constant l) (cut.name x ∷ []) y (a_constant h) v
signs_operand f fs y (kinds.a_number {n}) v =
    primary_of (trees.constant (trees.number n)) (cut.number n ∷ []) y a_number v
signs_operand f fs y (kinds.a_text {v = w}) v =
    primary_of (trees.constant (trees.text (encode_utf8_all w))) (cut.text w ∷ []) y a_text v
signs_operand f fs y kinds.an_and v = absurd v
signs_operand f fs y kinds.an_or v = absurd v
signs_operand f fs y kinds.a_not v = absurd v
signs_operand f fs y kinds.an_if v = absurd v
signs_operand f fs y kinds.an_else v = absurd v
signs_operand f fs y kinds.an_in v = absurd v
signs_operand f fs y kinds.an_is v = absurd v
signs_operand f fs y (kinds.a_sign j) v = sign_operand f fs y j v

pub all_operand : (f : Frame) (fs : List Frame) (y : Tokens) {t : Token} {d : Kind} → IsOf t d
    → FinishesNext (moves.operand prefixes.All f d) f fs y → FinishesAt (p.Operand prefixes.All) f fs (t ∷ y)
all_operand f fs y (kinds.a_name {x} h) v =
    all_of_signs f fs (cut.name x ∷ y) (signs_operand f fs y (kinds.a_name {x = x} h) v)
all_operand f fs y (kinds.a_constant {x} l h) v =
    all_of_signs f fs (cut.name x ∷ y) (signs_operand f fs y (kinds.a_constant {x = x} l h) v)
all_operand f fs y (kinds.a_number {n}) v =
    all_of_signs f fs (cut.number n ∷ y) (signs_operand f fs y (kinds.a_number {n = n}) v)
all_operand f fs y (kinds.a_text {v = w}) v =
    all_of_signs f fs (cut.text w ∷ y) (signs_operand f fs y (kinds.a_text {v = w}) v)
all_operand f fs y kinds.an_and v = absurd v
all_operand f fs y kinds.an_or v = absurd v
all_operand f fs y kinds.a_not v = not_of f fs y v
all_operand f fs y kinds.an_if v = absurd v
all_operand f fs y kinds.an_else v = absurd v
all_operand f fs y kinds.an_in v = absurd v
all_operand f fs y kinds.an_is v = absurd v
all_operand f fs y (kinds.a_sign j) v = all_of_signs f fs (cut.sign j ∷ y) (sign_operand f fs y j v)

-- ---- sequences in brackets

-- A part and what is behind it.
held_item : (t : Expr) (x z : Tokens) → Spells whole t x → Behind items z → Held items (x ++ z)
held_item t x z d closes = (trees.expr t no_exprs, last (without_key refl d))
held_item t x z d (goes_on {z = w} h) = (trees.expr t h.0, more (without_key refl d) h.1)

held_entry : (v : Text) (t : Expr) (x z : Tokens) → Spells whole t x → Behind entries z
    → Held entries (cut.text v ∷ cut.sign s.Colon ∷ (x ++ z))
held_entry v t x z d closes = (trees.pair (encode_utf8_all v) t no_pairs, last (an_entry {v = v} d))
held_entry v t x z d (goes_on {z = w} h) = (trees.pair (encode_utf8_all v) t h.0, more (an_entry {v = v} d) h.1)

held_argument : (t : Expr) (x z : Tokens) → Spells whole t x → Behind arguments z → Held arguments (x ++ z)
held_argument t x z d closes = (put None t no_parts, last (without_key refl d))
held_argument t x z d (goes_on {z = w} h) = (put None t h.0, more (without_key refl d) h.1)

named_argument : (n : Text) (t : Expr) (x z : Tokens) → is_reserved n ≡ false → Spells whole t x → Behind keywords z
    → Held arguments (cut.name n ∷ cut.sign s.Assign ∷ (x ++ z))
named_argument n t x z h d closes = (put (Some (encode_utf8_all n)) t no_parts, last (by_name refl h d))
named_argument n t x z h d (goes_on {z = w} g) = (put (Some (encode_utf8_all n)) t g.0, more (by_name refl h d) g.1)

named_keyword : (n : Text) (t : Expr) (x z : Tokens) → is_reserved n ≡ false → Spells whole t x → Behind keywords z
    → Held keywords (cut.name n ∷ cut.sign s.Assign ∷ (x ++ z))
named_keyword n t x z h d closes = (put (Some (encode_utf8_all n)) t no_parts, last (by_name refl h d))
named_keyword n t x z h d (goes_on {z = w} g) = (put (Some (encode_utf8_all n)) t g.0, more (by_name refl h d) g.1)

-- A part without a key, in a sequence.
plain_part : (r : Row) (t : Follow) (fs : List Frame) (y : Tokens)
    → ((e : Expr) (x z : Tokens) → Spells whole e x → Behind (kind_of_row r) z → Held (kind_of_row r) (x ++ z))
    → Split (Form whole) (Closes (b.Sequence r t) fs) y → FinishesPart (b.Sequence r t) fs y
plain_part r t fs y rule w =
    let c = closes_parts w.right in
    record {
      first = w.first ++ c.first;
      rest = c.rest;
      splits = regroup y w.first w.rest c.first c.rest w.splits c.splits;
      left = rule w.left.0 w.first c.first w.left.1 c.left;
      right = c.right;
    }

-- A key with its sign, and the part.
keyed_part : (q r : Row) (t : Follow) (fs : List Frame) (y : Tokens) (k : Token) (j : Sign)
    → ((e : Expr) (x z : Tokens) → Spells whole e x → Behind (kind_of_row q) z
    → Held (kind_of_row r) (k ∷ cut.sign j ∷ (x ++ z)))
    → SignWhole j (b.Sequence q t) fs y → FinishesPart (b.Sequence r t) fs (k ∷ y)
keyed_part q r t fs y k j rule v =
    let w = v.split in
    let c = closes_parts w.right in
    record {
      first = k ∷ cut.sign j ∷ (w.first ++ c.first);
      rest = c.rest;
      splits = ap (λ z. k ∷ z)
          (v.is ∙ ap (λ z. cut.sign j ∷ z) (regroup v.behind w.first w.rest c.first c.rest w.splits c.splits));
      left = rule w.left.0 w.first c.first w.left.1 c.left;
      right = c.right;
    }

pub shut_part : (r : Row) (t : Follow) (fs : List Frame) (y : Tokens)
    → Held (kind_of_row r) (cut.sign (closer (kind_of_row r)) ∷ [])
    → After t fs y → FinishesPart (b.Sequence r t) fs (cut.sign (closer (kind_of_row r)) ∷ y)
shut_part r t fs y h a =
    record { first = cut.sign (closer (kind_of_row r)) ∷ []; rest = y; splits = refl; left = h; right = a }

-- A place in a sequence.
record InSequence (r : Row) (t : Follow) (f : Frame) : Type 0 where
  value : f.clause ≡ clause.Value
  bracket : f.bracket ≡ b.Sequence r t

whole_in : (r : Row) (t : Follow) (f : Frame) (fs : List Frame) (y : Tokens) → InSequence r t f
    → FinishesAt (p.Operand prefixes.All) f fs y → Split (Form whole) (Closes (b.Sequence r t) fs) y
whole_in r t f fs y h v =
    subst (λ c. Split (Form whole) (Closes c fs) y) h.bracket (whole_of f fs y h.value v)

after_in : (r : Row) (t : Follow) (f : Frame) (fs : List Frame) (y : Tokens) → InSequence r t f
    → After (follow_of f.bracket) fs y → After t fs y
after_in r t f fs y h v = subst (λ c. After (follow_of c) fs y) h.bracket v

item_all : (t : Follow) (f : Frame) (fs : List Frame) (y : Tokens) → InSequence row.Items t f
    → FinishesAt (p.Operand prefixes.All) f fs y → FinishesPart (b.Sequence row.Items t) fs y
item_all t f fs y h v = plain_part row.Items t fs y held_item (whole_in row.Items t f fs y h v)

argument_all : (t : Follow) (f : Frame) (fs : List Frame) (y : Tokens) → InSequence row.Arguments t f
    → FinishesAt (p.Operand prefixes.All) f fs y → FinishesPart (b.Sequence row.Arguments t) fs y
argument_all t f fs y h v = plain_part row.Arguments t fs y held_argument (whole_in row.Arguments t f fs y h v)

item_sign : (t : Follow) (f : Frame) (fs : List Frame) (y : Tokens) → InSequence row.Items t f → (j : Sign)
    → FinishesNext (moves.part row.Items f (k.Sign j)) f fs y
    → FinishesPart (b.Sequence row.Items t) fs (cut.sign j ∷ y)
item_sign t f fs y h s.RightBracket v = shut_part row.Items t fs y (no_exprs, closed) (after_in row.Items t f fs y h v)
item_sign t f fs y h j v =
    item_all t f fs (cut.sign j ∷ y) h (all_of_signs f fs (cut.sign j ∷ y) (sign_operand f fs y j v))

item_part : (t : Follow) (f : Frame) (fs : List Frame) (y : Tokens) {x : Token} {d : Kind} → InSequence row.Items t f
    → IsOf x d → FinishesNext (moves.part row.Items f d) f fs y → FinishesPart (b.Sequence row.Items t) fs (x ∷ y)
item_part t f fs y h (kinds.a_sign j) v = item_sign t f fs y h j v
item_part t f fs y h (kinds.a_name {x} e) v =
    item_all t f fs (cut.name x ∷ y) h (all_operand f fs y (kinds.a_name {x = x} e) v)
item_part t f fs y h (kinds.a_constant {x} l e) v =
    item_all t f fs (cut.name x ∷ y) h (all_operand f fs y (kinds.a_constant {x = x} l e) v)
item_part t f fs y h (kinds.a_number {n}) v =
    item_all t f fs (cut.number n ∷ y) h (all_operand f fs y (kinds.a_number {n = n}) v)
item_part t f fs y h (kinds.a_text {v = w}) v =
    item_all t f fs (cut.text w ∷ y) h (all_operand f fs y (kinds.a_text {v = w}) v)
item_part t f fs y h kinds.a_not v = item_all t f fs (word (codes "not") ∷ y) h (not_of f fs y v)
item_part t f fs y h kinds.an_and v = absurd v
item_part t f fs y h kinds.an_or v = absurd v
item_part t f fs y h kinds.an_if v = absurd v
item_part t f fs y h kinds.an_else v = absurd v
item_part t f fs y h kinds.an_in v = absurd v
item_part t f fs y h kinds.an_is v = absurd v

argument_name : (t : Follow) (f : Frame) (fs : List Frame) (y : Tokens) (x : Text) → InSequence row.Arguments t f
    → is_reserved x ≡ false → Rest postfix f fs y ⊎ FinishesKey f.bracket fs y
    → FinishesPart (b.Sequence row.Arguments t) fs (cut.name x ∷ y)
argument_name t f fs y x h e (inl v) =
    argument_all t f fs (cut.name x ∷ y) h (all_operand f fs y (kinds.a_name {x = x} e) v)
argument_name t f fs y x h e (inr v) =
    keyed_part row.Keywords row.Arguments t fs y (cut.name x) s.Assign (λ a u w. named_argument x a u w e)
    (subst (λ c. FinishesKey c fs y) h.bracket v)

argument_sign : (t : Follow) (f : Frame) (fs : List Frame) (y : Tokens) → InSequence row.Arguments t f → (j : Sign)
    → FinishesNext (moves.part row.Arguments f (k.Sign j)) f fs y
    → FinishesPart (b.Sequence row.Arguments t) fs (cut.sign j ∷ y)
argument_sign t f fs y h s.RightParen v =
    shut_part row.Arguments t fs y (no_parts, closed) (after_in row.Arguments t f fs y h v)
argument_sign t f fs y h j v =
    argument_all t f fs (cut.sign j ∷ y) h (all_of_signs f fs (cut.sign j ∷ y) (sign_operand f fs y j v))

argument_part : (t : Follow) (f : Frame) (fs : List Frame) (y : Tokens) {x : Token} {d : Kind}
    → InSequence row.Arguments t f → IsOf x d → FinishesNext (moves.part row.Arguments f d) f fs y
    → FinishesPart (b.Sequence row.Arguments t) fs (x ∷ y)
argument_part t f fs y h (kinds.a_sign j) v = argument_sign t f fs y h j v
argument_part t f fs y h (kinds.a_name {x} e) v = argument_name t f fs y x h e v
argument_part t f fs y h (kinds.a_constant {x} l e) v =
    argument_all t f fs (cut.name x ∷ y) h (all_operand f fs y (kinds.a_constant {x = x} l e) v)
argument_part t f fs y h (kinds.a_number {n}) v =
    argument_all t f fs (cut.number n ∷ y) h (all_operand f fs y (kinds.a_number {n = n}) v)
argument_part t f fs y h (kinds.a_text {v = w}) v =
    argument_all t f fs (cut.text w ∷ y) h (all_operand f fs y (kinds.a_text {v = w}) v)
argument_part t f fs y h kinds.a_not v = argument_all t f fs (word (codes "not") ∷ y) h (not_of f fs y v)
argument_part t f fs y h kinds.an_and v = absurd v
argument_part t f fs y h kinds.an_or v = absurd v
argument_part t f fs y h kinds.an_if v = absurd v
argument_part t f fs y h kinds.an_else v = absurd v
argument_part t f fs y h kinds.an_in v = absurd v
argument_part t f fs y h kinds.an_is v = absurd v

entry_sign : (t : Follow) (f : Frame) (fs : List Frame) (y : Tokens) → InSequence row.Entries t f → (j : Sign)
    → FinishesNext (moves.part row.Entries f (k.Sign j)) f fs y
    → FinishesPart (b.Sequence row.Entries t) fs (cut.sign j ∷ y)
entry_sign t f fs y h s.RightBrace v =
    shut_part row.Entries t fs y (no_pairs, closed) (after_in row.Entries t f fs y h v)
entry_sign t f fs y h _ v = absurd v

entry_part : (t : Follow) (f : Frame) (fs : List Frame) (y : Tokens) {x : Token} {d : Kind}
    → InSequence row.Entries t f → IsOf x d → FinishesNext (moves.part row.Entries f d) f fs y
    → FinishesPart (b.Sequence row.Entries t) fs (x ∷ y)
entry_part t f fs y h (kinds.a_sign j) v = entry_sign t f fs y h j v
entry_part t f fs y h (kinds.a_text {v = w}) v =
    keyed_part row.Entries row.Entries t fs y (cut.text w) s.Colon (held_entry w)
    (subst (λ c. SignWhole s.Colon c fs y) h.bracket (v h.value))
entry_part t f fs y h _ v = absurd v

keyword_sign : (t : Follow) (f : Frame) (fs : List Frame) (y : Tokens) → InSequence row.Keywords t f → (j : Sign)
    → FinishesNext (moves.part row.Keywords f (k.Sign j)) f fs y
    → FinishesPart (b.Sequence row.Keywords t) fs (cut.sign j ∷ y)
keyword_sign t f fs y h s.RightParen v =
    shut_part row.Keywords t fs y (no_parts, closed) (after_in row.Keywords t f fs y h v)
keyword_sign t f fs y h _ v = absurd v

keyword_part : (t : Follow) (f : Frame) (fs : List Frame) (y : Tokens) {x : Token} {d : Kind}
    → InSequence row.Keywords t f → IsOf x d → FinishesNext (moves.part row.Keywords f d) f fs y
    → FinishesPart (b.Sequence row.Keywords t) fs (x ∷ y)
keyword_part t f fs y h (kinds.a_sign j) v = keyword_sign t f fs y h j v
keyword_part t f fs y h (kinds.a_name {x} e) v =
    keyed_part row.Keywords row.Keywords t fs y (cut.name x) s.Assign (λ a u w. named_keyword x a u w e)
    (subst (λ c. FinishesKey c fs y) h.bracket v)
keyword_part t f fs y h _ v = absurd v

sequence_part : (r : Row) (t : Follow) (f : Frame) (fs : List Frame) (y : Tokens) {x : Token} {d : Kind}
    → InSequence r t f → IsOf x d → FinishesNext (moves.part r f d) f fs y
    → FinishesPart (b.Sequence r t) fs (x ∷ y)
sequence_part row.Items t f fs y h i v = item_part t f fs y h i v
sequence_part row.Entries t f fs y h i v = entry_part t f fs y h i v
sequence_part row.Arguments t f fs y h i v = argument_part t f fs y h i v
sequence_part row.Keywords t f fs y h i v = keyword_part t f fs y h i v

pub part_in : (c : Bracket) (f : Frame) (fs : List Frame) (y : Tokens) {x : Token} {d : Kind} → f.bracket ≡ c
    → f.clause ≡ clause.Value → IsOf x d → FinishesNext (moves.part_in c f d) f fs y → FinishesPart c fs (x ∷ y)
part_in (b.Sequence r t) f fs y h l i v = sequence_part r t f fs y (record { value = l; bracket = h }) i v
part_in b.Outermost f fs y h l i v = tt
part_in b.Group f fs y h l i v = tt
part_in b.Item f fs y h l i v = tt

-- ---- operators

from_power : {f : Frame} {fs : List Frame} {y : Tokens} → Rest power f fs y → Rest postscript f fs y
from_power r = lift postscript refl r

from_product : {f : Frame} {fs : List Frame} {y : Tokens} → Rest product f fs y → Rest postscript f fs y
from_product r = from_power (lift power refl r)

from_concatenation : {f : Frame} {fs : List Frame} {y : Tokens} → Rest concatenation f fs y → Rest postscript f fs y
from_concatenation r = from_product (lift product refl r)

from_sum : {f : Frame} {fs : List Frame} {y : Tokens} → Rest sum f fs y → Rest postscript f fs y
from_sum r = from_concatenation (lift concatenation refl r)

from_comparison : {f : Frame} {fs : List Frame} {y : Tokens} → Rest comparison f fs y → Rest postscript f fs y
from_comparison r = from_sum (lift sum refl r)

from_conjunction : (f : Frame) (fs : List Frame) (y : Tokens) (o : Comparison)
    → Rest conjunction (with_comparison f o) fs y → Rest postscript f fs y
from_conjunction f fs y o r = from_comparison (single o r)

from_disjunction : (f : Frame) (fs : List Frame) (y : Tokens) (o : Comparison)
    → Rest disjunction (with_comparison f o) fs y → Rest postscript f fs y
from_disjunction f fs y o r = from_conjunction f fs y o (lift conjunction refl r)

pub from_whole : (f : Frame) (fs : List Frame) (y : Tokens) → Rest whole f fs y → Rest postscript f fs y
from_whole f fs y r = from_disjunction f fs y f.comparison (lift disjunction refl r)

-- An operator of one token before its right operand.
operate : (k : Level) (op : BinaryOperator) (x : Token) (f : Frame) (fs : List Frame) (y : Tokens)
    → is_extended k ≡ true → is_chain k ≡ true → level_of op ≡ k → operator_tokens op ≡ x ∷ []
    → Operand (next k) k f fs y → Rest k f fs (x ∷ y)
operate k op x f fs y h c e w v =
    subst (λ z. Rest k f fs (x ∷ z)) (sym v.splits)
    (extend k (x ∷ v.first) v.rest h
    (λ g rule a. let r = rule (binary op a v.left.0) in
    (r.0, subst (λ z. Goes k a r.0 (z ++ (v.first ++ g))) w (operated c e v.left.1 r.1))) v.right)

power_operator : (op : BinaryOperator) (x : Token) (f : Frame) (fs : List Frame) (y : Tokens) → level_of op ≡ power
    → operator_tokens op ≡ x ∷ [] → Operand signed postscript f fs y → Rest postscript f fs (x ∷ y)
power_operator op x f fs y e w v = from_power (operate power op x f fs y refl refl e w (to_postscript f fs y v))

product_operator : (op : BinaryOperator) (x : Token) (f : Frame) (fs : List Frame) (y : Tokens)
    → level_of op ≡ product → operator_tokens op ≡ x ∷ [] → Operand signed postscript f fs y
    → Rest postscript f fs (x ∷ y)
product_operator op x f fs y e w v =
    from_product (operate product op x f fs y refl refl e w (to_power f fs y (to_postscript f fs y v)))

tilde_operator : (f : Frame) (fs : List Frame) (y : Tokens) → Operand signed postscript f fs y
    → Rest postscript f fs (cut.sign s.Tilde ∷ y)
tilde_operator f fs y v =
    from_concatenation (operate concatenation o.Concatenate (cut.sign s.Tilde) f fs y refl refl refl refl
    (to_product f fs y (to_power f fs y (to_postscript f fs y v))))

sum_operator : (op : BinaryOperator) (x : Token) (f : Frame) (fs : List Frame) (y : Tokens) → level_of op ≡ sum
    → operator_tokens op ≡ x ∷ [] → Operand signed postscript f fs y → Rest postscript f fs (x ∷ y)
sum_operator op x f fs y e w v =
    from_sum (operate sum op x f fs y refl refl e w
    (to_concatenation f fs y (to_product f fs y (to_power f fs y (to_postscript f fs y v)))))

-- A right operand of a comparison, which no further comparison follows.
second : (f : Frame) (fs : List Frame) (y x z : Tokens) → y ≡ x ++ z → Form sum x
    → Rest comparison (with_comparison f comparison_is.Taken) fs z → InThen f fs (word (codes "in") ∷ y)
second f fs y x z h d (climbs e g r) = absurd (cc)
second f fs y x z h d (single o r) =
    record {
      behind = y;
      is = refl;
      taken = o;
      split = record { first = x; rest = z; splits = h; left = d; right = r };
    }
second f fs y x z h d (pair op o c e a r) = absurd (cc)

pub right_of : (f : Frame) (fs : List Frame) (y : Tokens)
    → Operand signed postscript (with_comparison f comparison_is.Taken) fs y → InThen f fs (word (codes "in") ∷ y)
right_of f fs y v =
    let g = with_comparison f comparison_is.Taken in
    let w = to_sum g fs y (to_concatenation g fs y (to_product g fs y (to_power g fs y (to_postscript g fs y v)))) in
    second f fs y w.first w.rest w.splits w.left w.right

paired : (op : BinaryOperator) (f : Frame) (fs : List Frame) (y : Tokens) → level_of op ≡ comparison
    → f.comparison ≡ comparison_is.Open → (o : Comparison)
    → Split (Form sum) (Rest conjunction (with_comparison f o) fs) y → Rest postscript f fs (operator_tokens op ++ y)
paired op f fs y e h o v =
    subst (λ z. Rest postscript f fs (operator_tokens op ++ z)) (sym v.splits)
    (from_comparison (pair op o h e v.left v.right))

compare_operator : (op : BinaryOperator) (x : Token) (f : Frame) (fs : List Frame) (y : Tokens)
    → level_of op ≡ comparison → operator_tokens op ≡ x ∷ [] → (o : Comparison) → f.comparison ≡ o
    → FinishesNext (moves.compared o f) f fs y → Rest postscript f fs (x ∷ y)
compare_operator op x f fs y e w comparison_is.Open h v =
    let r = right_of f fs y v in
    let same : r.behind ≡ y = cc in
    subst (λ z. Rest postscript f fs (z ++ y)) w
    (paired op f fs y e h r.taken
    (subst (λ z. Split (Form sum) (Rest conjunction (with_comparison f r.taken) fs) z) same r.split))
compare_operator op x f fs y e w comparison_is.Taken h v = absurd v

not_operator : (f : Frame) (fs : List Frame) (y : Tokens) (o : Comparison) → f.comparison ≡ o
    → FinishesNext (moves.negated o f) f fs y → Rest postscript f fs (word (codes "not") ∷ y)
not_operator f fs y comparison_is.Open h v =
    subst (λ z. Rest postscript f fs (word (codes "not") ∷ z)) (sym v.is)
    (paired o.NotIn f fs v.behind refl h v.taken v.split)
not_operator f fs y comparison_is.Taken h v = absurd v

and_operator : (f : Frame) (fs : List Frame) (y : Tokens)
    → FinishesAt (p.Operand prefixes.All) (with_comparison f comparison_is.Open) fs y
    → Rest postscript f fs (word (codes "and") ∷ y)
and_operator f fs y v =
    from_conjunction f fs (word (codes "and") ∷ y) v.0
    (operate conjunction o.And (word (codes "and")) (with_comparison f v.0) fs y refl refl refl refl v.1)

or_operator : (f : Frame) (fs : List Frame) (y : Tokens)
    → FinishesAt (p.Operand prefixes.All) (with_comparison f comparison_is.Open) fs y
    → Rest postscript f fs (word (codes "or") ∷ y)
or_operator f fs y v =
    from_disjunction f fs (word (codes "or") ∷ y) v.0
    (operate disjunction o.Or (word (codes "or")) (with_comparison f v.0) fs y refl refl refl refl
    (to_conjunction (with_comparison f v.0) fs y v.1))

-- ---- inline ifs, commas and closing signs

if_operator : (f : Frame) (fs : List Frame) (y : Tokens) (l : Clause) → f.clause ≡ l
    → FinishesNext (moves.chosen l f k.If) f fs y → Rest postscript f fs (word (codes "if") ∷ y)
if_operator f fs y clause.Value h v =
    let w = disjunction_of (frame f.bracket clause.Condition comparison_is.Open) fs y v in
    from_whole f fs (word (codes "if") ∷ y)
    (subst (λ z. Rest whole f fs (word (codes "if") ∷ z)) (sym w.splits) (condition v.0 h w.left w.right))
if_operator f fs y clause.Condition h v = absurd v

else_operator : (f : Frame) (fs : List Frame) (y : Tokens) (l : Clause) → f.clause ≡ l
    → FinishesNext (moves.chosen l f k.Else) f fs y → Rest postscript f fs (word (codes "else") ∷ y)
else_operator f fs y clause.Value h v = absurd v
else_operator f fs y clause.Condition h v =
    let w = whole_of (fresh f.bracket) fs y refl v in
    from_whole f fs (word (codes "else") ∷ y)
    (subst (λ z. Rest whole f fs (word (codes "else") ∷ z)) (sym w.splits) (other h w.left w.right))

comma_held : (r : Row) (t : Follow) (fs : List Frame) (y : Tokens)
    → (((z : Tokens) → Held (kind_of_row r) z → Behind (kind_of_row r) (cut.sign s.Comma ∷ z)))
    → FinishesPart (b.Sequence r t) fs y → Closes (b.Sequence r t) fs (cut.sign s.Comma ∷ y)
comma_held r t fs y rule v =
    subst (λ z. Closes (b.Sequence r t) fs (cut.sign s.Comma ∷ z)) (sym v.splits)
    (parts {r = r} (rule v.first v.left) v.right)

comma_closes : (c : Bracket) (f : Frame) (fs : List Frame) (y : Tokens) → FinishesNext (moves.separated c) f fs y
    → Closes c fs (cut.sign s.Comma ∷ y)
comma_closes (b.Sequence r t) f fs y v = comma_held r t fs y (λ z h. goes_on h) (v refl)
comma_closes b.Outermost f fs y v = absurd v
comma_closes b.Group f fs y v = absurd v
comma_closes b.Item f fs y v = absurd v

comma_operator : (f : Frame) (fs : List Frame) (y : Tokens) → FinishesNext (moves.separated f.bracket) f fs y
    → Rest postscript f fs (cut.sign s.Comma ∷ y)
comma_operator f fs y v = from_whole f fs (cut.sign s.Comma ∷ y) (ends (comma_closes f.bracket f fs y v))

row_shuts : (r : Row) (t : Follow) (fs : List Frame) (y : Tokens) (j : Sign) → moves.row_closes r j ≡ true
    → After t fs y → Closes (b.Sequence r t) fs (cut.sign j ∷ y)
row_shuts row.Items t fs y s.RightBracket h v = parts {r = row.Items} closes v
row_shuts row.Entries t fs y s.RightBrace h v = parts {r = row.Entries} closes v
row_shuts row.Arguments t fs y s.RightParen h v = parts {r = row.Arguments} closes v
row_shuts row.Keywords t fs y s.RightParen h v = parts {r = row.Keywords} closes v
row_shuts _ t fs y _ h v = absurd (cc)

shuts : (c : Bracket) (fs : List Frame) (y : Tokens) (j : Sign) → moves.closes c j ≡ true → After (follow_of c) fs y
    → Closes c fs (cut.sign j ∷ y)
shuts b.Group fs y s.RightParen h v = group v
shuts b.Item fs y s.RightBracket h v = an_item v
shuts (b.Sequence r t) fs y j h v = row_shuts r t fs y j h v
shuts _ fs y _ h v = absurd (cc)

closing_by : (f : Frame) (fs : List Frame) (y : Tokens) (j : Sign) (c : Bool) → moves.closes f.bracket j ≡ c
    → FinishesNext (if c then Some m.Closes else None) f fs y → Rest postscript f fs (cut.sign j ∷ y)
closing_by f fs y j true h v = from_whole f fs (cut.sign j ∷ y) (ends (shuts f.bracket fs y j h v))
closing_by f fs y j false h v = absurd v

closing : (f : Frame) (fs : List Frame) (y : Tokens) (j : Sign) → FinishesNext (moves.closing f j) f fs y
    → Rest postscript f fs (cut.sign j ∷ y)
closing f fs y j v = closing_by f fs y j (moves.closes f.bracket j) refl v

-- ---- filters and tests

filter_named : (f : Frame) (fs : List Frame) (y : Tokens) → FinishesAt p.Filter f fs y
    → Rest postscript f fs (cut.sign s.Pipe ∷ y)
filter_named f fs y v =
    let w = v.finishes in
    subst (λ z. Rest postscript f fs (cut.sign s.Pipe ∷ z)) (ap (λ z. cut.name v.named ∷ z) (sym w.splits) ∙ sym v.is)
    (extend postscript (cut.sign s.Pipe ∷ cut.name v.named ∷ w.first) w.rest refl
    (λ g rule a.
    let r = rule (trees.filter a (encode_utf8_all v.named) w.left.0.0 w.left.0.1) in
    (r.0, filtered v.holds w.left.1 r.1)) w.right)

test_named : (b : Bool) (n : Text) (f : Frame) (fs : List Frame) (y : Tokens) → names_test b n ≡ true
    → Split TestGiven (Rest postscript f fs) y → Rest postscript f fs (is_tokens b ++ (cut.name n ∷ y))
test_named true n f fs y h w =
    subst (λ z. Rest postscript f fs (word (codes "is") ∷ word (codes "not") ∷ cut.name n ∷ z)) (sym w.splits)
    (extend postscript (word (codes "is") ∷ word (codes "not") ∷ cut.name n ∷ w.first) w.rest refl
    (λ g rule a.
    let r = rule (trees.test a true (encode_utf8_all n) w.left.0.0 w.left.0.1) in
    (r.0, tested {b = true} n h w.left.1 r.1)) w.right)
test_named false n f fs y h w =
    subst (λ z. Rest postscript f fs (word (codes "is") ∷ cut.name n ∷ z)) (sym w.splits)
    (extend postscript (word (codes "is") ∷ cut.name n ∷ w.first) w.rest refl
    (λ g rule a.
    let r = rule (trees.test a false (encode_utf8_all n) w.left.0.0 w.left.0.1) in
    (r.0, tested {b = false} n h w.left.1 r.1)) w.right)

test_of : (f : Frame) (fs : List Frame) (y : Tokens) → FinishesAt p.Test f fs y
    → Rest postscript f fs (word (codes "is") ∷ y)
test_of f fs y (inl v) =
    subst (λ z. Rest postscript f fs (word (codes "is") ∷ z)) (sym v.is)
    (test_named false v.named f fs v.behind v.holds v.finishes)
test_of f fs y (inr v) =
    let w = v.finishes in
    subst (λ z. Rest postscript f fs (word (codes "is") ∷ z))
    (ap (λ z. word (codes "not") ∷ z) (sym w.is) ∙ sym v.is)
    (test_named true w.named f fs w.behind refl w.finishes)

sign_onward : (f : Frame) (fs : List Frame) (y : Tokens) (j : Sign) → FinishesNext (moves.onward_sign f j) f fs y
    → Rest postscript f fs (cut.sign j ∷ y)
sign_onward f fs y s.Pipe v = filter_named f fs y v
sign_onward f fs y s.Power v = power_operator o.Power (cut.sign s.Power) f fs y refl refl v
sign_onward f fs y s.Times v = product_operator o.Multiply (cut.sign s.Times) f fs y refl refl v
sign_onward f fs y s.FloorDivide v = product_operator o.FloorDivide (cut.sign s.FloorDivide) f fs y refl refl v
sign_onward f fs y s.Percent v = product_operator o.Remainder (cut.sign s.Percent) f fs y refl refl v
sign_onward f fs y s.Tilde v = tilde_operator f fs y v
sign_onward f fs y s.Plus v = sum_operator o.Add (cut.sign s.Plus) f fs y refl refl v
sign_onward f fs y s.Minus v = sum_operator o.Subtract (cut.sign s.Minus) f fs y refl refl v
sign_onward f fs y s.Equal v =
    compare_operator o.Equal (cut.sign s.Equal) f fs y refl refl f.comparison refl v
sign_onward f fs y s.NotEqual v =
    compare_operator o.NotEqual (cut.sign s.NotEqual) f fs y refl refl f.comparison refl v
sign_onward f fs y s.Less v = compare_operator o.Less (cut.sign s.Less) f fs y refl refl f.comparison refl v
sign_onward f fs y s.LessEqual v =
    compare_operator o.LessOrEqual (cut.sign s.LessEqual) f fs y refl refl f.comparison refl v
sign_onward f fs y s.Greater v =
    compare_operator o.Greater (cut.sign s.Greater) f fs y refl refl f.comparison refl v
sign_onward f fs y s.GreaterEqual v =
    compare_operator o.GreaterOrEqual (cut.sign s.GreaterEqual) f fs y refl refl f.comparison refl v
sign_onward f fs y s.Comma v = comma_operator f fs y v
sign_onward f fs y s.RightParen v = closing f fs y s.RightParen v
sign_onward f fs y s.RightBracket v = closing f fs y s.RightBracket v
sign_onward f fs y s.RightBrace v = closing f fs y s.RightBrace v
sign_onward f fs y _ v = absurd v

pub onward : (f : Frame) (fs : List Frame) (y : Tokens) {x : Token} {d : Kind} → IsOf x d
    → FinishesNext (moves.onward f d) f fs y → Rest postscript f fs (x ∷ y)
onward f fs y (kinds.a_name h) v = absurd v
onward f fs y (kinds.a_constant l h) v = absurd v
onward f fs y kinds.a_number v = absurd v
onward f fs y kinds.a_text v = absurd v
onward f fs y kinds.an_and v = and_operator f fs y v
onward f fs y kinds.an_or v = or_operator f fs y v
onward f fs y kinds.a_not v = not_operator f fs y f.comparison refl v
onward f fs y kinds.an_if v = if_operator f fs y f.clause refl v
onward f fs y kinds.an_else v = else_operator f fs y f.clause refl v
onward f fs y kinds.an_in v =
    compare_operator o.In (word (codes "in")) f fs y refl refl f.comparison refl v
onward f fs y kinds.an_is v = test_of f fs y v
onward f fs y (kinds.a_sign j) v = sign_onward f fs y j v

-- ---- postfix forms

attribute_named : (f : Frame) (fs : List Frame) (y : Tokens) → FinishesAt p.Attribute f fs y
    → Rest postfix f fs (cut.sign s.Dot ∷ y)
attribute_named f fs y v =
    subst (λ z. Rest postfix f fs (cut.sign s.Dot ∷ z)) (sym v.is)
    (extend postfix (cut.sign s.Dot ∷ cut.name v.named ∷ []) v.behind refl
    (λ g rule a. let r = rule (trees.attribute a (encode_utf8_all v.named)) in (r.0, attributed r.1)) v.finishes)

item_of : (f : Frame) (fs : List Frame) (y : Tokens) → FinishesAt (p.Operand prefixes.All) (fresh b.Item) (f ∷ fs) y
    → Rest postfix f fs (cut.sign s.LeftBracket ∷ y)
item_of f fs y v =
    let w = whole_of (fresh b.Item) (f ∷ fs) y refl v in
    let c = closes_item w.right in
    subst (λ z. Rest postfix f fs (cut.sign s.LeftBracket ∷ z))
    (append_assoc w.first (cut.sign s.RightBracket ∷ []) c.behind ∙ ap (λ z. w.first ++ z) (sym c.is) ∙ sym w.splits)
    (extend postfix (cut.sign s.LeftBracket ∷ (w.first ++ (cut.sign s.RightBracket ∷ []))) c.behind refl
    (λ g rule a.
    let r = rule (trees.item a w.left.0) in (
      r.0,
      subst (λ z. Goes postfix a r.0 (cut.sign s.LeftBracket ∷ z))
          (sym (append_assoc w.first (cut.sign s.RightBracket ∷ []) g)) (indexed w.left.1 r.1),
    )) (after_postfix c.after))

call_of : (f : Frame) (fs : List Frame) (y : Tokens)
    → FinishesAt p.Part (fresh (b.Sequence row.Arguments follow.Postfix)) (f ∷ fs) y
    → Rest postfix f fs (cut.sign s.LeftParen ∷ y)
call_of f fs y v =
    let w = v refl in
    subst (λ z. Rest postfix f fs (cut.sign s.LeftParen ∷ z)) (sym w.splits)
    (extend postfix (cut.sign s.LeftParen ∷ w.first) w.rest refl
    (λ g rule a. let r = rule (trees.call a w.left.0.0 w.left.0.1) in (r.0, called w.left.1 r.1))
    (after_postfix w.right))

sign_postfix : (f : Frame) (fs : List Frame) (y : Tokens) (j : Sign) → FinishesNext (moves.postfix f (k.Sign j)) f fs y
    → Rest postfix f fs (cut.sign j ∷ y)
sign_postfix f fs y s.Dot v = attribute_named f fs y v
sign_postfix f fs y s.LeftBracket v = item_of f fs y v
sign_postfix f fs y s.LeftParen v = call_of f fs y v
sign_postfix f fs y j v = lift postfix refl (sign_onward f fs y j v)

pub postfix_next : (f : Frame) (fs : List Frame) (y : Tokens) {x : Token} {d : Kind} → IsOf x d
    → FinishesNext (moves.postfix f d) f fs y → Rest postfix f fs (x ∷ y)
postfix_next f fs y (kinds.a_name h) v = absurd v
postfix_next f fs y (kinds.a_constant l h) v = absurd v
postfix_next f fs y kinds.a_number v = absurd v
postfix_next f fs y kinds.a_text v = absurd v
postfix_next f fs y kinds.an_and v = lift postfix refl (onward f fs y kinds.an_and v)
postfix_next f fs y kinds.an_or v = lift postfix refl (onward f fs y kinds.an_or v)
postfix_next f fs y kinds.a_not v = lift postfix refl (onward f fs y kinds.a_not v)
postfix_next f fs y kinds.an_if v = lift postfix refl (onward f fs y kinds.an_if v)
postfix_next f fs y kinds.an_else v = lift postfix refl (onward f fs y kinds.an_else v)
postfix_next f fs y kinds.an_in v = lift postfix refl (onward f fs y kinds.an_in v)
postfix_next f fs y kinds.an_is v = lift postfix refl (onward f fs y kinds.an_is v)
postfix_next f fs y (kinds.a_sign j) v = sign_postfix f fs y j v

-- ---- places behind names

pub given : (f : Frame) (fs : List Frame) (y : Tokens) → Rest postscript f fs y → Split Given (Rest postscript f fs) y
given f fs y r = record { first = []; rest = y; splits = refl; left = (no_parts, without); right = r }

pub test_given : (f : Frame) (fs : List Frame) (y : Tokens) → Rest postscript f fs y
    → Split TestGiven (Rest postscript f fs) y
test_given f fs y r =
    record { first = []; rest = y; splits = refl; left = (no_parts, as_filter without); right = r }

given_within : (f : Frame) (fs : List Frame) (y : Tokens)
    → FinishesAt p.Part (fresh (b.Sequence row.Arguments follow.Postscript)) (f ∷ fs) y
    → Split Given (Rest postscript f fs) (cut.sign s.LeftParen ∷ y)
given_within f fs y v =
    let w = v refl in
    record {
      first = cut.sign s.LeftParen ∷ w.first;
      rest = w.rest;
      splits = ap (λ z. cut.sign s.LeftParen ∷ z) w.splits;
      left = (w.left.0, within w.left.1);
      right = after_postscript w.right;
    }

test_given_within : (f : Frame) (fs : List Frame) (y : Tokens)
    → FinishesAt p.Part (fresh (b.Sequence row.Arguments follow.Postscript)) (f ∷ fs) y
    → Split TestGiven (Rest postscript f fs) (cut.sign s.LeftParen ∷ y)
test_given_within f fs y v =
    let w = given_within f fs y v in
    record { first = w.first; rest = w.rest; splits = w.splits; left = (w.left.0, as_filter w.left.1); right = w.right }

sign_filter : (f : Frame) (fs : List Frame) (y : Tokens) (j : Sign)
    → FinishesNext (moves.behind ending.FilterName f (k.Sign j)) f fs y
    → Split Given (Rest postscript f fs) (cut.sign j ∷ y)
sign_filter f fs y s.LeftParen v = given_within f fs y v
sign_filter f fs y j v = given f fs (cut.sign j ∷ y) (sign_onward f fs y j v)

pub filter_next : (f : Frame) (fs : List Frame) (y : Tokens) {x : Token} {d : Kind} → IsOf x d
    → FinishesNext (moves.behind ending.FilterName f d) f fs y → Split Given (Rest postscript f fs) (x ∷ y)
filter_next f fs y (kinds.a_name h) v = absurd v
filter_next f fs y (kinds.a_constant l h) v = absurd v
filter_next f fs y kinds.a_number v = absurd v
filter_next f fs y kinds.a_text v = absurd v
filter_next f fs y kinds.an_and v = given f fs _ (onward f fs y kinds.an_and v)
filter_next f fs y kinds.an_or v = given f fs _ (onward f fs y kinds.an_or v)
filter_next f fs y kinds.a_not v = given f fs _ (onward f fs y kinds.a_not v)
filter_next f fs y kinds.an_if v = given f fs _ (onward f fs y kinds.an_if v)
filter_next f fs y kinds.an_else v = given f fs _ (onward f fs y kinds.an_else v)
filter_next f fs y kinds.an_in v = given f fs _ (onward f fs y kinds.an_in v)
filter_next f fs y kinds.an_is v = given f fs _ (onward f fs y kinds.an_is v)
filter_next f fs y (kinds.a_sign j) v = sign_filter f fs y j v

sign_test : (f : Frame) (fs : List Frame) (y : Tokens) (j : Sign)
    → FinishesNext (moves.test_name f (k.Sign j)) f fs y → Split TestGiven (Rest postscript f fs) (cut.sign j ∷ y)
sign_test f fs y s.LeftParen v = test_given_within f fs y v
sign_test f fs y s.LeftBracket v = bare_list f fs y v
sign_test f fs y s.LeftBrace v = bare_map f fs y v
sign_test f fs y j v = test_given f fs (cut.sign j ∷ y) (sign_onward f fs y j v)

pub test_next : (f : Frame) (fs : List Frame) (y : Tokens) {x : Token} {d : Kind} → IsOf x d
    → FinishesNext (moves.test_name f d) f fs y → Split TestGiven (Rest postscript f fs) (x ∷ y)
test_next f fs y (kinds.a_name {x} h) v =
    bare_of (trees.name (encode_utf8_all x)) (cut.name x ∷ []) y (a_name h) (λ g. name_is_operand x h) v
test_next f fs y (kinds.a_constant {x} l h) v =
    bare_of (trees.constant l) (cut.name x ∷ []) y (a_constant h) (λ g. literal_is_operand x l h) v
test_next f fs y (kinds.a_number {n}) v =
    bare_of (trees.constant (trees.number n)) (cut.number n ∷ []) y a_number (λ g. refl) v
test_next f fs y (kinds.a_text {v = w}) v =
    bare_of (trees.constant (trees.text (encode_utf8_all w))) (cut.text w ∷ []) y a_text (λ g. refl) v
test_next f fs y kinds.an_and v = test_given f fs _ (onward f fs y kinds.an_and v)
test_next f fs y kinds.an_or v = test_given f fs _ (onward f fs y kinds.an_or v)
test_next f fs y kinds.a_not v = test_given f fs _ (onward f fs y kinds.a_not v)
test_next f fs y kinds.an_if v = test_given f fs _ (onward f fs y kinds.an_if v)
test_next f fs y kinds.an_else v = test_given f fs _ (onward f fs y kinds.an_else v)
test_next f fs y kinds.an_in v = test_given f fs _ (onward f fs y kinds.an_in v)
test_next f fs y kinds.an_is v = test_given f fs _ (onward f fs y kinds.an_is v)
test_next f fs y (kinds.a_sign j) v = sign_test f fs y j v

pub assigned_key : (c : Bracket) (f : Frame) (fs : List Frame) (y : Tokens) → FinishesNext (moves.assigned c) f fs y
    → FinishesKey c fs (cut.sign s.Assign ∷ y)
assigned_key (b.Sequence r t) f fs y v =
    record { behind = y; is = refl; split = whole_of (fresh (b.Sequence row.Keywords t)) fs y refl v }
assigned_key b.Outermost f fs y v = tt
assigned_key b.Group f fs y v = tt
assigned_key b.Item f fs y v = tt

sign_keyword : (f : Frame) (fs : List Frame) (y : Tokens) (j : Sign)
    → FinishesNext (moves.behind ending.Keyword f (k.Sign j)) f fs y
    → FinishesBehind ending.Keyword f fs (cut.sign j ∷ y)
sign_keyword f fs y s.Assign v = inr (assigned_key f.bracket f fs y v)
sign_keyword f fs y j v = inl (sign_postfix f fs y j v)

pub keyword_next : (f : Frame) (fs : List Frame) (y : Tokens) {x : Token} {d : Kind} → IsOf x d
    → FinishesNext (moves.behind ending.Keyword f d) f fs y → FinishesBehind ending.Keyword f fs (x ∷ y)
keyword_next f fs y (kinds.a_name h) v = absurd v
keyword_next f fs y (kinds.a_constant l h) v = absurd v
keyword_next f fs y kinds.a_number v = absurd v
keyword_next f fs y kinds.a_text v = absurd v
keyword_next f fs y kinds.an_and v = inl (postfix_next f fs y kinds.an_and v)
keyword_next f fs y kinds.an_or v = inl (postfix_next f fs y kinds.an_or v)
keyword_next f fs y kinds.a_not v = inl (postfix_next f fs y kinds.a_not v)
keyword_next f fs y kinds.an_if v = inl (postfix_next f fs y kinds.an_if v)
keyword_next f fs y kinds.an_else v = inl (postfix_next f fs y kinds.an_else v)
keyword_next f fs y kinds.an_in v = inl (postfix_next f fs y kinds.an_in v)
keyword_next f fs y kinds.an_is v = inl (postfix_next f fs y kinds.an_is v)
keyword_next f fs y (kinds.a_sign j) v = sign_keyword f fs y j v
