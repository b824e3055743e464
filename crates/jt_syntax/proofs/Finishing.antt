-- The tokens that finish an expression behind a state, by the grammar: each step of the machine is one
-- of their tokens, and each state has some.
use Rattle.std.proofs.Common.{◌≡◌, Bool, true, false, List, [], ◌∷◌, ◌++◌, codes, refl, sym, ap, subst, ◌∙◌}
use Rattle.std.proofs.Common.{◌⊎◌, append_assoc}
use Rattle.std.proofs.lemmas.List.{append-nil}
use Rattle.jt_scan.specs.Cut as cut
use Rattle.jt_scan.specs.declared.segment.Sign.{Sign}
use Rattle.jt_scan.specs.declared.segment.Sign.TheVariants as s
use Rattle.jt_ast.specs.declared.expression.BinaryOperator.{BinaryOperator}
use Rattle.jt_ast.specs.Expressions as trees
use Rattle.jt_ast.specs.Expressions.{Text, Expr, Exprs, no_exprs, Pairs, no_pairs, binary}
use Rattle.jt_expr.specs.Grammar.{Tokens, word, is_reserved, names_test, Level, whole, disjunction}
use Rattle.jt_expr.specs.Grammar.{conjunction, inversion, comparison, sum, concatenation, product, power, postscript}
use Rattle.jt_expr.specs.Grammar.{signed, postfix, next, level_of, operator_tokens}
use Rattle.jt_expr.specs.Grammar.{SequenceKind, items, entries, arguments, keywords, closer}
use Rattle.jt_expr.specs.Grammar.{LeveledList, Spells, plain, an_if}
use Rattle.jt_expr.specs.Grammar.{an_if_else, chain, upright, compared, alone, postscripts}
use Rattle.jt_expr.specs.Grammar.{Goes, stay}
use Rattle.jt_expr.specs.Grammar.{Arguments, TestArguments, Holds}
use Rattle.jt_syntax.specs.declared.frames.Row.{Row}
use Rattle.jt_syntax.specs.declared.frames.Row.TheVariants as row
use Rattle.jt_syntax.specs.declared.frames.Follow.{Follow}
use Rattle.jt_syntax.specs.declared.frames.Follow.TheVariants as follow
use Rattle.jt_syntax.specs.declared.frames.Bracket.{Bracket}
use Rattle.jt_syntax.specs.declared.frames.Bracket.TheVariants as b
use Rattle.jt_syntax.specs.declared.frames.Clause.TheVariants as clause
use Rattle.jt_syntax.specs.declared.frames.Comparison.{Comparison}
use Rattle.jt_syntax.specs.declared.frames.Comparison.TheVariants as comparison_is
use Rattle.jt_syntax.specs.declared.frames.Frame.{Frame}
use Rattle.jt_syntax.specs.declared.frames.Prefixes.TheVariants as prefixes
use Rattle.jt_syntax.specs.declared.frames.Ending.{Ending}
use Rattle.jt_syntax.specs.declared.frames.Ending.TheVariants as ending
use Rattle.jt_syntax.specs.declared.frames.Place.{Place}
use Rattle.jt_syntax.specs.declared.frames.Place.TheVariants as p
use Rattle.jt_syntax.specs.internal.Moves.{frame, fresh, with_comparison}
use Rattle.jt_syntax.specs.internal.States.{State, at, start}

-- ---- what finishes a state

-- A list in two parts.
pub record Split (A B : Tokens → Type 0) (y : Tokens) : Type 0 where
  pub first : Tokens
  pub rest : Tokens
  pub splits : y ≡ first ++ rest
  pub left : A first
  pub right : B rest

-- A form of the level.
abbrev pub Form : Level → Tokens → Type 0
Form k x = (t : Expr) × Spells k t x

-- What extends each tree of the level.
abbrev pub Extends : Level → Tokens → Type 0
Extends k y = (a : Expr) → (t : Expr) × Goes k a t y

abbrev pub kind_of_row : Row → SequenceKind
kind_of_row row.Items = items
kind_of_row row.Entries = entries
kind_of_row row.Arguments = arguments
kind_of_row row.Keywords = keywords

-- The parts of a sequence and its closing sign. A list has no keys, and a map has only keys.
abbrev pub Held : SequenceKind → Tokens → Type 0
Held items x = (ts : Exprs) × Holds items (ts, no_pairs) x
Held entries x = (ps : Pairs) × Holds entries (no_exprs, ps) x
Held arguments x = (q : LeveledList) × Holds arguments q x
Held keywords x = (q : LeveledList) × Holds keywords q x

abbrev pub Given : Tokens → Type 0
Given x = (q : LeveledList) × Arguments q x

abbrev pub TestGiven : Tokens → Type 0
TestGiven x = (q : LeveledList) × TestArguments q x

-- The rest of a sequence behind a part.
pub data Behind : SequenceKind → Tokens → Type 0 where
  closes : {r : SequenceKind} → Behind r (cut.sign (closer r) ∷ [])
  goes_on : {r : SequenceKind} {z : Tokens} → Held r z → Behind r (cut.sign s.Comma ∷ z)

-- The next looser level that operators or filters extend.
abbrev pub up : Level → Level
up postfix = postscript
up postscript = power
up power = product
up product = concatenation
up concatenation = sum
up sum = comparison
up conjunction = disjunction
up _ = whole

abbrev pub is_extended : Level → Bool
is_extended postfix = true
is_extended postscript = true
is_extended power = true
is_extended product = true
is_extended concatenation = true
is_extended sum = true
is_extended conjunction = true
is_extended disjunction = true
is_extended _ = false

abbrev pub level_behind : Follow → Level
level_behind follow.Postfix = postfix
level_behind follow.Postscript = postscript

mutual
  -- The tokens finish the expression behind a form of the level in the frame.
  pub data Rest : Level → Frame → List Frame → Tokens → Type 0 where
    climbs : {k : Level} {f : Frame} {fs : List Frame} {g y : Tokens} → is_extended k ≡ true → Extends k g
        → Rest (up k) f fs y → Rest k f fs (g ++ y)
    single : {f : Frame} {fs : List Frame} {y : Tokens} → (o : Comparison)
        → Rest conjunction (with_comparison f o) fs y → Rest comparison f fs y
    pair : {f : Frame} {fs : List Frame} {x y : Tokens} → (op : BinaryOperator) → (o : Comparison)
        → f.comparison ≡ comparison_is.Open → level_of op ≡ comparison → Form sum x
        → Rest conjunction (with_comparison f o) fs y → Rest comparison f fs (operator_tokens op ++ (x ++ y))
    condition : {f : Frame} {fs : List Frame} {x y : Tokens} → (o : Comparison) → f.clause ≡ clause.Value
        → Form disjunction x → Rest whole (frame f.bracket clause.Condition o) fs y
        → Rest whole f fs (word (codes "if") ∷ (x ++ y))
    other : {f : Frame} {fs : List Frame} {x y : Tokens} → f.clause ≡ clause.Condition → Form whole x
        → Closes f.bracket fs y → Rest whole f fs (word (codes "else") ∷ (x ++ y))
    ends : {f : Frame} {fs : List Frame} {y : Tokens} → Closes f.bracket fs y → Rest whole f fs y

  -- The tokens close the bracket and finish what is around it.
  pub data Closes : Bracket → List Frame → Tokens → Type 0 where
    at_end : {fs : List Frame} → Closes b.Outermost fs []
    group : {fs : List Frame} {y : Tokens} → After follow.Postfix fs y
        → Closes b.Group fs (cut.sign s.RightParen ∷ y)
    an_item : {fs : List Frame} {y : Tokens} → After follow.Postfix fs y
        → Closes b.Item fs (cut.sign s.RightBracket ∷ y)
    parts : {r : Row} {t : Follow} {fs : List Frame} {z y : Tokens} → Behind (kind_of_row r) z → After t fs y
        → Closes (b.Sequence r t) fs (z ++ y)

  -- The tokens finish the expression behind a closing sign.
  pub data After : Follow → List Frame → Tokens → Type 0 where
    nothing : {t : Follow} → After t [] []
    around : {t : Follow} {f : Frame} {fs : List Frame} {y : Tokens} → Rest (level_behind t) f fs y
        → After t (f ∷ fs) y

abbrev pub Operand : Level → Level → Frame → List Frame → Tokens → Type 0
Operand k j f fs = Split (Form k) (Rest j f fs)

-- A sign, a whole expression, and what closes the bracket.
pub record SignWhole (j : Sign) (c : Bracket) (fs : List Frame) (y : Tokens) : Type 0 where
  pub behind : Tokens
  pub is : y ≡ cut.sign j ∷ behind
  pub split : Split (Form whole) (Closes c fs) behind

abbrev pub FinishesPart : Bracket → List Frame → Tokens → Type 0
FinishesPart (b.Sequence r t) fs y = Split (Held (kind_of_row r)) (After t fs) y
FinishesPart _ fs y = Unit {0}

abbrev pub FinishesKey : Bracket → List Frame → Tokens → Type 0
FinishesKey (b.Sequence r t) fs y = SignWhole s.Assign (b.Sequence row.Keywords t) fs y
FinishesKey _ fs y = Unit {0}

-- A word, and tokens behind it.
pub record WordThen (N : Text → Type 0) (A : Tokens → Type 0) (y : Tokens) : Type 0 where
  pub named : Text
  pub behind : Tokens
  pub is : y ≡ cut.name named ∷ behind
  pub holds : N named
  pub finishes : A behind

pub record NotThen (N : Text → Type 0) (A : Tokens → Type 0) (y : Tokens) : Type 0 where
  pub behind : Tokens
  pub is : y ≡ word (codes "not") ∷ behind
  pub finishes : WordThen N A behind

pub record InThen (f : Frame) (fs : List Frame) (y : Tokens) : Type 0 where
  pub behind : Tokens
  pub is : y ≡ word (codes "in") ∷ behind
  pub taken : Comparison
  pub split : Split (Form sum) (Rest conjunction (with_comparison f taken) fs) behind

abbrev pub AnyName : Text → Type 0
AnyName n = Unit {0}

abbrev pub Unreserved : Text → Type 0
Unreserved n = is_reserved n ≡ false

abbrev pub NoNot : Text → Type 0
NoNot n = names_test false n ≡ true

abbrev pub FinishesBehind : Ending → Frame → List Frame → Tokens → Type 0
FinishesBehind ending.Keyword f fs y = Rest postfix f fs y ⊎ FinishesKey f.bracket fs y
FinishesBehind ending.Postfix f fs y = Rest postfix f fs y
FinishesBehind ending.FilterName f fs y = Split Given (Rest postscript f fs) y
FinishesBehind ending.TestName f fs y = Split TestGiven (Rest postscript f fs) y
FinishesBehind ending.Postscript f fs y = Rest postscript f fs y

-- The tokens finish the expression behind the state.
abbrev pub FinishesAt : Place → Frame → List Frame → Tokens → Type 0
FinishesAt (p.Operand prefixes.All) f fs y =
    (o : Comparison) × Operand inversion conjunction (with_comparison f o) fs y
FinishesAt (p.Operand prefixes.Signs) f fs y = Operand signed postscript f fs y
FinishesAt p.Part f fs y = f.clause ≡ clause.Value → FinishesPart f.bracket fs y
FinishesAt p.Colon f fs y = f.clause ≡ clause.Value → SignWhole s.Colon f.bracket fs y
FinishesAt p.Assign f fs y = FinishesKey f.bracket fs y
FinishesAt p.Attribute f fs y = WordThen AnyName (Rest postfix f fs) y
FinishesAt p.Filter f fs y = WordThen Unreserved (Split Given (Rest postscript f fs)) y
FinishesAt p.Test f fs y =
    WordThen NoNot (Split TestGiven (Rest postscript f fs)) y
    ⊎ NotThen AnyName (Split TestGiven (Rest postscript f fs)) y
FinishesAt p.NegatedTest f fs y = WordThen AnyName (Split TestGiven (Rest postscript f fs)) y
FinishesAt p.In f fs y = InThen f fs y
FinishesAt (p.Behind e) f fs y = FinishesBehind e f fs y

abbrev pub Finishes : State → Tokens → Type 0
Finishes (at q f fs) y = FinishesAt q f fs y

-- ---- from level to level

-- A form of a level, with nothing behind it at the level.
pub lift : (k : Level) {f : Frame} {fs : List Frame} {y : Tokens} → is_extended k ≡ true → Rest (up k) f fs y
    → Rest k f fs y
lift k h r = climbs {k = k} {g = []} h (λ a. (a, stay)) r

pub climbed : (k : Level) {f : Frame} {fs : List Frame} {y : Tokens} → is_extended k ≡ true → Rest k f fs y
    → Split (Extends k) (Rest (up k) f fs) y
climbed k h (climbs {k = k0} {f} {fs} {g} {y} e x r) =
    record { first = g; rest = y; splits = refl; left = x; right = r }
climbed k h (single o r) = absurd (cc)
climbed k h (pair op o c e x r) = absurd (cc)
climbed k h (condition o c x r) = absurd (cc)
climbed k h (other c x r) = absurd (cc)
climbed k h (ends r) = absurd (cc)

pub regroup : (y x z g w : Tokens) → y ≡ x ++ z → z ≡ g ++ w → y ≡ (x ++ g) ++ w
regroup y x z g w h e = h ∙ ap (λ v. x ++ v) e ∙ sym (append_assoc x g w)

-- The form of the next tighter level and what extends it are a form of the level.
join : (k : Level) (f : Frame) (fs : List Frame) (y : Tokens) → is_extended k ≡ true
    → ((a t : Expr) (x g : Tokens) → Spells (next k) a x → Goes k a t g → Spells k t (x ++ g))
    → Operand (next k) k f fs y → Operand k (up k) f fs y
join k f fs y h rule v =
    let w = climbed k h v.right in
    let g = w.left v.left.0 in
    record {
      first = v.first ++ w.first;
      rest = w.rest;
      splits = regroup y v.first v.rest w.first w.rest v.splits w.splits;
      left = (g.0, rule v.left.0 g.0 v.first w.first v.left.1 g.1);
      right = w.right;
    }

pub to_postscript : (f : Frame) (fs : List Frame) (y : Tokens) → Operand signed postscript f fs y
    → Operand postscript power f fs y
to_postscript f fs y = join postscript f fs y refl (λ a t x g d e. postscripts d e)

pub to_power : (f : Frame) (fs : List Frame) (y : Tokens) → Operand postscript power f fs y
    → Operand power product f fs y
to_power f fs y = join power f fs y refl (λ a t x g d e. chain refl d e)

pub to_product : (f : Frame) (fs : List Frame) (y : Tokens) → Operand power product f fs y
    → Operand product concatenation f fs y
to_product f fs y = join product f fs y refl (λ a t x g d e. chain refl d e)

pub to_concatenation : (f : Frame) (fs : List Frame) (y : Tokens) → Operand product concatenation f fs y
    → Operand concatenation sum f fs y
to_concatenation f fs y = join concatenation f fs y refl (λ a t x g d e. chain refl d e)

pub to_sum : (f : Frame) (fs : List Frame) (y : Tokens) → Operand concatenation sum f fs y
    → Operand sum comparison f fs y
to_sum f fs y = join sum f fs y refl (λ a t x g d e. chain refl d e)

pub to_conjunction : (f : Frame) (fs : List Frame) (y : Tokens) → Operand inversion conjunction f fs y
    → Operand conjunction disjunction f fs y
to_conjunction f fs y = join conjunction f fs y refl (λ a t x g d e. chain refl d e)

pub to_disjunction : (f : Frame) (fs : List Frame) (y : Tokens) → Operand conjunction disjunction f fs y
    → Operand disjunction whole f fs y
to_disjunction f fs y = join disjunction f fs y refl (λ a t x g d e. chain refl d e)

compare_all : (f : Frame) (fs : List Frame) (y x z : Tokens) → y ≡ x ++ z → Form sum x → Rest comparison f fs z
    → FinishesAt (p.Operand prefixes.All) f fs y
compare_all f fs y x z h d (climbs e g r) = absurd (cc)
compare_all f fs y x z h d (single o r) =
    (o, record { first = x; rest = z; splits = h; left = (d.0, upright (alone d.1)); right = r })
compare_all f fs y x z0 h d (pair {x = w} {y = z} op o c e a r) = (
  o,
  record {
    first = x ++ (operator_tokens op ++ w);
    rest = z;
    splits = regroup y x (operator_tokens op ++ (w ++ z)) (operator_tokens op ++ w) z h
        (sym (append_assoc (operator_tokens op) w z));
    left = (binary op d.0 a.0, upright (compared e d.1 a.1));
    right = r;
  },
)

-- An operand with signs may stand where one with `not` may.
pub all_of_signs : (f : Frame) (fs : List Frame) (y : Tokens) → FinishesAt (p.Operand prefixes.Signs) f fs y
    → FinishesAt (p.Operand prefixes.All) f fs y
all_of_signs f fs y v =
    let w = to_sum f fs y (to_concatenation f fs y (to_product f fs y (to_power f fs y (to_postscript f fs y v)))) in
    compare_all f fs y w.first w.rest w.splits w.left w.right

conditional : (f : Frame) (fs : List Frame) (c : Bracket) (y x v w : Tokens) → y ≡ x ++ (word (codes "if") ∷ (v ++ w))
    → Form disjunction x → Form disjunction v → f.clause ≡ clause.Condition → f.bracket ≡ c → Rest whole f fs w
    → Split (Form whole) (Closes c fs) y
conditional f fs c y x v w h d e l q (climbs i g r) = absurd (cc)
conditional f fs c y x v w h d e l q (condition o i a r) = absurd (cc)
conditional f fs c y x v w0 h d e l q (other {x = z} {y = w} i a r) =
    record {
      first = x ++ (word (codes "if") ∷ (v ++ (word (codes "else") ∷ z)));
      rest = w;
      splits = regroup y x (word (codes "if") ∷ (v ++ (word (codes "else") ∷ (z ++ w))))
          (word (codes "if") ∷ (v ++ (word (codes "else") ∷ z))) w h
          (ap (λ k. word (codes "if") ∷ k) (sym (append_assoc v (word (codes "else") ∷ z) w)));
      left = (trees.choice e.0 d.0 a.0, an_if_else d.1 e.1 a.1);
      right = subst (λ k. Closes k fs w) q r;
    }
conditional f fs c y x v w h d e l q (ends r) =
    record {
      first = x ++ (word (codes "if") ∷ v);
      rest = w;
      splits = regroup y x (word (codes "if") ∷ (v ++ w)) (word (codes "if") ∷ v) w h refl;
      left = (trees.when e.0 d.0, an_if d.1 e.1);
      right = subst (λ k. Closes k fs w) q r;
    }

chosen_whole : (f : Frame) (fs : List Frame) (y x z : Tokens) → y ≡ x ++ z → Form disjunction x
    → f.clause ≡ clause.Value → Rest whole f fs z → Split (Form whole) (Closes f.bracket fs) y
chosen_whole f fs y x z h d l (climbs i g r) = absurd (cc)
chosen_whole f fs y x z0 h d l (condition {x = v} {y = w} o i a r) =
    conditional (frame f.bracket clause.Condition o) fs f.bracket y x v w h d a refl refl r
chosen_whole f fs y x z0 h d l (other i a r) = absurd (cc)
chosen_whole f fs y x z h d l (ends r) =
    record { first = x; rest = z; splits = h; left = (d.0, plain d.1); right = r }

pub disjunction_of : (f : Frame) (fs : List Frame) (y : Tokens)
    → (v : FinishesAt (p.Operand prefixes.All) f fs y)
    → Operand disjunction whole (with_comparison f v.0) fs y
disjunction_of f fs y v =
    to_disjunction (with_comparison f v.0) fs y (to_conjunction (with_comparison f v.0) fs y v.1)

-- An operand at the start of a frame begins a whole expression.
pub whole_of : (f : Frame) (fs : List Frame) (y : Tokens) → f.clause ≡ clause.Value
    → FinishesAt (p.Operand prefixes.All) f fs y → Split (Form whole) (Closes f.bracket fs) y
whole_of f fs y l v =
    let w = disjunction_of f fs y v in
    chosen_whole (with_comparison f v.0) fs y w.first w.rest w.splits w.left l w.right

ended : (c : Bracket) (fs : List Frame) (y : Tokens) → c ≡ b.Outermost → Closes c fs y → y ≡ []
ended c fs y h at_end = refl
ended c fs y h (group r) = absurd (cc)
ended c fs y h (an_item r) = absurd (cc)
ended c fs y h (parts z r) = absurd (cc)

-- What finishes the start is an expression.
pub finished : (y : Tokens) → Finishes start y → (t : Expr) × Spells whole t y
finished y v =
    let w = whole_of (fresh b.Outermost) [] y refl v in
    let e = ended b.Outermost [] w.rest refl w.right in (
      w.left.0,
      subst (λ z. Spells whole w.left.0 z)
          (sym (w.splits ∙ ap (λ z. w.first ++ z) e ∙ append-nil w.first)) w.left.1,
    )
