-- Each state that tokens lead to has tokens that finish it, so these tokens begin an expression. Tokens
-- that lead to no state begin none.
use Rattle.std.proofs.Common.{◌≡◌, Bool, true, false, not, List, [], ◌∷◌, ◌++◌, codes, refl, sym, ap}
use Rattle.std.proofs.Common.{subst}
use Rattle.std.proofs.Common.{◌∙◌, Option, Some, None, inl, inr, encode_utf8_all}
use Rattle.std.proofs.Common.{bytes_eq}
use Rattle.std.proofs.lemmas.List.{append-nil}
use Rattle.std.proofs.lemmas.Slice.Eq.{bytes_eq-Decides}
use Rattle.jt_scan.specs.Cut as cut
use Rattle.jt_scan.specs.Cut.{Token}
use Rattle.jt_scan.specs.declared.segment.Sign.{Sign}
use Rattle.jt_scan.specs.declared.segment.Sign.TheVariants as s
use Rattle.jt_ast.specs.Expressions as trees
use Rattle.jt_ast.specs.Expressions.{Text, Literal, Expr, no_exprs, no_pairs}
use Rattle.jt_expr.specs.Grammar.{Tokens, word, is_reserved, literal_of, whole, postfix}
use Rattle.jt_expr.specs.Grammar.{postscript, signed, closer, no_parts, Spells, a_text, closed}
use Rattle.jt_syntax.specs.Prefixes.{Spelled, Begins}
use Rattle.jt_syntax.specs.declared.kinds.Kind.{Kind}
use Rattle.jt_syntax.specs.declared.kinds.Kind.TheVariants as k
use Rattle.jt_syntax.specs.declared.frames.Row.{Row}
use Rattle.jt_syntax.specs.declared.frames.Row.TheVariants as row
use Rattle.jt_syntax.specs.declared.frames.Follow.{Follow}
use Rattle.jt_syntax.specs.declared.frames.Follow.TheVariants as follow
use Rattle.jt_syntax.specs.declared.frames.Bracket.{Bracket}
use Rattle.jt_syntax.specs.declared.frames.Bracket.TheVariants as b
use Rattle.jt_syntax.specs.declared.frames.Comparison.TheVariants as comparison_is
use Rattle.jt_syntax.specs.declared.frames.Frame.{Frame}
use Rattle.jt_syntax.specs.declared.frames.Prefixes.TheVariants as prefixes
use Rattle.jt_syntax.specs.declared.frames.Ending.{Ending}
use Rattle.jt_syntax.specs.declared.frames.Ending.TheVariants as ending
use Rattle.jt_syntax.specs.declared.frames.Place.{Place}
use Rattle.jt_syntax.specs.declared.frames.Place.TheVariants as p
use Rattle.jt_syntax.specs.declared.frames.Move.{Move}
use Rattle.jt_syntax.specs.declared.frames.Move.TheVariants as m
use Rattle.jt_syntax.specs.internal.Kinds.{kind_of}
use Rattle.jt_syntax.specs.internal.Moves as moves
use Rattle.jt_syntax.specs.internal.Moves.{frame, fresh, with_comparison}
use Rattle.jt_syntax.specs.internal.States.{State, at, made_by, step, walk, start, is_complete, completes}
use Rattle.jt_syntax.specs.internal.States.{shut}
use Rattle.jt_syntax.proofs.TokenKinds as kinds
use Rattle.jt_syntax.proofs.TokenKinds.{IsOf, kind_view}
use Rattle.jt_syntax.proofs.Covering.{walk_none, walk_append, ends}
use Rattle.jt_syntax.proofs.Advancing.{spelled_leads}
use Rattle.jt_syntax.proofs.Finishing as finishing
use Rattle.jt_syntax.proofs.Finishing.{Split, Form, Held, Behind, kind_of_row, Rest, Closes, group, an_item, parts}
use Rattle.jt_syntax.proofs.Finishing.{After, nothing, around, Operand, SignWhole, FinishesPart, FinishesKey, WordThen}
use Rattle.jt_syntax.proofs.Finishing.{NotThen, InThen, FinishesBehind, FinishesAt, Finishes, AnyName, lift}
use Rattle.jt_syntax.proofs.Finishing.{all_of_signs, whole_of, finished, at_end, level_behind}
use Rattle.jt_syntax.proofs.Stepping.{FinishesNext, follow_of, all_operand, signs_operand, part_in, assigned_key}
use Rattle.jt_syntax.proofs.Stepping.{right_of, filter_next, test_next, keyword_next, postfix_next, onward, primary_of}
use Rattle.jt_syntax.proofs.Stepping.{from_whole, given, test_given, shut_part}

-- ---- one token

same_text : (x w : Text) → bytes_eq x w ≡ true → x ≡ w
same_text x w h = (bytes_eq-Decides x w).0 h

name_is_test : (x : Text) (c : Bool) → bytes_eq x (codes "not") ≡ c → is_reserved x ≡ false → not c ≡ true
name_is_test x true e h =
    let a : true ≡ false = subst (λ y. is_reserved y ≡ false) (same_text x (codes "not") e) h in absurd (cc)
name_is_test x false e h = refl

constant_is_test : (x : Text) (l : Literal) (c : Bool) → bytes_eq x (codes "not") ≡ c → literal_of x ≡ Some l
    → not c ≡ true
constant_is_test x l true e h =
    let a : None ≡ Some l = subst (λ y. literal_of y ≡ Some l) (same_text x (codes "not") e) h in absurd (cc)
constant_is_test x l false e h = refl

word_then : (N : Text → Type 0) (A : Tokens → Type 0) (n : Text) (y : Tokens) → N n → A y
    → WordThen N A (cut.name n ∷ y)
word_then N A n y h v = record { named = n; behind = y; is = refl; holds = h; finishes = v }

any_word : (A : Tokens → Type 0) (e : Ending) (f : Frame) (fs : List Frame) (y : Tokens) {x : Token} {d : Kind}
    → (FinishesAt (p.Behind e) f fs y → A y) → IsOf x d → FinishesNext (moves.named e f d) f fs y
    → WordThen AnyName A (x ∷ y)
any_word A e f fs y to (kinds.a_name {x} h) v = word_then AnyName A x y tt (to v)
any_word A e f fs y to (kinds.a_constant {x} l h) v = word_then AnyName A x y tt (to v)
any_word A e f fs y to kinds.a_number v = absurd v
any_word A e f fs y to kinds.a_text v = absurd v
any_word A e f fs y to kinds.an_and v = word_then AnyName A (codes "and") y tt (to v)
any_word A e f fs y to kinds.an_or v = word_then AnyName A (codes "or") y tt (to v)
any_word A e f fs y to kinds.a_not v = word_then AnyName A (codes "not") y tt (to v)
any_word A e f fs y to kinds.an_if v = word_then AnyName A (codes "if") y tt (to v)
any_word A e f fs y to kinds.an_else v = word_then AnyName A (codes "else") y tt (to v)
any_word A e f fs y to kinds.an_in v = word_then AnyName A (codes "in") y tt (to v)
any_word A e f fs y to kinds.an_is v = word_then AnyName A (codes "is") y tt (to v)
any_word A e f fs y to (kinds.a_sign j) v = absurd v

colon_sign : (f : Frame) (fs : List Frame) (y : Tokens) (j : Sign)
    → FinishesNext (moves.next p.Colon f (k.Sign j)) f fs y
    → FinishesAt p.Colon f fs (cut.sign j ∷ y)
colon_sign f fs y s.Colon v = λ l. record { behind = y; is = refl; split = whole_of f fs y l v }
colon_sign f fs y _ v = absurd v

colon_next : (f : Frame) (fs : List Frame) (y : Tokens) {x : Token} {d : Kind} → IsOf x d
    → FinishesNext (moves.next p.Colon f d) f fs y → FinishesAt p.Colon f fs (x ∷ y)
colon_next f fs y (kinds.a_sign j) v = colon_sign f fs y j v
colon_next f fs y _ v = absurd v

assign_sign : (f : Frame) (fs : List Frame) (y : Tokens) (j : Sign)
    → FinishesNext (moves.next p.Assign f (k.Sign j)) f fs y → FinishesAt p.Assign f fs (cut.sign j ∷ y)
assign_sign f fs y s.Assign v = assigned_key f.bracket f fs y v
assign_sign f fs y _ v = absurd v

assign_next : (f : Frame) (fs : List Frame) (y : Tokens) {x : Token} {d : Kind} → IsOf x d
    → FinishesNext (moves.next p.Assign f d) f fs y → FinishesAt p.Assign f fs (x ∷ y)
assign_next f fs y (kinds.a_sign j) v = assign_sign f fs y j v
assign_next f fs y _ v = absurd v

filter_place : (f : Frame) (fs : List Frame) (y : Tokens) {x : Token} {d : Kind} → IsOf x d
    → FinishesNext (moves.next p.Filter f d) f fs y → FinishesAt p.Filter f fs (x ∷ y)
filter_place f fs y (kinds.a_name {x} h) v = word_then _ _ x y h v
filter_place f fs y _ v = absurd v

test_place : (f : Frame) (fs : List Frame) (y : Tokens) {x : Token} {d : Kind} → IsOf x d
    → FinishesNext (moves.next p.Test f d) f fs y → FinishesAt p.Test f fs (x ∷ y)
test_place f fs y (kinds.a_name {x} h) v = inl (word_then _ _ x y (name_is_test x (bytes_eq x (codes "not")) refl h) v)
test_place f fs y (kinds.a_constant {x} l h) v =
    inl (word_then _ _ x y (constant_is_test x l (bytes_eq x (codes "not")) refl h) v)
test_place f fs y kinds.a_number v = absurd v
test_place f fs y kinds.a_text v = absurd v
test_place f fs y kinds.an_and v = inl (word_then _ _ (codes "and") y refl v)
test_place f fs y kinds.an_or v = inl (word_then _ _ (codes "or") y refl v)
test_place f fs y kinds.a_not v = inr (record { behind = y; is = refl; finishes = v })
test_place f fs y kinds.an_if v = inl (word_then _ _ (codes "if") y refl v)
test_place f fs y kinds.an_else v = inl (word_then _ _ (codes "else") y refl v)
test_place f fs y kinds.an_in v = inl (word_then _ _ (codes "in") y refl v)
test_place f fs y kinds.an_is v = inl (word_then _ _ (codes "is") y refl v)
test_place f fs y (kinds.a_sign j) v = absurd v

in_place : (f : Frame) (fs : List Frame) (y : Tokens) {x : Token} {d : Kind} → IsOf x d
    → FinishesNext (moves.next p.In f d) f fs y → FinishesAt p.In f fs (x ∷ y)
in_place f fs y kinds.an_in v = right_of f fs y v
in_place f fs y _ v = absurd v

behind_next : (e : Ending) (f : Frame) (fs : List Frame) (y : Tokens) {x : Token} {d : Kind} → IsOf x d
    → FinishesNext (moves.behind e f d) f fs y → FinishesBehind e f fs (x ∷ y)
behind_next ending.Keyword f fs y i v = keyword_next f fs y i v
behind_next ending.Postfix f fs y i v = postfix_next f fs y i v
behind_next ending.FilterName f fs y i v = filter_next f fs y i v
behind_next ending.TestName f fs y i v = test_next f fs y i v
behind_next ending.Postscript f fs y i v = onward f fs y i v

place_next : (q : Place) (f : Frame) (fs : List Frame) (y : Tokens) {x : Token} {d : Kind} → IsOf x d
    → FinishesNext (moves.next q f d) f fs y → FinishesAt q f fs (x ∷ y)
place_next (p.Operand prefixes.All) f fs y i v = all_operand f fs y i v
place_next (p.Operand prefixes.Signs) f fs y i v = signs_operand f fs y i v
place_next p.Part f fs y i v = λ l. part_in f.bracket f fs y refl l i v
place_next p.Colon f fs y i v = colon_next f fs y i v
place_next p.Assign f fs y i v = assign_next f fs y i v
place_next p.Attribute f fs y i v = any_word (Rest postfix f fs) ending.Postfix f fs y (λ r. r) i v
place_next p.Filter f fs y i v = filter_place f fs y i v
place_next p.Test f fs y i v = test_place f fs y i v
place_next p.NegatedTest f fs y i v = any_word _ ending.TestName f fs y (λ r. r) i v
place_next p.In f fs y i v = in_place f fs y i v
place_next (p.Behind e) f fs y i v = behind_next e f fs y i v

after_shut : (c : Bracket) (g : Frame) (gs : List Frame) (y : Tokens) → FinishesAt (moves.closed c) g gs y
    → After (follow_of c) (g ∷ gs) y
after_shut (b.Sequence r follow.Postscript) g gs y v = around {t = follow.Postscript} v
after_shut (b.Sequence r follow.Postfix) g gs y v = around {t = follow.Postfix} v
after_shut b.Outermost g gs y v = around {t = follow.Postfix} v
after_shut b.Group g gs y v = around {t = follow.Postfix} v
after_shut b.Item g gs y v = around {t = follow.Postfix} v

shut_back : (c : Bracket) (fs : List Frame) (z : State) (y : Tokens) → shut c fs ≡ Some z → Finishes z y
    → After (follow_of c) fs y
shut_back c [] z y e v = absurd (cc)
shut_back c (g ∷ gs) z y e v =
    let same : z ≡ at (moves.closed c) g gs = cc in
    after_shut c g gs y (subst (λ x. Finishes x y) same v)

move_back : (q : Place) (f : Frame) (fs : List Frame) (y : Tokens) (z : State) (x : Option Move)
    → made_by x (at q f fs) ≡ Some z → Finishes z y → FinishesNext x f fs y
move_back q f fs y z None e v = absurd (cc)
move_back q f fs y z (Some (m.To r g)) e v =
    let same : z ≡ at r g fs = cc in subst (λ x. Finishes x y) same v
move_back q f fs y z (Some (m.Opens r g)) e v =
    let same : z ≡ at r g (f ∷ fs) = cc in subst (λ x. Finishes x y) same v
move_back q f fs y z (Some m.Closes) e v = shut_back f.bracket fs z y e v

step_back : (x : State) (t : Token) (z : State) (y : Tokens) → step x (kind_of t) ≡ Some z → Finishes z y
    → Finishes x (t ∷ y)
step_back (at q f fs) t z y e v =
    place_next q f fs y (kind_view t) (move_back q f fs y z (moves.next q f (kind_of t)) e v)

-- ---- all tokens

walk_back_by : (ts : Tokens) (t : Token) (x z : State) (y : Tokens)
    → ((w : State) → walk ts (Some w) ≡ Some z → Finishes w (ts ++ y)) → (o : Option State)
    → step x (kind_of t) ≡ o → walk ts o ≡ Some z → Finishes x (t ∷ (ts ++ y))
walk_back_by ts t x z y ih None e h =
    let n : None ≡ Some z = sym (walk_none ts) ∙ h in absurd (cc)
walk_back_by ts t x z y ih (Some w) e h = step_back x t w (ts ++ y) e (ih w h)

walk_back : (ts : Tokens) (x z : State) (y : Tokens) → walk ts (Some x) ≡ Some z → Finishes z y
    → Finishes x (ts ++ y)
walk_back [] x z y h v = let same : z ≡ x = cc in subst (λ w. Finishes w y) same v
walk_back (t ∷ ts) x z y h v =
    walk_back_by ts t x z y (λ w g. walk_back ts w z y g v) (step x (kind_of t)) refl h

-- ---- each state has tokens that finish it

after_any : (t : Follow) (g : Frame) (gs : List Frame) (y : Tokens) → Closes g.bracket gs y → After t (g ∷ gs) y
after_any follow.Postfix g gs y r = around (lift postfix refl (from_whole g gs y (finishing.ends r)))
after_any follow.Postscript g gs y r = around (from_whole g gs y (finishing.ends r))

closes_with : (c : Bracket) (fs : List Frame) (y : Tokens) → ((t : Follow) → After t fs y)
    → (z : Tokens) × Closes c fs z
closes_with b.Outermost fs y a = ([], at_end)
closes_with b.Group fs y a = (cut.sign s.RightParen ∷ y, group (a follow.Postfix))
closes_with b.Item fs y a = (cut.sign s.RightBracket ∷ y, an_item (a follow.Postfix))
closes_with (b.Sequence r t) fs y a =
    (cut.sign (closer (kind_of_row r)) ∷ y, parts {r = r} finishing.closes (a t))

closes_any : (fs : List Frame) (c : Bracket) → (z : Tokens) × Closes c fs z
closes_any [] c = closes_with c [] [] (λ t. nothing)
closes_any (g ∷ gs) c =
    let r = closes_any gs g.bracket in closes_with c (g ∷ gs) r.0 (λ t. after_any t g gs r.0 r.1)

follows_any : (fs : List Frame) → (y : Tokens) × ((t : Follow) → After t fs y)
follows_any [] = ([], λ t. nothing)
follows_any (g ∷ gs) = let r = closes_any gs g.bracket in (r.0, λ t. after_any t g gs r.0 r.1)

rest_any : (f : Frame) (fs : List Frame) → (y : Tokens) × Rest postscript f fs y
rest_any f fs = let r = closes_any fs f.bracket in (r.0, from_whole f fs r.0 (finishing.ends r.1))

operand_any : (f : Frame) (fs : List Frame) → (y : Tokens) × Operand signed postscript f fs y
operand_any f fs =
    let r = rest_any f fs in (
      cut.text [] ∷ r.0,
      primary_of (trees.constant (trees.text (encode_utf8_all []))) (cut.text [] ∷ []) r.0 a_text
          (lift postfix refl r.1),
    )

whole_any : (c : Bracket) (fs : List Frame) → (y : Tokens) × Split (Form whole) (Closes c fs) y
whole_any c fs =
    let r = operand_any (fresh c) fs in (r.0, whole_of (fresh c) fs r.0 refl (all_of_signs (fresh c) fs r.0 r.1))

held_nothing : (r : Row) → Held (kind_of_row r) (cut.sign (closer (kind_of_row r)) ∷ [])
held_nothing row.Items = (no_exprs, closed)
held_nothing row.Entries = (no_pairs, closed)
held_nothing row.Arguments = (no_parts, closed)
held_nothing row.Keywords = (no_parts, closed)

part_any : (c : Bracket) (fs : List Frame) → (y : Tokens) × FinishesPart c fs y
part_any (b.Sequence r t) fs =
    let a = follows_any fs in
    (cut.sign (closer (kind_of_row r)) ∷ a.0, shut_part r t fs a.0 (held_nothing r) (a.1 t))
part_any b.Outermost fs = ([], tt)
part_any b.Group fs = ([], tt)
part_any b.Item fs = ([], tt)

sign_whole_any : (j : Sign) (c : Bracket) (fs : List Frame) → (y : Tokens) × SignWhole j c fs y
sign_whole_any j c fs =
    let w = whole_any c fs in (cut.sign j ∷ w.0, record { behind = w.0; is = refl; split = w.1 })

key_any : (c : Bracket) (fs : List Frame) → (y : Tokens) × FinishesKey c fs y
key_any (b.Sequence r t) fs = sign_whole_any s.Assign (b.Sequence row.Keywords t) fs
key_any b.Outermost fs = ([], tt)
key_any b.Group fs = ([], tt)
key_any b.Item fs = ([], tt)

behind_any : (e : Ending) (f : Frame) (fs : List Frame) (y : Tokens) → Rest postscript f fs y
    → FinishesBehind e f fs y
behind_any ending.Keyword f fs y r = inl (lift postfix refl r)
behind_any ending.Postfix f fs y r = lift postfix refl r
behind_any ending.FilterName f fs y r = given f fs y r
behind_any ending.TestName f fs y r = test_given f fs y r
behind_any ending.Postscript f fs y r = r

any_end : (q : Place) (f : Frame) (fs : List Frame) → (y : Tokens) × FinishesAt q f fs y
any_end (p.Operand prefixes.All) f fs = let r = operand_any f fs in (r.0, all_of_signs f fs r.0 r.1)
any_end (p.Operand prefixes.Signs) f fs = operand_any f fs
any_end p.Part f fs = let r = part_any f.bracket fs in (r.0, λ l. r.1)
any_end p.Colon f fs = let r = sign_whole_any s.Colon f.bracket fs in (r.0, λ l. r.1)
any_end p.Assign f fs = key_any f.bracket fs
any_end p.Attribute f fs =
    let r = rest_any f fs in
    (cut.name (codes "x") ∷ r.0, word_then _ _ (codes "x") r.0 tt (lift postfix refl r.1))
any_end p.Filter f fs =
    let r = rest_any f fs in
    (cut.name (codes "x") ∷ r.0, word_then _ _ (codes "x") r.0 refl (given f fs r.0 r.1))
any_end p.Test f fs =
    let r = rest_any f fs in
    (cut.name (codes "x") ∷ r.0, inl (word_then _ _ (codes "x") r.0 refl (test_given f fs r.0 r.1)))
any_end p.NegatedTest f fs =
    let r = rest_any f fs in
    (cut.name (codes "x") ∷ r.0, word_then _ _ (codes "x") r.0 tt (test_given f fs r.0 r.1))
any_end p.In f fs =
    let r = operand_any (with_comparison f comparison_is.Taken) fs in
    (word (codes "in") ∷ r.0, right_of f fs r.0 r.1)
any_end (p.Behind e) f fs = let r = rest_any f fs in (r.0, behind_any e f fs r.0 r.1)

-- Tokens that lead to a state begin an expression.
pub reached : (ts : Tokens) (z : State) → walk ts (Some start) ≡ Some z → Begins ts
reached ts (at q f fs) h =
    let e = any_end q f fs in (e.0, finished (ts ++ e.0) (walk_back ts start (at q f fs) e.0 h e.1))

-- ---- complete expressions

ends_here : (e : Ending) (f : Frame) (fs : List Frame) (c : Bracket) → f.bracket ≡ c
    → completes (p.Behind e) c ≡ true → Closes f.bracket fs []
ends_here e f fs b.Outermost h l = subst (λ x. Closes x fs []) (sym h) at_end
ends_here e f fs b.Group h l = absurd (cc)
ends_here e f fs b.Item h l = absurd (cc)
ends_here e f fs (b.Sequence r t) h l = absurd (cc)

nothing_left : (q : Place) (f : Frame) (fs : List Frame) → completes q f.bracket ≡ true → FinishesAt q f fs []
nothing_left (p.Behind e) f fs h =
    behind_any e f fs [] (from_whole f fs [] (finishing.ends (ends_here e f fs f.bracket refl h)))
nothing_left _ f fs h = absurd (cc)

-- Tokens that lead to a complete state spell an expression.
pub complete : (ts : Tokens) (z : State) → walk ts (Some start) ≡ Some z → is_complete z ≡ true → Spelled ts
complete ts (at q f fs) h c =
    let e = finished (ts ++ []) (walk_back ts start (at q f fs) [] h (nothing_left q f fs c)) in
    (e.0, subst (λ x. Spells whole e.0 x) (append-nil ts) e.1)

covered_complete : (q : Place) → ends ending.Postscript q ≡ true → completes q b.Outermost ≡ true
covered_complete (p.Behind e) h = refl
covered_complete _ h = absurd (cc)

-- Tokens that lead to a state that is not complete spell none.
pub incomplete : (ts : Tokens) (z : State) → walk ts (Some start) ≡ Some z → is_complete z ≡ false → Spelled ts → ⊥
incomplete ts z h c d =
    let w = spelled_leads d.1 in
    let same : z ≡ at w.walks.place (frame b.Outermost w.clause w.taken) [] = cc (h, w.walks.walked) in
    let e : is_complete z ≡ true = ap is_complete same ∙ covered_complete w.walks.place w.walks.covered in
    cc

-- Tokens that lead to no state begin none.
pub rejected : (ts : Tokens) → walk ts (Some start) ≡ None → Begins ts → ⊥
rejected ts h v =
    let w = spelled_leads v.1.1 in
    let n : walk (ts ++ v.0) (Some start) ≡ None =
    walk_append ts v.0 (Some start) ∙ ap (walk v.0) h ∙ walk_none v.0 in
    let e = w.walks.walked in
    cc

-- Tokens that begin no expression spell none.
pub begins_by : (ts : Tokens) → Spelled ts → Begins ts
begins_by ts v = ([], (v.0, subst (λ x. Spells whole v.0 x) (sym (append-nil ts)) v.1))
