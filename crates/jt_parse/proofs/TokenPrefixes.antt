-- Prefixes of tokens, and refusals of a part that are refusals of the whole.
use Rattle.std.proofs.Common.{◌≡◌, ℕ, ◌<◌, ◌≤◌, Bool, true, false, [], ◌∷◌, length, encode_utf8_all, refl, sym, ap}
use Rattle.std.proofs.Common.{subst, ◌∙◌, arith, Ok, Err, String, Global, string_bytes, Result}
use Rattle.std.proofs.lemmas.Slice.Eq.{bytes_eq-Decides}
use Rattle.jt_scan.specs.declared.segment.Sign.{Sign}
use Rattle.jt_scan.specs.Cut as cut
use Rattle.jt_scan.specs.Cut.{Token}
use Rattle.jt_expr.specs.declared.error.ExprError.{ExprError}
use Rattle.jt_expr.specs.declared.error.ExprError.TheVariants as e
use Rattle.jt_expr.specs.Grammar.{Tokens, word, is_reserved}
use Rattle.jt_expr.specs.Front.{sees, says, past}
use Rattle.jt_expr.specs.Promises.{Leads, Reads}
use Rattle.jt_expr.specs.Cursor.{TakesSign}
use Rattle.jt_ast.specs.Expressions.{Text}
use Rattle.jt_parse.specs.Tags.{IsName, a_name}
use Rattle.jt_parse.specs.internal.Readers.{TakesWord, Anything, ReadsFlat}
use Rattle.jt_expr.proofs.FirstTokenTests.{says_sound, sees_sound, sees_self}

-- ---- tests of the first token

pub true_is_false : {G : Type 0} → true ≡ false → G
true_is_false e = absurd (cc)

module _ (k : Sign) (ts new : Tokens) (b : Bool) (found : b ≡ sees k ts) (rest : new ≡ past (sees k ts) ts) where
  pub sign_taken : b ≡ true → ts ≡ cut.sign k ∷ new
  sign_taken h =
      let s : sees k ts ≡ true = sym found ∙ h in
      sees_sound k ts s ∙ ap (λ w. cut.sign k ∷ w) (sym (rest ∙ ap (λ c. past c ts) s))

  pub sign_left : b ≡ false → new ≡ ts
  sign_left h = rest ∙ ap (λ c. past c ts) (sym found ∙ h)

  pub no_sign : b ≡ false → (w : Tokens) → ts ≡ cut.sign k ∷ w → ⊥
  no_sign h w e = true_is_false (sym (sees_self k w) ∙ sym (ap (sees k) e) ∙ sym found ∙ h)

module _ (x : Text) (ts new : Tokens) (b : Bool) (found : b ≡ says x ts) (rest : new ≡ past (says x ts) ts) where
  pub word_taken : b ≡ true → ts ≡ word x ∷ new
  word_taken h =
      let s : says x ts ≡ true = sym found ∙ h in
      says_sound x ts s ∙ ap (λ w. word x ∷ w) (sym (rest ∙ ap (λ c. past c ts) s))

  pub word_left : b ≡ false → new ≡ ts
  word_left h = rest ∙ ap (λ c. past c ts) (sym found ∙ h)

  pub no_word : b ≡ false → (w : Tokens) → ts ≡ word x ∷ w → ⊥
  no_word h w e = true_is_false (sym ((bytes_eq-Decides x x).1 refl) ∙ sym (ap (says x) e) ∙ sym found ∙ h)

-- ---- equations of tokens

pub tokens_tail : (t r : Token) (u v : Tokens) → ◌≡◌ {A = Tokens} (t ∷ u) (r ∷ v) → (t ≡ r) × (u ≡ v)
tokens_tail t r u v e = (cc, cc)

pub behind : (t : Token) (ts u v : Tokens) → ts ≡ t ∷ u → ts ≡ t ∷ v → u ≡ v
behind t ts u v e f = (tokens_tail t t u v (sym e ∙ f)).1

pub same_name : (x y : Text) → ◌≡◌ {A = Token} (cut.name x) (cut.name y) → x ≡ y
same_name x y e = cc

pub same_text : (x y : Text) → ◌≡◌ {A = Token} (cut.text x) (cut.text y) → x ≡ y
same_text x y e = cc

pub no_tokens : {G : Type 0} (t : Token) (u : Tokens) → ◌≡◌ {A = Tokens} [] (t ∷ u) → G
no_tokens t u e = absurd (cc)

pub no_length : (ts : Tokens) → length ts ≡ 0 → ts ≡ []
no_length [] e = refl
no_length (t ∷ ts) e = absurd (omega (arith, e))

-- ---- refusals

-- A refusal of a part is one of the whole, if each form of the whole has that part at this
-- position.
module _ {P R A C : Type 0} (show : P → A) (view : R → C) (One : A → Tokens → Type 0) (NestedForm : C → Tokens → Type 0)
    (EndsOne Ends : Tokens → Type 0) (level : A → ℕ) (height : C → ℕ) (m limit : ℕ) (ts u : Tokens) where
  pub part_refused : ((c : C) (v : Tokens) → Leads NestedForm c ts v → Ends v
      → (a : A) × (w : Tokens) × Leads One a u w × EndsOne w × (m < level a → limit < height c))
      → (x : ExprError) (r w : Tokens) → Reads show One EndsOne level m u (Err x) r
      → Reads view NestedForm Ends height limit ts (Err x) w
  part_refused f e.Syntax r w g = λ c v l end. let q = f c v l end in g q.0 q.1 q.2 q.3
  part_refused f e.TooDeep r w g = λ c v l end. let q = f c v l end in q.4 (g q.0 q.1 q.2 q.3)
  part_refused f e.NoMemory r w g = tt

-- A refusal of a sign or word is one of the whole, if each form of the whole has it at this
-- position.
module _ {R C : Type 0} (view : R → C) (NestedForm : C → Tokens → Type 0) (Ends : Tokens → Type 0) (height : C → ℕ)
    (limit : ℕ) (ts u : Tokens) where
  pub sign_refused : (k : Sign)
      → ((c : C) (v : Tokens) → Leads NestedForm c ts v → Ends v → (w : Tokens) × (u ≡ cut.sign k ∷ w))
      → (x : ExprError) (r w : Tokens) → TakesSign k u (Err x) r → Reads view NestedForm Ends height limit ts (Err x) w
  sign_refused k f e.Syntax r w g = λ c v l end. let q = f c v l end in g q.0 q.1
  sign_refused k f e.TooDeep r w g = absurd g
  sign_refused k f e.NoMemory r w g = tt

  pub word_refused : (x : Text)
      → ((c : C) (v : Tokens) → Leads NestedForm c ts v → Ends v → (w : Tokens) × (u ≡ word x ∷ w))
      → (f : ExprError) (r w : Tokens) → TakesWord x u (Err f) r → Reads view NestedForm Ends height limit ts (Err f) w
  word_refused x f e.Syntax r w g = λ c v l end. let q = f c v l end in g q.0 q.1
  word_refused x f e.TooDeep r w g = absurd g
  word_refused x f e.NoMemory r w g = tt

-- ---- names

abbrev pub NameRead : Tokens → Result (String Global) ExprError → Tokens → Type 0
NameRead = ReadsFlat string_bytes IsName Anything

pub leads_name : (a : Text) (ts v : Tokens) → Leads IsName a ts v
    → (x : Text) × (ts ≡ cut.name x ∷ v) × (is_reserved x ≡ false) × (a ≡ encode_utf8_all x)
leads_name a ts v (y, e, a_name {x} h) = (x, e, h, refl)

pub name_leads : (x : Text) (ts v : Tokens) → ts ≡ cut.name x ∷ v → is_reserved x ≡ false
    → Leads IsName (encode_utf8_all x) ts v
name_leads x ts v e h = (cut.name x ∷ [], e, a_name h)

pub name_read : (n : String Global) (x : Text) (ts u : Tokens) → ts ≡ cut.name x ∷ u → is_reserved x ≡ false
    → string_bytes n ≡ encode_utf8_all x → NameRead ts (Ok n) u
name_read n x ts u e h is = (
  subst (λ z. Leads IsName z ts u) (sym is) (name_leads x ts u e h),
  omega arith,
  λ b v l any.
      let p = leads_name b ts v l in
      let same = tokens_tail (cut.name p.0) (cut.name x) v u (sym p.1 ∙ e) in
      (p.3 ∙ ap encode_utf8_all (same_name p.0 x same.0) ∙ sym is, same.1),
)

-- The rest after a name that is read.
pub behind_name : (n : String Global) (ts u : Tokens) → NameRead ts (Ok n) u → (x : Text) (v : Tokens)
    → ts ≡ cut.name x ∷ v → is_reserved x ≡ false
    → (encode_utf8_all x ≡ string_bytes n) × (v ≡ u)
behind_name n ts u g x v e h = g.2 (encode_utf8_all x) v (name_leads x ts v e h) tt

-- ---- the last part

-- The contract of the whole, given the result of its last part.
abbrev pub Whole : {Q R B C : Type 0} → (Q → B) → (R → C) → (B → C) → (C → Tokens → Type 0) → (Tokens → Type 0)
    → (C → ℕ) → ℕ → Tokens → Result Q ExprError → Tokens → Type 0
Whole {R = R} show view made NestedForm Ends height limit ts (Ok q) rest =
    (r : R) → view r ≡ made (show q) → Reads view NestedForm Ends height limit ts (Ok r) rest
Whole show view made NestedForm Ends height limit ts (Err x) rest =
    (w : Tokens) → Reads view NestedForm Ends height limit ts (Err x) w

-- Each form of the whole ends with that part and is determined by it.
module _ {Q R B C : Type 0} (show : Q → B) (view : R → C) (Last : B → Tokens → Type 0)
    (NestedForm : C → Tokens → Type 0) (EndsLast Ends : Tokens → Type 0) (level : B → ℕ) (height : C → ℕ) (m limit : ℕ)
    (ts u : Tokens) (made : B → C)
    (into : (c : C) (v : Tokens) → Leads NestedForm c ts v → Ends v → (b : B) × Leads Last b u v × (c ≡ made b))
    (out : (b : B) (v : Tokens) → Leads Last b u v → Leads NestedForm (made b) ts v)
    (ends : (v : Tokens) → Ends v → EndsLast v) (fits : (b : B) → level b ≤ m → height (made b) ≤ limit)
    (over : (b : B) → m < level b → limit < height (made b)) where
  pub last_part : (q : Result Q ExprError) (w : Tokens) → Reads show Last EndsLast level m u q w
      → Whole show view made NestedForm Ends height limit ts q w
  last_part (Ok q) w g = λ r is. (
    subst (λ z. Leads NestedForm z ts w) (sym is) (out (show q) w g.0),
    subst (λ z. height z ≤ limit) (sym is) (fits (show q) g.1),
    λ c v l end.
        let p = into c v l end in
        let only = g.2 p.0 v p.1 (ends v end) in
        (p.2 ∙ ap made only.0 ∙ sym is, only.1),
  )
  last_part (Err x) w g = λ z.
      part_refused show view Last NestedForm EndsLast Ends level height m limit ts u
      (λ c v l end. let p = into c v l end in
      (p.0, v, p.1, ends v end, λ less. subst (λ y. limit < height y) (sym p.2) (over p.0 less))) x w z g
