-- The contract of parts with a sign between them, from the contract of one part, and one iteration
-- of the loop over them.
use Rattle.std.proofs.Common.{◌≡◌, ℕ, ◌+◌, ◌<◌, ◌≤◌, max, List, [], ◌∷◌, ◌++◌, length, map, codes, refl, sym, ap, subst}
use Rattle.std.proofs.Common.{◌∙◌, append_assoc, length-append, arith, Result, Ok, Err}
use Rattle.std.proofs.lemmas.List.{map-append}
use Rattle.jt_scan.specs.declared.segment.Sign.{Sign}
use Rattle.jt_scan.specs.declared.segment.Sign.TheVariants as s
use Rattle.jt_scan.specs.Cut as cut
use Rattle.jt_expr.specs.declared.error.ExprError.{ExprError}
use Rattle.jt_expr.specs.declared.error.ExprError.TheVariants as e
use Rattle.jt_scan.specs.Cut.{Token}
use Rattle.jt_ast.specs.Expressions.{Expr, Text}
use Rattle.jt_expr.specs.Grammar.{Tokens, word, whole}
use Rattle.jt_expr.specs.Promises.{Leads, Reads, EndsAt, the_end, a_comma, OpensNone}
use Rattle.jt_ast.specs.Statements.{FilterCall, Parameter}
use Rattle.jt_parse.specs.Tags.{Separated, only, also, IsName, a_name, IsValue, a_value, IsFilterCall, a_filter}
use Rattle.jt_parse.specs.Tags.{IsParameter, plain, with_default, IsImported, itself, renamed}
use Rattle.jt_parse.proofs.TokenPrefixes.{no_tokens}
use Rattle.jt_parse.specs.internal.Readers.{Anything, NoToken, NoSign, NoWord, NoParameter, NoImported, most, ReadsFlat}

most_then : {A : Type 0} (lev : A → ℕ) (xs bs : List A) → most lev (xs ++ bs) ≡ max (most lev xs) (most lev bs)
most_then lev [] bs = omega arith
most_then lev (a ∷ xs) bs = omega (arith, most_then lev xs bs)

-- Parts, each with a sign after it.
pub data Begun {A : Type 0} (One : A → Tokens → Type 0) (k : Sign) : List A → Tokens → Type 0 where
  none : Begun One k [] []
  one_more : {a : A} {xs : List A} {x y : Tokens} → One a x → Begun One k xs y
      → Begun One k (a ∷ xs) (x ++ (cut.sign k ∷ y))

module _ {A : Type 0} (One : A → Tokens → Type 0) (k : Sign) where
  -- A part with a sign is appended.
  begun_more : {xs : List A} {p : Tokens} → Begun One k xs p → (a : A) (x : Tokens) → One a x
      → Begun One k (xs ++ (a ∷ [])) (p ++ (x ++ (cut.sign k ∷ [])))
  begun_more none a x d = one_more d none
  begun_more (one_more {a = b} {xs} {x = z} {y} f g) a x d =
      subst (Begun One k (b ∷ (xs ++ (a ∷ [])))) (sym (append_assoc z (cut.sign k ∷ y) (x ++ (cut.sign k ∷ []))))
      (one_more f (begun_more g a x d))

  -- The last part is appended.
  begun_last : {xs : List A} {p : Tokens} → Begun One k xs p → (a : A) (x : Tokens) → One a x
      → Separated One k (xs ++ (a ∷ [])) (p ++ x)
  begun_last none a x d = only d
  begun_last (one_more {a = b} {xs} {x = z} {y} f g) a x d =
      subst (Separated One k (b ∷ (xs ++ (a ∷ [])))) (sym (append_assoc z (cut.sign k ∷ y) x))
      (also f (begun_last g a x d))

-- The list begins with its only part, or with a part and a sign.
data Heads {A : Type 0} (One : A → Tokens → Type 0) (k : Sign) (cs : List A) (ts v : Tokens) : Type 0 where
  alone : (a : A) → cs ≡ a ∷ [] → Leads One a ts v → Heads One k cs ts v
  several : (a : A) (rest : List A) (w : Tokens) → cs ≡ a ∷ rest → Leads One a ts (cut.sign k ∷ w)
      → Leads (Separated One k) rest w v → Heads One k cs ts v

split : {A : Type 0} {One : A → Tokens → Type 0} {k : Sign} {cs : List A} {x : Tokens} (ts v : Tokens) → ts ≡ x ++ v
    → Separated One k cs x → Heads One k cs ts v
split ts v is (only {a} {x} d) = alone a refl (x, is, d)
split {k = k} ts v is (also {a} {bs} {x} {y} d g) =
    several a bs (y ++ v) refl (x, is ∙ append_assoc x (cut.sign k ∷ y) v, d) (y, refl, g)

-- The ends of a part and of a list. A sign ends a part, but not a list. A part has at least one
-- token.
pub record IsRow {A : Type 0} (One : A → Tokens → Type 0) (k : Sign) (EndsOne Ends : Tokens → Type 0) : Type 0 where
  pub one_ends : (v : Tokens) → Ends v → EndsOne v
  pub sign_ends : (v : Tokens) → EndsOne (cut.sign k ∷ v)
  pub no_sign : (v w : Tokens) → Ends v → v ≡ cut.sign k ∷ w → ⊥
  pub some : (a : A) (x : Tokens) → One a x → 0 < length x

module _ {P A R : Type 0} (show : P → A) (view : R → List A) (One : A → Tokens → Type 0) (k : Sign)
    (EndsOne Ends : Tokens → Type 0) (row : IsRow One k EndsOne Ends) (lev : A → ℕ) (limit : ℕ) (all : Tokens) where
  -- The parts that were collected, and the remaining tokens ts. Each list at the start of all
  -- tokens begins with these parts.
  abbrev pub Found : List A → Tokens → Type 0
  Found found ts =
      (front : Tokens) × Begun One k found front × (all ≡ front ++ ts) × (most lev found ≤ limit)
      × ((bs : List A) (v : Tokens) → Leads (Separated One k) bs all v → Ends v
      → (cs : List A) × Leads (Separated One k) cs ts v × (bs ≡ found ++ cs))

  pub starts : Found [] all
  starts = ([], none, refl, omega arith, λ bs v l h. (bs, l, refl))

  over : (found bs cs rest : List A) (a : A) → bs ≡ found ++ cs → cs ≡ a ∷ rest → lev a ≤ most lev bs
  over found bs cs rest a e f =
      subst (λ z. lev a ≤ most lev z) (sym (e ∙ ap (λ z. found ++ z) f)) (omega (arith, most_then lev found (a ∷ rest)))

  pub one_refused : (found : List A) (ts u w : Tokens) → Found found ts → (x : ExprError)
      → Reads show One EndsOne lev limit ts (Err x) u → Reads view (Separated One k) Ends (most lev) limit all (Err x) w
  one_refused found ts u w f e.Syntax g = λ bs v l h. let q = f.4 bs v l h in by q.0 v h (split ts v q.1.1 q.1.2)
    where
      by : (cs : List A) (v : Tokens) → Ends v → Heads One k cs ts v → ⊥
      by cs v h (alone a e l) = g a v l (row.one_ends v h)
      by cs v h (several a rest z e l m) = g a (cut.sign k ∷ z) l (row.sign_ends z)
  one_refused found ts u w f e.TooDeep g =
      λ bs v l h. let q = f.4 bs v l h in by bs q.0 v h q.2 (split ts v q.1.1 q.1.2)
    where
      by : (bs cs : List A) (v : Tokens) → Ends v → bs ≡ found ++ cs → Heads One k cs ts v → limit < most lev bs
      by bs cs v h is (alone a e l) =
          let p = g a v l (row.one_ends v h) in let q = over found bs cs [] a is e in omega (arith, p, q)
      by bs cs v h is (several a rest z e l m) =
          let p = g a (cut.sign k ∷ z) l (row.sign_ends z) in
          let q = over found bs cs rest a is e in omega (arith, p, q)
  one_refused found ts u w f e.NoMemory g = tt

  tail_is : (w z : Tokens) → ◌≡◌ {A = Tokens} (cut.sign k ∷ w) (cut.sign k ∷ z) → w ≡ z
  tail_is w z e = cc

  module _ (found : List A) (ts u : Tokens) (f : Found found ts) (p : P)
      (g : Reads show One EndsOne lev limit ts (Ok p) u) where
    levels_fit : most lev (found ++ (show p ∷ [])) ≤ limit
    levels_fit = omega (arith, most_then lev found (show p ∷ []), f.3, g.1)

    -- A part with a sign after it.
    pub went_on : (next : Tokens) → u ≡ cut.sign k ∷ next → Found (found ++ (show p ∷ [])) next
    went_on next is = (
      f.0 ++ (g.0.0 ++ (cut.sign k ∷ [])),
      begun_more One k f.1 (show p) g.0.0 g.0.2,
      f.2 ∙ ap (λ z. f.0 ++ z) (g.0.1 ∙ ap (λ z. g.0.0 ++ z) is ∙ sym (append_assoc g.0.0 (cut.sign k ∷ []) next))
          ∙ sym (append_assoc f.0 (g.0.0 ++ (cut.sign k ∷ [])) next),
      levels_fit,
      λ bs v l h. let q = f.4 bs v l h in by bs q.0 v h q.2 (split ts v q.1.1 q.1.2),
    )
      where
        by : (bs cs : List A) (v : Tokens) → Ends v → bs ≡ found ++ cs → Heads One k cs ts v
            → (ds : List A) × Leads (Separated One k) ds next v × (bs ≡ (found ++ (show p ∷ [])) ++ ds)
        by bs cs v h e (alone a c l) = absurd (row.no_sign v next h ((g.2 a v l (row.one_ends v h)).1 ∙ is))
        by bs cs v h e (several a rest z c l m) =
            let same = g.2 a (cut.sign k ∷ z) l (row.sign_ends z) in (
              rest,
              subst (λ y. Leads (Separated One k) rest y v) (tail_is z next (same.1 ∙ is)) m,
              e ∙ ap (λ y. found ++ y) (c ∙ ap (λ b. b ∷ rest) same.0) ∙ sym (append_assoc found (show p ∷ []) rest),
            )

    -- A part without a sign after it.
    pub finished : (r : R) → view r ≡ found ++ (show p ∷ []) → ((w : Tokens) → u ≡ cut.sign k ∷ w → ⊥)
        → Reads view (Separated One k) Ends (most lev) limit all (Ok r) u
    finished r is stops = (
      (
        f.0 ++ g.0.0,
        f.2 ∙ ap (λ z. f.0 ++ z) g.0.1 ∙ sym (append_assoc f.0 g.0.0 u),
        subst (λ z. Separated One k z (f.0 ++ g.0.0)) (sym is) (begun_last One k f.1 (show p) g.0.0 g.0.2),
      ),
      subst (λ z. most lev z ≤ limit) (sym is) levels_fit,
      λ bs v l h. let q = f.4 bs v l h in by bs q.0 v h q.2 (split ts v q.1.1 q.1.2),
    )
      where
        by : (bs cs : List A) (v : Tokens) → Ends v → bs ≡ found ++ cs → Heads One k cs ts v → (bs ≡ view r) × (v ≡ u)
        by bs cs v h e (alone a c l) =
            let same = g.2 a v l (row.one_ends v h) in
            (e ∙ ap (λ y. found ++ y) (c ∙ ap (λ b. b ∷ []) same.0) ∙ sym is, same.1)
        by bs cs v h e (several a rest z c l m) = absurd (stops z (sym (g.2 a (cut.sign k ∷ z) l (row.sign_ends z)).1))

  -- No token remains.
  pub none_left : (found : List A) (ts w : Tokens) → Found found ts → length ts ≡ 0
      → Reads view (Separated One k) Ends (most lev) limit all (Err e.Syntax) w
  none_left found ts w f h = λ bs v l end. let q = f.4 bs v l end in by q.0 v (split ts v q.1.1 q.1.2)
    where
      by : (cs : List A) (v : Tokens) → Heads One k cs ts v → ⊥
      by cs v (alone a c (x, e, d)) =
          let p = row.some a x d in
          let q : length ts ≡ length (x ++ v) = ap length e in absurd (omega (arith, p, q, h, length-append x v))
      by cs v (several a rest z c (x, e, d) m) =
          let p = row.some a x d in
          let q : length ts ≡ length (x ++ (cut.sign k ∷ z)) = ap length e in
          absurd (omega (arith, p, q, h, length-append x (cut.sign k ∷ z)))

  -- ---- the loop: each iteration takes at least one token

  abbrev pub Turn : ℕ → ℕ → List A → Tokens → Type 0
  Turn at end found ts = Found found ts × (length ts + at ≤ end)

  pub first_turn : (end : ℕ) (found : List A) → end ≡ length all → found ≡ [] → Turn 0 end found all
  first_turn end found e f = (subst (λ z. Found z all) (sym f) starts, omega (arith, e))

  pub turn_refused : (at end : ℕ) (found : List A) (ts u w : Tokens) → Turn at end found ts → (x : ExprError)
      → Reads show One EndsOne lev limit ts (Err x) u → Reads view (Separated One k) Ends (most lev) limit all (Err x) w
  turn_refused at end found ts u w f x g = one_refused found ts u w f.0 x g

  pub next_turn : (at end : ℕ) (found : List A) (ts u : Tokens) → Turn at end found ts → (p : P)
      → Reads show One EndsOne lev limit ts (Ok p) u
      → (next : Tokens) → u ≡ cut.sign k ∷ next → (new : List A) → new ≡ found ++ (show p ∷ [])
      → Turn (at + 1) end new next
  next_turn at end found ts u f p g next is new e =
      let shorter : length ts ≡ length (g.0.0 ++ u) = ap length g.0.1 in
      let one : length u ≡ length (cut.sign k ∷ next) = ap length is in (
        subst (λ z. Found z next) (sym e) (went_on found ts u f.0 p g next is),
        omega (arith, f.1, shorter, one, length-append g.0.0 u),
      )

  pub last_turn : (at end : ℕ) (found : List A) (ts u : Tokens) → Turn at end found ts → (p : P)
      → Reads show One EndsOne lev limit ts (Ok p) u
      → (r : R) → view r ≡ found ++ (show p ∷ []) → ((w : Tokens) → u ≡ cut.sign k ∷ w → ⊥)
      → Reads view (Separated One k) Ends (most lev) limit all (Ok r) u
  last_turn at end found ts u f p g r is stops = finished found ts u f.0 p g r is stops

  pub no_turn : (at end : ℕ) (found : List A) (ts w : Tokens) → Turn at end found ts → end ≤ at
      → Reads view (Separated One k) Ends (most lev) limit all (Err e.Syntax) w
  no_turn at end found ts w f over = none_left found ts w f.0 (omega (arith, f.1, over))

-- The parts of a form without expressions have no levels.
most_none : {A : Type 0} (bs : List A) → most (λ a. 0) bs ≡ 0
most_none [] = refl
most_none (a ∷ bs) = omega (arith, most_none bs)

pub flat : {A R : Type 0} (view : R → List A) (NestedForm : List A → Tokens → Type 0) (Ends : Tokens → Type 0)
    (ts : Tokens) (r : Result R ExprError) (w : Tokens)
    → Reads view NestedForm Ends (most (λ a. 0)) 0 ts r w → ReadsFlat view NestedForm Ends ts r w
flat view NestedForm Ends ts (Ok a) w g = (g.0, omega arith, g.2)
flat view NestedForm Ends ts (Err e.Syntax) w g = g
flat view NestedForm Ends ts (Err e.TooDeep) w g = λ b v l end. let p = g b v l end in omega (arith, p, most_none b)
flat view NestedForm Ends ts (Err e.NoMemory) w g = tt

pub pushed : {A B : Type 0} (f : A → B) (xs ys : List A) (a : A) → ys ≡ xs ++ (a ∷ [])
    → map f ys ≡ map f xs ++ (f a ∷ [])
pushed f xs ys a e = ap (map f) e ∙ map-append f xs (a ∷ [])

-- ---- the lists of tags

pub name_row : IsRow IsName s.Comma Anything (NoSign s.Comma)
name_row = record { one_ends = λ v h. tt; sign_ends = λ v. tt; no_sign = λ v w h e. h w e; some = some_name }
  where
    some_name : (a : Text) (x : Tokens) → IsName a x → 0 < length x
    some_name a x (a_name h) = omega arith

pub value_row : IsRow IsValue s.Comma (EndsAt whole) NoToken
value_row = record {
  one_ends = λ v h. subst (EndsAt whole) (sym h) the_end;
  sign_ends = λ v. a_comma;
  no_sign = λ v w h e. no_tokens (cut.sign s.Comma) w (sym h ∙ e);
  some = some_value;
}
  where
    some_value : (a : Text × Expr) (x : Tokens) → IsValue a x → 0 < length x
    some_value a x (a_value h d) = omega arith

pub filter_call_row : IsRow IsFilterCall s.Pipe OpensNone NoToken
filter_call_row = record {
  one_ends = λ v h w e. no_tokens (cut.sign s.LeftParen) w (sym h ∙ e);
  sign_ends = λ v w e. other_sign v w e;
  no_sign = λ v w h e. no_tokens (cut.sign s.Pipe) w (sym h ∙ e);
  some = some_filter_call;
}
  where
    some_filter_call : (a : FilterCall) (x : Tokens) → IsFilterCall a x → 0 < length x
    some_filter_call a x (a_filter h d) = omega arith

    other_sign : (v w : Tokens) → ◌≡◌ {A = Tokens} (cut.sign s.Pipe ∷ v) (cut.sign s.LeftParen ∷ w) → ⊥
    other_sign v w e = cc

pub parameter_row : IsRow IsParameter s.Comma (NoSign s.Assign) NoParameter
parameter_row = record {
  one_ends = λ v h. h.0;
  sign_ends = λ v w e. other_sign v w e;
  no_sign = λ v w h e. h.1 w e;
  some = some_parameter;
}
  where
    some_parameter : (a : Parameter) (x : Tokens) → IsParameter a x → 0 < length x
    some_parameter a x (plain h) = omega arith
    some_parameter a x (with_default h l) = omega arith

    other_sign : (v w : Tokens) → ◌≡◌ {A = Tokens} (cut.sign s.Comma ∷ v) (cut.sign s.Assign ∷ w) → ⊥
    other_sign v w e = cc

pub imported_row : IsRow IsImported s.Comma (NoWord (codes "as")) NoImported
imported_row = record {
  one_ends = λ v h. h.0;
  sign_ends = λ v w e. other v w e;
  no_sign = λ v w h e. h.1 w e;
  some = some_imported;
}
  where
    some_imported : (a : Text × Text) (x : Tokens) → IsImported a x → 0 < length x
    some_imported a x (itself h) = omega arith
    some_imported a x (renamed h i) = omega arith

    other : (v w : Tokens) → ◌≡◌ {A = Tokens} (cut.sign s.Comma ∷ v) (word (codes "as") ∷ w) → ⊥
    other v w e = cc
