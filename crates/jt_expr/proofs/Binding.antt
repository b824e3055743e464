-- Outcomes in sequence.
use Rattle.std.proofs.Common.{◌≡◌, ℕ, ◌<◌, ◌≤◌, Bool, true, false, if◌then◌else◌, refl, ap, sym, subst, ◌∙◌, Ok, Err}
use Rattle.std.proofs.Common.{⊎_elim}
use Rattle.std.proofs.lemmas.Bool.{cases_lt}
use Rattle.jt_expr.specs.Grammar.{Tokens}
use Rattle.jt_expr.specs.internal.Reading.{ParseResult, Reader, ◌>>=◌, cap}
use Rattle.jt_expr.proofs.LevelCap.{cap_within, cap_beyond}

pub bind_same : {A B : Type 0} (o : ParseResult A) (f g : A → Reader B)
    → ((a : A) (v : Tokens) → o ≡ Ok (a, v) → f a v ≡ g a v) → (o >>= f) ≡ (o >>= g)
bind_same (Ok p) f g h = h p.0 p.1 refl
bind_same (Err x) f g h = refl

pub bind_identity : {A : Type 0} (o : ParseResult A) → (o >>= λ a v. Ok (a, v)) ≡ o
bind_identity (Ok p) = refl
bind_identity (Err x) = refl

pub assoc : {A B C : Type 0} (o : ParseResult A) (f : A → Reader B) (g : B → Reader C)
    → ((o >>= f) >>= g) ≡ (o >>= λ a v. f a v >>= g)
assoc (Ok p) f g = refl
assoc (Err x) f g = refl

pub through : {A B C : Type 0} (o : ParseResult A) (f : A → Reader B) (g : B → Reader C) (h : A → Reader C)
    → ((a : A) (v : Tokens) → o ≡ Ok (a, v) → (f a v >>= g) ≡ h a v) → ((o >>= f) >>= g) ≡ (o >>= h)
through (Ok p) f g h e = e p.0 p.1 refl
through (Err x) f g h e = refl

pub through_two : {A B C D : Type 0} (o : ParseResult A) (f : A → Reader B) (g : B → Reader C) (h : C → Reader D)
    (k : A → Reader D)
    → ((a : A) (v : Tokens) → o ≡ Ok (a, v) → ((f a v >>= g) >>= h) ≡ k a v)
    → (((o >>= f) >>= g) >>= h) ≡ (o >>= k)
through_two (Ok p) f g h k e = e p.0 p.1 refl
through_two (Err x) f g h k e = refl

pub both_through : {A B D C : Type 0} (o : ParseResult A) (f : A → Reader B) (g : B → Reader C) (h : A → Reader D)
    (k : D → Reader C)
    → ((a : A) (v : Tokens) → o ≡ Ok (a, v) → (f a v >>= g) ≡ (h a v >>= k))
    → ((o >>= f) >>= g) ≡ ((o >>= h) >>= k)
both_through (Ok p) f g h k e = e p.0 p.1 refl
both_through (Err x) f g h k e = refl

-- ---- tests

pub if_one : {B C : Type 0} (b : Bool) (x y : ParseResult C) (z w : ParseResult B) (g : B → Reader C)
    → (b ≡ true → x ≡ (z >>= g)) → (b ≡ false → y ≡ (w >>= g)) → (if b then x else y) ≡ ((if b then z else w) >>= g)
if_one true x y z w g s t = s refl
if_one false x y z w g s t = t refl

pub if_both : {A B C : Type 0} (b : Bool) (x y : ParseResult A) (f : A → Reader C) (z w : ParseResult B)
    (g : B → Reader C)
    → (b ≡ true → (x >>= f) ≡ (z >>= g)) → (b ≡ false → (y >>= f) ≡ (w >>= g))
    → ((if b then x else y) >>= f) ≡ ((if b then z else w) >>= g)
if_both true x y f z w g s t = s refl
if_both false x y f z w g s t = t refl

pub if_two : {A B C D : Type 0} (b : Bool) (x y : ParseResult A) (f : A → Reader B) (h : B → Reader C)
    (z w : ParseResult D) (g : D → Reader C)
    → (b ≡ true → ((x >>= f) >>= h) ≡ (z >>= g)) → (b ≡ false → ((y >>= f) >>= h) ≡ (w >>= g))
    → (((if b then x else y) >>= f) >>= h) ≡ ((if b then z else w) >>= g)
if_two true x y f h z w g s t = s refl
if_two false x y f h z w g s t = t refl

-- ---- limits on levels

pub cap_none : {B C : Type 0} (l n : ℕ) (b : B) (ts : Tokens) (g : B → Reader C) → l ≤ n → (cap l n b ts >>= g) ≡ g b ts
cap_none l n b ts g le = ap (λ o. o >>= g) (cap_within l n b ts le)

pub cap_both : {A B C : Type 0} (l n : ℕ) (a : A) (b : B) (ts : Tokens) (f : A → Reader C) (g : B → Reader C)
    → (l ≤ n → f a ts ≡ g b ts) → (cap l n a ts >>= f) ≡ (cap l n b ts >>= g)
cap_both l n a b ts f g h =
    ⊎_elim
    (λ (gt : n < l). ap (λ o. o >>= f) (cap_beyond l n a ts gt) ∙ sym (ap (λ o. o >>= g) (cap_beyond l n b ts gt)))
    (λ (le : l ≤ n). cap_none l n a ts f le ∙ h le ∙ sym (cap_none l n b ts g le))
    (cases_lt n l)

pub cap_one : {B C : Type 0} (l n : ℕ) (c : C) (b : B) (ts : Tokens) (g : B → Reader C) → (l ≤ n → Ok (c, ts) ≡ g b ts)
    → cap l n c ts ≡ (cap l n b ts >>= g)
cap_one l n c b ts g h =
    ⊎_elim
    (λ (gt : n < l). cap_beyond l n c ts gt ∙ sym (ap (λ o. o >>= g) (cap_beyond l n b ts gt)))
    (λ (le : l ≤ n). cap_within l n c ts le ∙ h le ∙ sym (cap_none l n b ts g le))
    (cases_lt n l)

-- ---- facts of results

-- The fact holds for the result, if there is one.
abbrev pub All : {A : Type 0} → (A → Tokens → Type 0) → ParseResult A → Type 0
All P (Ok p) = P p.0 p.1
All P (Err x) = Unit {0}

pub all_ok : {A : Type 0} (P : A → Tokens → Type 0) (o : ParseResult A) (a : A) (v : Tokens) → All P o → o ≡ Ok (a, v)
    → P a v
all_ok P o a v h e = subst (All P) e h

pub all_if : {A : Type 0} (P : A → Tokens → Type 0) (b : Bool) (x y : ParseResult A) → (b ≡ true → All P x)
    → (b ≡ false → All P y) → All P (if b then x else y)
all_if P true x y s t = s refl
all_if P false x y s t = t refl

pub all_bind : {A B : Type 0} (P : B → Tokens → Type 0) (o : ParseResult A) (f : A → Reader B)
    → ((a : A) (v : Tokens) → o ≡ Ok (a, v) → All P (f a v)) → All P (o >>= f)
all_bind P (Ok p) f h = h p.0 p.1 refl
all_bind P (Err x) f h = tt

pub all_cap : {A : Type 0} (P : A → Tokens → Type 0) (l n : ℕ) (a : A) (ts : Tokens) → (l ≤ n → P a ts)
    → All P (cap l n a ts)
all_cap P l n a ts h =
    ⊎_elim
    (λ (gt : n < l). subst (All P) (sym (cap_beyond l n a ts gt)) tt)
    (λ (le : l ≤ n). subst (All P) (sym (cap_within l n a ts le)) (h le))
    (cases_lt n l)
