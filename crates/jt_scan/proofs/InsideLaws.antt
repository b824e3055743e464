-- The scanner finds the tokens of a tag's inside, and no others.
use Rattle.std.proofs.Common.{◌≡◌, ℕ, zero, suc, ◌<◌, ◌==◌, ◌&&◌, if◌then◌else◌, Bool, true, false, List, [], ◌∷◌, ◌++◌}
use Rattle.std.proofs.Common.{length, refl, sym, ap, subst, ◌∙◌, arith, Option, Some, None, Ok, Err, length-append}
use Rattle.std.proofs.lemmas.Bool.Decides.{nat_tests}
use Rattle.jt_scan.specs.declared.error.ScanError.{ScanError}
use Rattle.jt_scan.specs.declared.segment.TagKind.{TagKind}
use Rattle.jt_scan.specs.declared.segment.Mark.{Mark}
use Rattle.jt_scan.specs.Cut.{Text, Token, may_close, closing_text, closer_at, is_found, closes, braces, is_space}
use Rattle.jt_scan.specs.Cut.{Spelled, Inside, closed, space, token}
use Rattle.jt_scan.specs.Refused.{IsBroken, no_closer as has_no_closer, behind_space, behind_token}
use Rattle.jt_scan.specs.internal.Scanning.{ParseResult, ◌>>=◌, Tokens, inside, with_token, token_at, NextItem, closing}
use Rattle.jt_scan.specs.internal.Scanning.{spells, front_by, front_at, then_inside}
use Rattle.jt_scan.proofs.ParseResultSteps.{by_test, ok_parts, bind_ok}
use Rattle.jt_scan.proofs.TokenLaws.{spelled_head, token_found, token_says, token_refuses}
use Rattle.jt_scan.proofs.Tables.{closing_head, closer_found, IsCloser, closer_says}

-- ---- the next item

front_closes : (k : TagKind) (line : ℕ) (mark : Mark) (rest : Text) → may_close k mark ≡ true
    → front_at k line 0 (closing_text k mark rest) ≡ Ok (closing mark, rest)
unfolding front_at
front_closes k line mark rest h = rw (closer_found k mark rest h) refl

not_closed : (k : TagKind) (line depth : ℕ) (x : Text) → closes k depth x ≡ false
    → front_at k line depth x ≡ (token_at line x >>= λ t u. Ok (spells t, u))
unfolding front_at
not_closed k line depth x h = by (depth == 0) (closer_at k x) h
  where
    by : (b : Bool) (o : Option (Mark × Text)) → (b && is_found o) ≡ false
        → front_by line (if b then o else None) x ≡ (token_at line x >>= λ t u. Ok (spells t, u))
    by true None e = refl
    by true (Some p) e = cc
    by false o e = refl

front_spells : (k : TagKind) (line depth : ℕ) {t : Token} {s x : Text} → closes k depth (s ++ x) ≡ false → Spelled t s x
    → front_at k line depth (s ++ x) ≡ Ok (spells t, x)
front_spells k line depth {t} {s} {x} b sp = not_closed k line depth (s ++ x) b ∙ (rw (token_found line sp) refl)

is_none : (n : ℕ) → (n == 0) ≡ true → n ≡ 0
is_none n e = grind (arith, nat_tests)

closed_front : (k : TagKind) (line depth : ℕ) (f : NextItem) (x rest : Text) → closes k depth x ≡ true
    → front_at k line depth x ≡ Ok (f, rest) → (depth ≡ 0) × (mark : Mark) × (f ≡ closing mark) × IsCloser k mark x rest
unfolding front_at
closed_front k line depth f x rest h e = by (depth == 0) (closer_at k x) refl refl h e
  where
    by : (b : Bool) (o : Option (Mark × Text)) → (depth == 0) ≡ b → closer_at k x ≡ o → (b && is_found o) ≡ true
        → front_by line (if b then o else None) x ≡ Ok (f, rest)
        → (depth ≡ 0) × (mark : Mark) × (f ≡ closing mark) × IsCloser k mark x rest
    by true None d is g q = cc
    by false o d is g q = cc
    by true (Some p) d is g q =
        let u = ok_parts q in
        (is_none depth d, p.0, sym u.0, closer_says k p.0 x rest (is ∙ ap (λ z. Some (p.0, z)) u.1))

-- The text is the closer, if no brace is open, or the spelling of a token, followed by the rest.
abbrev pub IsFront : TagKind → ℕ → NextItem → Text → Text → Type 0
IsFront k depth (closing mark) x rest = (depth ≡ 0) × (may_close k mark ≡ true) × (x ≡ closing_text k mark rest)
IsFront k depth (spells t) x rest =
    (s : Text) × (x ≡ s ++ rest) × Spelled t s rest × (length rest < length x) × (closes k depth x ≡ false)

pub front_says : (k : TagKind) (line depth : ℕ) (f : NextItem) (x rest : Text) → front_at k line depth x ≡ Ok (f, rest)
    → IsFront k depth f x rest
front_says k line depth f x rest e = by (closes k depth x) refl
  where
    by : (b : Bool) → closes k depth x ≡ b → IsFront k depth f x rest
    by true h =
        let c = closed_front k line depth f x rest h e in
        subst (λ g. IsFront k depth g x rest) (sym c.2) (c.0, c.3.0, c.3.1)
    by false h =
        let b = bind_ok (token_at line x) (λ t u. Ok (spells t, u)) f rest (sym (not_closed k line depth x h) ∙ e) in
        let p = ok_parts b.3 in let s = token_says line b.0 x b.1 b.2 in
        subst (λ g. IsFront k depth g x rest) p.0
        (subst (λ z. IsFront k depth (spells b.0) x z) p.1 (s.0, s.1, s.2, s.3, h))

err_same : {A : Type 0} {d e : ScanError} → ◌≡◌ {A = ParseResult A} (Err d) (Err e) → d ≡ e
err_same h = cc

spells_err : (o : ParseResult Token) (e : ScanError) → (o >>= λ t u. Ok (spells t, u)) ≡ Err e → o ≡ Err e
spells_err (Ok p) e h = cc
spells_err (Err d) e h = ap (λ k. Err k) (err_same h)

no_refusal : (k : TagKind) (line depth : ℕ) (x : Text) (e : ScanError) → closes k depth x ≡ true
    → front_at k line depth x ≡ Err e → ⊥
unfolding front_at
no_refusal k line depth x e h q = by (depth == 0) (closer_at k x) h q
  where
    by : (b : Bool) (o : Option (Mark × Text)) → (b && is_found o) ≡ true
        → front_by line (if b then o else None) x ≡ Err e → ⊥
    by true None g r = cc
    by false o g r = cc
    by true (Some p) g r = cc

pub front_refuses : (k : TagKind) (line depth : ℕ) (x : Text) (e : ScanError)
    → ((c : ℕ) (cs : Text) → x ≡ c ∷ cs → is_space c ≡ false) → front_at k line depth x ≡ Err e
    → IsBroken k line depth e x
front_refuses k line depth x e s h = by (closes k depth x) refl
  where
    by : (b : Bool) → closes k depth x ≡ b → IsBroken k line depth e x
    by true b = absurd (no_refusal k line depth x e b h)
    by false b =
        token_refuses k line depth x e s b (spells_err (token_at line x) e (sym (not_closed k line depth x b) ∙ h))

-- ---- the tokens

pub pair_parts : {ts us : List Token} {a b : Mark} → ◌≡◌ {A = Tokens} (ts, a) (us, b) → (ts ≡ us) × (a ≡ b)
pair_parts e = (ap (λ (p : Tokens). p.0) e, ap (λ (p : Tokens). p.1) e)

inside_step : (k : TagKind) (line m depth c : ℕ) (x cs : Text) → x ≡ c ∷ cs → is_space c ≡ false
    → inside k line (suc m) depth x ≡ (front_at k line depth x >>= then_inside (inside k line m) depth)
unfolding inside
inside_step k line m depth c x cs e h = rw e (rw h refl)

pub inside_found : {k : TagKind} {depth : ℕ} {ts : List Token} {mark : Mark} {x rest : Text}
    → Inside k depth ts mark x rest → (line m : ℕ) → length x < m → inside k line m depth x ≡ Ok ((ts, mark), rest)
unfolding inside
inside_found (closed ok) line zero le = absurd (omega arith)
inside_found (space h i) line zero le = absurd (omega arith)
inside_found (token b sp i) line zero le = absurd (omega arith)
inside_found {k} (closed {mark} {rest} ok) line (suc m) le =
    let hd = closing_head k mark rest in
    inside_step k line m 0 hd.0 (closing_text k mark rest) hd.1 hd.2 hd.3 ∙ (rw (front_closes k line mark rest ok) refl)
inside_found (space h i) line (suc m) le = rw (h, inside_found i line m (omega arith)) refl
inside_found {k} (token {depth} {s} {x} b sp i) line (suc m) le =
    let hd = spelled_head sp in
    inside_step k line m depth hd.0 (s ++ x) (hd.1 ++ x) (ap (λ y. y ++ x) hd.2) hd.3
    ∙ (rw (front_spells k line depth b sp, inside_found i line m (omega (arith, length-append s x, ap length hd.2)))
    refl)

pub inside_says : (k : TagKind) (line m depth : ℕ) (ts : List Token) (mark : Mark) (x rest : Text)
    → inside k line m depth x ≡ Ok ((ts, mark), rest) → Inside k depth ts mark x rest
unfolding inside
inside_says k line zero depth ts mark x rest e = cc
inside_says k line (suc m) depth ts mark [] rest e = cc
inside_says k line (suc m) depth ts mark (c ∷ cs) rest e =
    by_test (is_space c) _ _ _ e
    (λ h q. space h (inside_says k line m depth ts mark cs rest q))
    (λ h q.
    let b = bind_ok (front_at k line depth (c ∷ cs)) (then_inside (inside k line m) depth) (ts, mark) rest q in
    turned b.0 b.1 (front_says k line depth b.0 (c ∷ cs) b.1 b.2) b.3
    (λ d us a z q2. inside_says k line m d us a b.1 z q2))
  where
    turned : (f : NextItem) (u : Text) → IsFront k depth f (c ∷ cs) u
        → then_inside (inside k line m) depth f u ≡ Ok ((ts, mark), rest)
        → ((d : ℕ) (us : List Token) (a : Mark) (z : Text) → inside k line m d u ≡ Ok ((us, a), z)
        → Inside k d us a u z) → Inside k depth ts mark (c ∷ cs) rest
    turned (closing found) u is q next =
        let p = ok_parts q in let same = pair_parts p.0 in
        subst (λ d. Inside k d ts mark (c ∷ cs) rest) (sym is.0)
        (subst (λ us. Inside k 0 us mark (c ∷ cs) rest) same.0
        (subst (λ a. Inside k 0 [] a (c ∷ cs) rest) same.1
        (subst (λ z. Inside k 0 [] found z rest) (sym (is.2 ∙ ap (λ z. closing_text k found z) p.1)) (closed is.1))))
    turned (spells t) u is q next =
        let b = bind_ok (inside k line m (braces depth t) u) (λ p z. Ok ((t ∷ p.0, p.1), z)) (ts, mark) rest q in
        let p = ok_parts b.3 in let same = pair_parts p.0 in
        subst (λ us. Inside k depth us mark (c ∷ cs) rest) same.0
        (subst (λ a. Inside k depth (t ∷ b.0.0) a (c ∷ cs) rest) same.1
        (subst (λ z. Inside k depth (t ∷ b.0.0) b.0.1 z rest) (sym is.1)
        (token (subst (λ z. closes k depth z ≡ false) is.1 is.4) is.2
        (next (braces depth t) b.0.0 b.0.1 rest
        (subst (λ z. inside k line m (braces depth t) u ≡ Ok (b.0, z)) p.1 b.2)))))

with_err : (t : Token) (o : ParseResult Tokens) (e : ScanError) → with_token t o ≡ Err e → o ≡ Err e
with_err t (Ok p) e h = cc
with_err t (Err x) e h = ap (λ k. Err k) (err_same h)

pub inside_refuses : (k : TagKind) (line m depth : ℕ) (x : Text) (e : ScanError) → length x < m
    → inside k line m depth x ≡ Err e → IsBroken k line depth e x
unfolding inside
inside_refuses k line zero depth x e le h = absurd (omega arith)
inside_refuses k line (suc m) depth [] e le h = subst (λ f. IsBroken k line depth f []) (err_same h) has_no_closer
inside_refuses k line (suc m) depth (c ∷ cs) e le h =
    by_test (is_space c) _ _ _ h
    (λ a q. behind_space a (inside_refuses k line m depth cs e (omega arith) q))
    (λ a q.
    turned a (front_at k line depth (c ∷ cs)) refl q (λ d u lt q2. inside_refuses k line m d u e (omega arith) q2))
  where
    on : (f : NextItem) (u : Text) → IsFront k depth f (c ∷ cs) u → then_inside (inside k line m) depth f u ≡ Err e
        → ((d : ℕ) (z : Text) → length z < length (c ∷ cs) → inside k line m d z ≡ Err e → IsBroken k line d e z)
        → IsBroken k line depth e (c ∷ cs)
    on (closing mark) u is q next = cc
    on (spells t) u is q next =
        subst (λ z. IsBroken k line depth e z) (sym is.1)
        (behind_token (subst (λ z. closes k depth z ≡ false) is.1 is.4) is.2
        (next (braces depth t) u is.3 (with_err t (inside k line m (braces depth t) u) e q)))

    head_of : Text → ℕ
    head_of [] = 0
    head_of (b ∷ bs) = b

    turned : is_space c ≡ false → (o : ParseResult NextItem) → front_at k line depth (c ∷ cs) ≡ o
        → (o >>= then_inside (inside k line m) depth) ≡ Err e
        → ((d : ℕ) (z : Text) → length z < length (c ∷ cs) → inside k line m d z ≡ Err e → IsBroken k line d e z)
        → IsBroken k line depth e (c ∷ cs)
    turned a (Ok p) w q next = on p.0 p.1 (front_says k line depth p.0 (c ∷ cs) p.1 w) q next
    turned a (Err d) w q next =
        front_refuses k line depth (c ∷ cs) e
        (λ b bs is. let f = ap (λ (z : Text). is_space (head_of z)) is in sym f ∙ a) (w ∙ ap (λ u. Err u) (err_same q))
