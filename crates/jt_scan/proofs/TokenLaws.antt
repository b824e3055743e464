-- The scanner finds the longest token at the start of a text, and nothing else.
use Rattle.std.proofs.Common.{◌≡◌, ℕ, pos, ◌+◌, ◌<◌, ◌≤◌, nat_lt, Bool, true, false, [], ◌∷◌, ◌++◌, length, refl, sym}
use Rattle.std.proofs.Common.{ap, subst, ◌∙◌, arith, append_assoc, length-append, Option, Some, None, Ok, Err, rules}
use Rattle.std.proofs.lemmas.Bool.Decides.{nat_tests}
use Rattle.jt_scan.specs.declared.error.ScanError.{ScanError}
use Rattle.jt_scan.specs.declared.error.ScanError.TheVariants as error
use Rattle.jt_scan.specs.declared.segment.TagKind.{TagKind}
use Rattle.jt_scan.specs.declared.segment.Sign.{Sign}
use Rattle.jt_scan.specs.Literals.{Text, digit_value, is_digit, is_quote, pieces}
use Rattle.jt_scan.specs.Cut.{Token, name, number, text, sign, sign_text, closes, starts_name, is_space, max_number}
use Rattle.jt_scan.specs.Cut.{Spelled, a_name, a_number, a_text, a_sign, token_weight}
use Rattle.jt_scan.specs.Refused.{IsBroken, no_closer as has_no_closer, no_quote, bad_escape, too_large, no_token}
use Rattle.jt_scan.specs.internal.Scanning.{ParseResult, run, sign_at, number_at, enclosed_at, signed, numbered, meant}
use Rattle.jt_scan.specs.internal.Scanning.{quoted, token_at}
use Rattle.jt_scan.proofs.ParseResultSteps.{by_test, ok_parts, run_of, run_says}
use Rattle.jt_scan.proofs.SignLaws.{sign_found, sign_says, sign_head, no_sign}
use Rattle.jt_scan.proofs.NumberLaws.{digit_range, number_found, number_says}
use Rattle.jt_scan.proofs.QuoteLaws.{enclosed_found, enclosed_says, enclosed_none, means_found, means_says, has_bad}
use Rattle.jt_scan.proofs.Tables.{no_start, no_space}

-- ---- the characters that a token may begin with

digit_no_space : (c : ℕ) → is_digit 10 c ≡ true → is_space c ≡ false
digit_no_space c h =
    let low : 48 ≤ c = (digit_range c h).0 in let high : c ≤ 57 = (digit_range c h).1 in grind (arith, nat_tests)

pub digit_no_name : (c : ℕ) → is_digit 10 c ≡ true → starts_name c ≡ false
digit_no_name c h = search (arith, rules, digit_range, no_start, nat_tests)

pub below_ten : (r c : ℕ) → r ≡ digit_value c → r < 10 → is_digit 10 c ≡ true
below_ten r c e h = subst (λ k. nat_lt k 10 ≡ true) e (yes_below r h)
  where
    yes_below : (n : ℕ) → n < 10 → nat_lt n 10 ≡ true
    yes_below n h = grind (arith, nat_tests)

pub not_below_ten : (r c : ℕ) → r ≡ digit_value c → 10 ≤ r → is_digit 10 c ≡ false
not_below_ten r c e h = subst (λ k. nat_lt k 10 ≡ false) e (not_below r h)
  where
    not_below : (n : ℕ) → 10 ≤ n → nat_lt n 10 ≡ false
    not_below n h = grind (arith, nat_tests)

quote_is : (c : ℕ) → is_quote c ≡ true → (34 ≤ c) × (c ≤ 39)
quote_is c h = (grind (arith, nat_tests), grind (arith, nat_tests))

quote_no_space : (c : ℕ) → is_quote c ≡ true → is_space c ≡ false
quote_no_space c h =
    let low : 34 ≤ c = (quote_is c h).0 in let high : c ≤ 39 = (quote_is c h).1 in grind (arith, nat_tests)

quote_no_name : (c : ℕ) → is_quote c ≡ true → starts_name c ≡ false
quote_no_name c h = search (arith, rules, quote_is, no_start, nat_tests)

quote_no_digit : (c : ℕ) → is_quote c ≡ true → is_digit 10 c ≡ false
quote_no_digit c h = by (is_digit 10 c) refl
  where
    by : (b : Bool) → is_digit 10 c ≡ b → is_digit 10 c ≡ false
    by false e = e
    by true e = absurd (omega (arith, (digit_range c e).0, (quote_is c h).1))

-- The spelling of a token begins with no whitespace.
pub spelled_head : {t : Token} {s rest : Text} → Spelled t s rest
    → (c : ℕ) × (cs : Text) × (s ≡ c ∷ cs) × (is_space c ≡ false)
spelled_head c = search (arith, rules, no_space, number_found, digit_no_space, quote_no_space, sign_head)

-- The length of a token's spelling is at least its weight.
pub spelled_weighs : {t : Token} {s rest : Text} → Spelled t s rest → token_weight t ≤ length s
spelled_weighs x1 = search (arith, rules, number_found, sign_head)

-- ---- the kind of the next token

pub token_ended : (line : ℕ) (x : Text) → x ≡ [] → token_at line x ≡ Err (error.UnclosedTag line)
unfolding token_at
token_ended line x e = rw e refl

pub token_numbered : (line c : ℕ) (x cs : Text) → x ≡ c ∷ cs → is_digit 10 c ≡ true
    → token_at line x ≡ numbered line (number_at c cs)
unfolding token_at
token_numbered line c x cs e d = rw e (rw (digit_no_name c d, d) refl)

pub token_quoted : (line c : ℕ) (x cs : Text) → x ≡ c ∷ cs → is_quote c ≡ true
    → token_at line x ≡ quoted line (enclosed_at c false cs)
unfolding token_at
token_quoted line c x cs e q = rw e (rw (quote_no_name c q, quote_no_digit c q, q) refl)

pub token_signed : (line c : ℕ) (x cs : Text) → x ≡ c ∷ cs → starts_name c ≡ false → is_digit 10 c ≡ false
    → is_quote c ≡ false → token_at line x ≡ signed line (sign_at x)
unfolding token_at
token_signed line c x cs e n d q = rw e (rw (n, d, q) refl)

-- ---- the tokens of the definition are found

in_range : (line n : ℕ) (rest : Text) → n ≤ max_number → numbered line (n, rest) ≡ Ok (number (pos n), rest)
in_range line n rest le = let e : nat_lt max_number n ≡ false = grind (arith, nat_tests) in rw e refl

meant_found : (line : ℕ) (x v rest : Text) → pieces 0 x ≡ (v, true) → meant line (x, rest) ≡ Ok (text v, rest)
meant_found line x v rest h = search (arith, rules)

pub token_found : (line : ℕ) {t : Token} {s rest : Text} → Spelled t s rest → token_at line (s ++ rest) ≡ Ok (t, rest)
unfolding token_at
token_found line (a_name {c} {x} {rest} h a w) = rw (h, run_of x rest a w) refl
token_found line (a_number {n} {s} {rest} m le) = search (arith, rules, number_found, token_numbered, in_range)
token_found line (a_text {quote} {x} {v} {rest} h e m) =
    token_quoted line quote (quote ∷ ((x ++ (quote ∷ [])) ++ rest)) ((x ++ (quote ∷ [])) ++ rest) refl h ∙
    ap (λ y. quoted line (enclosed_at quote false y)) (append_assoc x (quote ∷ []) rest)
    ∙ ap (quoted line) (enclosed_found e h rest) ∙ meant_found line x v rest (means_found m)
token_found line (a_sign {s = u} {rest} a) =
    let hd = sign_head u in
    token_signed line hd.0 (sign_text u ++ rest) (hd.1 ++ rest) (ap (λ y. y ++ rest) hd.2) hd.3 hd.5 hd.6
    ∙ ap (signed line) (sign_found u rest a)

-- ---- no other tokens are found

abbrev pub IsToken : Token → Text → Text → Type 0
IsToken t x rest = (s : Text) × (x ≡ s ++ rest) × Spelled t s rest × (length rest < length x)

numbered_says : (line c : ℕ) (t : Token) (cs rest : Text) → is_digit 10 c ≡ true
    → numbered line (number_at c cs) ≡ Ok (t, rest) → IsToken t (c ∷ cs) rest
numbered_says line c t cs rest d e =
    by_test (nat_lt max_number (number_at c cs).0) _ _ _ e
    (λ h q. cc)
    (λ h q.
    let p = ok_parts q in let r = number_says c cs d in
    let le : (number_at c cs).0 ≤ max_number = within (number_at c cs).0 h in
    subst (λ u. IsToken u (c ∷ cs) rest) p.0
    (subst (λ z. IsToken (number (pos (number_at c cs).0)) (c ∷ cs) z) p.1 (r.0, r.1, a_number r.2 le, r.3)))
  where
    within : (n : ℕ) → nat_lt max_number n ≡ false → n ≤ max_number
    within n h = grind (arith, nat_tests)

quoted_says : (line c : ℕ) (t : Token) (cs rest : Text) (o : Option (Text × Text)) → is_quote c ≡ true
    → enclosed_at c false cs ≡ o → quoted line o ≡ Ok (t, rest) → IsToken t (c ∷ cs) rest
quoted_says line c t cs rest None h w e = cc
quoted_says line c t cs rest (Some p) h w e =
    by_test (pieces 0 p.0).1 _ _ _ e
    (λ k q.
    let r = ok_parts q in let n = enclosed_says c false cs p.0 p.1 w in
    subst (λ u. IsToken u (c ∷ cs) rest) r.0
    (subst (λ z. IsToken (text (pieces 0 p.0).0) (c ∷ cs) z) r.1 (
      c ∷ (p.0 ++ (c ∷ [])),
      ap (λ z. c ∷ z) (n.0 ∙ sym (append_assoc p.0 (c ∷ []) p.1)),
      a_text h n.1 (means_says (length p.0 + 1) p.0 (omega arith) k),
      omega (arith, ap length n.0, length-append p.0 (c ∷ p.1)),
    )))
    (λ k q. cc)

signed_says : (line : ℕ) (t : Token) (x rest : Text) (o : Option (Sign × Text)) → sign_at x ≡ o
    → signed line o ≡ Ok (t, rest) → IsToken t x rest
signed_says line t x rest None w e = cc
signed_says line t x rest (Some u) w e =
    let p = ok_parts e in let g = sign_says x u.0 u.1 w in
    subst (λ d. IsToken d x rest) p.0 (subst (λ z. IsToken (sign u.0) x z) p.1 (sign_text u.0, g.0, a_sign g.1, g.2))

pub token_says : (line : ℕ) (t : Token) (x rest : Text) → token_at line x ≡ Ok (t, rest) → IsToken t x rest
unfolding token_at
token_says line t [] rest e = cc
token_says line t (c ∷ cs) rest e =
    by_test (starts_name c) _ _ _ e
    (λ h q.
    let p = ok_parts q in let r = run_says cs in
    subst (λ u. IsToken u (c ∷ cs) rest) p.0
    (subst (λ z. IsToken (name (c ∷ (run cs).0)) (c ∷ cs) z) p.1 (
      c ∷ (run cs).0,
      ap (λ z. c ∷ z) r.0,
      a_name h r.1 r.2,
      omega (arith, ap length r.0, length-append (run cs).0 (run cs).1),
    )))
    (λ h q. by_test (is_digit 10 c) _ _ _ q
    (λ h2 q2. numbered_says line c t cs rest h2 q2)
    (λ h2 q2. by_test (is_quote c) _ _ _ q2
    (λ h3 q3. quoted_says line c t cs rest (enclosed_at c false cs) h3 refl q3)
    (λ h3 q3. signed_says line t (c ∷ cs) rest (sign_at (c ∷ cs)) refl q3)))

-- ---- refusals

err_same : {A : Type 0} {d e : ScanError} → ◌≡◌ {A = ParseResult A} (Err d) (Err e) → d ≡ e
err_same h = cc

numbered_refuses : (k : TagKind) (line depth c : ℕ) (cs : Text) (e : ScanError) → is_digit 10 c ≡ true
    → numbered line (number_at c cs) ≡ Err e → IsBroken k line depth e (c ∷ cs)
numbered_refuses k line depth c cs e d h =
    by_test (nat_lt max_number (number_at c cs).0) _ _ _ h
    (λ b q.
    let r = number_says c cs d in
    subst (λ f. IsBroken k line depth f (c ∷ cs)) (err_same q)
    (subst (λ z. IsBroken k line depth (error.NumberTooLarge line) z) (sym r.1)
    (too_large r.2 (above (number_at c cs).0 b))))
    (λ b q. cc)
  where
    above : (n : ℕ) → nat_lt max_number n ≡ true → max_number < n
    above n h = grind (arith, nat_tests)

quoted_refuses : (k : TagKind) (line depth c : ℕ) (cs : Text) (e : ScanError) (o : Option (Text × Text))
    → is_quote c ≡ true → enclosed_at c false cs ≡ o → quoted line o ≡ Err e → IsBroken k line depth e (c ∷ cs)
quoted_refuses k line depth c cs e None h w q =
    subst (λ f. IsBroken k line depth f (c ∷ cs)) (err_same q) (no_quote h (enclosed_none c false cs w))
quoted_refuses k line depth c cs e (Some p) h w q =
    by_test (pieces 0 p.0).1 _ _ _ q
    (λ b r. cc)
    (λ b r.
    let n = enclosed_says c false cs p.0 p.1 w in
    subst (λ f. IsBroken k line depth f (c ∷ cs)) (err_same r)
    (subst (λ z. IsBroken k line depth (error.BadEscape line) (c ∷ z)) (sym n.0)
    (bad_escape p.1 h n.1 (has_bad c p.0 n.1 b))))

pub token_refuses : (k : TagKind) (line depth : ℕ) (x : Text) (e : ScanError)
    → ((c : ℕ) (cs : Text) → x ≡ c ∷ cs → is_space c ≡ false) → closes k depth x ≡ false → token_at line x ≡ Err e
    → IsBroken k line depth e x
unfolding token_at
token_refuses k line depth [] e s b h = subst (λ f. IsBroken k line depth f []) (err_same h) has_no_closer
token_refuses k line depth (c ∷ cs) e s b h =
    by_test (starts_name c) _ _ _ h
    (λ n q. cc)
    (λ n q. by_test (is_digit 10 c) _ _ _ q
    (λ d q2. numbered_refuses k line depth c cs e d q2)
    (λ d q2. by_test (is_quote c) _ _ _ q2
    (λ u q3. quoted_refuses k line depth c cs e (enclosed_at c false cs) u refl q3)
    (λ u q3. unsigned (sign_at (c ∷ cs)) refl n d u q3)))
  where
    unsigned : (o : Option (Sign × Text)) → sign_at (c ∷ cs) ≡ o → starts_name c ≡ false → is_digit 10 c ≡ false
        → is_quote c ≡ false → signed line o ≡ Err e → IsBroken k line depth e (c ∷ cs)
    unsigned None w n d u q =
        subst (λ f. IsBroken k line depth f (c ∷ cs)) (err_same q) (no_token (s c cs refl) n d u (no_sign (c ∷ cs) w) b)
    unsigned (Some u) w n d v q = cc
