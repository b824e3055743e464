-- The scanner finds the longest number at the start of a text, and nothing else.
use Rattle.std.proofs.Common.{◌≡◌, ℕ, ◌+◌, ◌*◌, ◌-◌, ◌<◌, ◌≤◌, ◌==◌, ◌&&◌, ◌||◌, nat_lt, nat_le, Bool, true, false}
use Rattle.std.proofs.Common.{cond, [], ◌∷◌, ◌++◌, length, refl, sym, ap, subst, ◌∙◌, arith, length-append, Option}
use Rattle.std.proofs.Common.{Some, None, rules}
use Rattle.std.proofs.lemmas.Bool.Decides.{nat_tests}
use Rattle.std.proofs.lemmas.Bool.{or_parts}
use Rattle.jt_scan.specs.Literals.{Text, digit_value, is_digit, digit_first, Digits, no_digit, digit, spaced, goes_on}
use Rattle.jt_scan.specs.Literals.{base_of, names_base, Numeral, decimal, zeros, based}
use Rattle.jt_scan.specs.internal.Scanning.{digits_at, next_digit, based_at, number_at}

-- ---- digits

pub digit_range : (c : ℕ) → is_digit 10 c ≡ true → (48 ≤ c) × (c ≤ 57)
unfolding digit_value
digit_range c h =
    let e =
    pick (nat_le 48 c && nat_le c 57) (nat_le 97 c && nat_le c 102) (nat_le 65 c && nat_le c 70) refl refl refl h in
    (low e, high e)
  where
    pick : (a b d : Bool) → (nat_le 48 c && nat_le c 57) ≡ a → (nat_le 97 c && nat_le c 102) ≡ b
        → (nat_le 65 c && nat_le c 70) ≡ d → nat_lt (cond a (c - 48) (cond b (c - 87) (cond d (c - 55) 16))) 10 ≡ true
        → (nat_le 48 c && nat_le c 57) ≡ true
    pick true b d w v u g = w
    pick false true d w v u g = absurd (grind (arith, nat_tests))
    pick false false true w v u g = absurd (grind (arith, nat_tests))
    pick false false false w v u g = cc

    low : (nat_le 48 c && nat_le c 57) ≡ true → 48 ≤ c
    low e = grind (arith, nat_tests)

    high : (nat_le 48 c && nat_le c 57) ≡ true → c ≤ 57
    high e = grind (arith, nat_tests)

-- An underscore is no digit.
pub no_underscore : (base : ℕ) → base ≤ 16 → is_digit base 95 ≡ false
unfolding digit_value
no_underscore base le = grind (arith, nat_tests)

pub base_of_fits : (c : ℕ) → base_of c ≤ 16
unfolding base_of
base_of_fits c = pick (c == 98 || c == 66) (c == 111 || c == 79) (c == 120 || c == 88)
  where
    pick : (a b d : Bool) → cond a 2 (cond b 8 (cond d 16 0)) ≤ 16
    pick true b d = omega arith
    pick false true d = omega arith
    pick false false true = omega arith
    pick false false false = omega arith

digits_end : (base n : ℕ) (rest : Text) → goes_on base rest ≡ false → digits_at base n rest ≡ (n, rest)
unfolding digits_at
digits_end base n [] h = refl
digits_end base n (c ∷ rest) h =
    let p = or_parts (is_digit base c) (c == 95 && digit_first base rest) h in rw (p.0, p.1) refl

digits_found : {base n m : ℕ} {x : Text} → Digits base n x m → base ≤ 16 → (rest : Text) → goes_on base rest ≡ false
    → digits_at base n (x ++ rest) ≡ (m, rest)
unfolding digits_at
digits_found {base} (no_digit {n}) le rest h = digits_end base n rest h
digits_found (digit {c} d g) le rest h = rw (d, digits_found g le rest h) refl
digits_found {base} (spaced {c} d g) le rest h = rw (no_underscore base le, d, digits_found g le rest h) refl

-- The text consists of digits and a rest that continues no number.
abbrev pub IsRun : ℕ → ℕ → Text → ℕ × Text → Type 0
IsRun base n x p = (s : Text) × (x ≡ s ++ p.1) × Digits base n s p.0 × (goes_on base p.1 ≡ false)

digits_one : (base n c : ℕ) → IsRun base n (c ∷ []) (digits_at base n (c ∷ []))
unfolding digits_at
digits_one base n c = by (is_digit base c) (c == 95) refl refl
  where
    by : (a b : Bool) → is_digit base c ≡ a → (c == 95) ≡ b → IsRun base n (c ∷ []) (digits_at base n (c ∷ []))
    by true b h g = rw h (c ∷ [], refl, digit h no_digit, refl)
    by false true h g = rw (h, g) ([], refl, no_digit, rw (h, g) refl)
    by false false h g = rw (h, g) ([], refl, no_digit, rw (h, g) refl)

digits_two : (base n c d : ℕ) (ds : Text)
    → IsRun base (n * base + digit_value c) (d ∷ ds) (digits_at base (n * base + digit_value c) (d ∷ ds))
    → IsRun base (n * base + digit_value d) ds (digits_at base (n * base + digit_value d) ds)
    → IsRun base n (c ∷ d ∷ ds) (digits_at base n (c ∷ d ∷ ds))
unfolding digits_at
digits_two base n c d ds one two = by (is_digit base c) (c == 95) (is_digit base d) refl refl refl
  where
    by : (a b e : Bool) → is_digit base c ≡ a → (c == 95) ≡ b → is_digit base d ≡ e
        → IsRun base n (c ∷ d ∷ ds) (digits_at base n (c ∷ d ∷ ds))
    by true b e h g f = rw h (c ∷ one.0, ap (λ z. c ∷ z) one.1, digit h one.2, one.3)
    by false true true h g f =
        let same : c ≡ 95 = grind (arith, nat_tests) in
        rw (h, g, f) (95 ∷ d ∷ two.0, ap (λ z. z ∷ d ∷ ds) same ∙ ap (λ z. 95 ∷ d ∷ z) two.1, spaced f two.2, two.3)
    by false true false h g f = rw (h, g, f) ([], refl, no_digit, rw (h, g, f) refl)
    by false false e h g f = rw (h, g) ([], refl, no_digit, rw (h, g) refl)

pub digits_say : (base n : ℕ) (x : Text) → IsRun base n x (digits_at base n x)
unfolding digits_at
digits_say base n [] = ([], refl, no_digit, refl)
digits_say base n (c ∷ []) = digits_one base n c
digits_say base n (c ∷ d ∷ ds) =
    digits_two base n c d ds (digits_say base (n * base + digit_value c) (d ∷ ds))
    (digits_say base (n * base + digit_value d) ds)

-- ---- numbers

goes_on_more : (base : ℕ) (x rest : Text) → goes_on base x ≡ true → goes_on base (x ++ rest) ≡ true
goes_on_more base [] rest h = cc
goes_on_more base (c ∷ []) rest h = by (is_digit base c) (c == 95) refl refl
  where
    by : (a b : Bool) → is_digit base c ≡ a → (c == 95) ≡ b → goes_on base (c ∷ rest) ≡ true
    by true b e f = rw e refl
    by false true e f = let g = rw (e, f) at h in cc
    by false false e f = let g = rw (e, f) at h in cc
goes_on_more base (c ∷ d ∷ x) rest h = h

or_true : (b : Bool) → (b || true) ≡ true
or_true true = refl
or_true false = refl

-- If the digits continue with the rest but the rest does not continue a number, then there is a
-- digit before the rest.
goes_on_front : (base n m : ℕ) (x rest : Text) → Digits base n x m → goes_on base (x ++ rest) ≡ true
    → goes_on base rest ≡ false → goes_on base x ≡ true
goes_on_front base n m x rest x6 h f = search (arith, rules, or_true)

pub number_found : {s : Text} {n : ℕ} {rest : Text} → Numeral s n rest
    → (c : ℕ) × (x : Text) × (s ≡ c ∷ x) × (is_digit 10 c ≡ true) × (number_at c (x ++ rest) ≡ (n, rest))
unfolding digit_value
number_found (decimal {c} {x} {rest} d z g e) = (c, x, refl, d, rw z (digits_found g (omega arith) rest e))
number_found (zeros {x} {rest} g b e) = (48, x, refl, refl, rw b (digits_found g (omega arith) rest e))
number_found (based {c} {x} {rest} f g e) =
    (48, c ∷ x, refl, refl, rw (goes_on_more (base_of c) x rest f) (digits_found g (base_of_fits c) rest e))

-- The text consists of the spelling of a number and a rest.
abbrev pub IsNumber : ℕ → Text → ℕ × Text → Type 0
IsNumber c cs p = (s : Text) × (c ∷ cs ≡ s ++ p.1) × Numeral s p.0 p.1 × (length p.1 < length (c ∷ cs))

shorter : (c : ℕ) (cs s z : Text) → cs ≡ s ++ z → length z < length (c ∷ cs)
shorter c cs s z e = omega (arith, ap length e, length-append s z)

based_says : (cs : Text) → names_base cs ≡ true → IsNumber 48 cs (based_at cs)
based_says [] h = cc
based_says (c ∷ cs) h =
    let r = digits_say (base_of c) 0 cs in
    let p = digits_at (base_of c) 0 cs in
    let f : goes_on (base_of c) (r.0 ++ p.1) ≡ true = subst (λ z. goes_on (base_of c) z ≡ true) r.1 h in (
      48 ∷ c ∷ r.0,
      ap (λ z. 48 ∷ c ∷ z) r.1,
      based (goes_on_front (base_of c) 0 p.0 r.0 p.1 r.2 f r.3) r.2 r.3,
      shorter 48 (c ∷ cs) (c ∷ r.0) p.1 (ap (λ z. c ∷ z) r.1),
    )

zeros_say : (cs : Text) → names_base cs ≡ false → IsNumber 48 cs (digits_at 1 0 cs)
zeros_say cs h =
    let r = digits_say 1 0 cs in (
      48 ∷ r.0,
      ap (λ z. 48 ∷ z) r.1,
      zeros r.2 (subst (λ z. names_base z ≡ false) r.1 h) r.3,
      shorter 48 cs r.0 (digits_at 1 0 cs).1 r.1,
    )

decimal_says : (c : ℕ) (cs : Text) → is_digit 10 c ≡ true → (c == 48) ≡ false
    → IsNumber c cs (digits_at 10 (digit_value c) cs)
decimal_says c cs d z =
    let r = digits_say 10 (digit_value c) cs in
    (c ∷ r.0, ap (λ z. c ∷ z) r.1, decimal d z r.2 r.3, shorter c cs r.0 (digits_at 10 (digit_value c) cs).1 r.1)

pub number_says : (c : ℕ) (cs : Text) → is_digit 10 c ≡ true → IsNumber c cs (number_at c cs)
number_says c cs d = by (c == 48) (names_base cs) refl refl
  where
    by : (a b : Bool) → (c == 48) ≡ a → names_base cs ≡ b → IsNumber c cs (number_at c cs)
    by false b h g = rw h (decimal_says c cs d h)
    by true true h g =
        let same : c ≡ 48 = grind (arith, nat_tests) in
        subst (λ k. IsNumber k cs (number_at k cs)) (sym same) (rw g (based_says cs g))
    by true false h g =
        let same : c ≡ 48 = grind (arith, nat_tests) in
        subst (λ k. IsNumber k cs (number_at k cs)) (sym same) (rw g (zeros_say cs g))

-- ---- one more digit

pub no_further : (base n : ℕ) (x : Text) → next_digit base x ≡ None → digits_at base n x ≡ (n, x)
unfolding next_digit digits_at
no_further base n [] h = refl
no_further base n (c ∷ cs) h = by (is_digit base c) (c == 95) refl refl cs h
  where
    by : (a b : Bool) → is_digit base c ≡ a → (c == 95) ≡ b → (cs : Text) → next_digit base (c ∷ cs) ≡ None
        → digits_at base n (c ∷ cs) ≡ (n, c ∷ cs)
    by true b e f cs h = let g = rw e at h in cc
    by false false e f cs h = rw (e, f) refl
    by false true e f [] h = rw (e, f) refl
    by false true e f (d ∷ ds) h = plain (is_digit base d) refl
      where
        plain : (k : Bool) → is_digit base d ≡ k → digits_at base n (c ∷ d ∷ ds) ≡ (n, c ∷ d ∷ ds)
        plain true i = let g = rw (e, f, i) at h in cc
        plain false i = rw (e, f, i) refl

pub further : (base n d : ℕ) (x more : Text) → next_digit base x ≡ Some (d, more)
    → (digits_at base n x ≡ digits_at base (n * base + d) more) × (d < base) × (length more < length x)
unfolding next_digit digits_at
further base n d [] more h = cc
further base n d (c ∷ cs) more h = by (is_digit base c) (c == 95) refl refl cs h
  where
    got : (v : ℕ) (z : Text) → ◌≡◌ {A = Option (ℕ × Text)} (Some (v, z)) (Some (d, more)) → (v ≡ d) × (z ≡ more)
    got v z e = let p : (v, z) ≡ (d, more) = cc in (ap (λ (q : ℕ × Text). q.0) p, ap (λ (q : ℕ × Text). q.1) p)

    less : (v : ℕ) → nat_lt v base ≡ true → v ≡ d → d < base
    less v i e = grind (arith, nat_tests)

    by : (a b : Bool) → is_digit base c ≡ a → (c == 95) ≡ b → (cs : Text) → next_digit base (c ∷ cs) ≡ Some (d, more)
        → (digits_at base n (c ∷ cs) ≡ digits_at base (n * base + d) more) × (d < base)
        × (length more < length (c ∷ cs))
    by true b e f cs h = search (arith, rules, got, less)
    by false false e f cs h = let g = rw (e, f) at h in cc
    by false true e f [] h = let g = rw (e, f) at h in cc
    by false true e f (k ∷ ks) h = plain (is_digit base k) refl
      where
        plain : (a : Bool) → is_digit base k ≡ a → (digits_at base n (c ∷ k ∷ ks) ≡ digits_at base (n * base + d) more)
            × (d < base) × (length more < length (c ∷ k ∷ ks))
        plain true i =
            let p = got (digit_value k) ks (rw (e, f, i) at h) in
            (rw (e, f, i) (rw (sym p.0, sym p.1) refl), less (digit_value k) i p.0, omega (arith, ap length p.1))
        plain false i = let g = rw (e, f, i) at h in cc

-- If there is no next digit, no digit continues the number.
pub goes_on_none : (base : ℕ) (x : Text) → next_digit base x ≡ None → goes_on base x ≡ false
unfolding next_digit
goes_on_none base [] h = refl
goes_on_none base (c ∷ cs) h = by (is_digit base c) (c == 95) refl refl cs h
  where
    by : (a b : Bool) → is_digit base c ≡ a → (c == 95) ≡ b → (cs : Text) → next_digit base (c ∷ cs) ≡ None
        → goes_on base (c ∷ cs) ≡ false
    by true b e f cs h = let g = rw e at h in cc
    by false false e f cs h = rw (e, f) refl
    by false true e f [] h = rw (e, f) refl
    by false true e f (d ∷ ds) h = plain (is_digit base d) refl
      where
        plain : (k : Bool) → is_digit base d ≡ k → goes_on base (c ∷ d ∷ ds) ≡ false
        plain true i = let g = rw (e, f, i) at h in cc
        plain false i = rw (e, f, i) refl

pub goes_on_some : (base : ℕ) (x : Text) (p : ℕ × Text) → next_digit base x ≡ Some p → goes_on base x ≡ true
unfolding next_digit
goes_on_some base [] p h = cc
goes_on_some base (c ∷ cs) p h = by (is_digit base c) (c == 95) refl refl cs h
  where
    by : (a b : Bool) → is_digit base c ≡ a → (c == 95) ≡ b → (cs : Text) → next_digit base (c ∷ cs) ≡ Some p
        → goes_on base (c ∷ cs) ≡ true
    by true b e f cs h = rw e refl
    by false false e f cs h = let g = rw (e, f) at h in cc
    by false true e f [] h = let g = rw (e, f) at h in cc
    by false true e f (d ∷ ds) h = plain (is_digit base d) refl
      where
        plain : (k : Bool) → is_digit base d ≡ k → goes_on base (c ∷ d ∷ ds) ≡ true
        plain true i = rw (e, f, i) refl
        plain false i = let g = rw (e, f, i) at h in cc
