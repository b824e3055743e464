-- One iteration of the loops over a text literal.
use Rattle.std.proofs.Common.{◌≡◌, ℕ, zero, suc, ◌+◌, ◌*◌, ◌-◌, ◌^◌, ◌<◌, ◌≤◌, ◌==◌, ◌&&◌, not, min, nat_lt, nat_le}
use Rattle.std.proofs.Common.{cond, Bool, true, false, [], ◌∷◌, ◌++◌, length, refl, sym, ap, ap₂, subst, ◌∙◌, arith}
use Rattle.std.proofs.Common.{append_assoc, append-nil, length-append, Option, Some, None}
use Rattle.std.proofs.lemmas.Bool.Decides.{nat_tests}
use Rattle.std.proofs.lemmas.Str.{encodes-append}
use Rattle.std.proofs.lemmas.Bool.{and_parts}
use lib.Utf8.{scalar, encodes}
use Rattle.jt_scan.specs.Literals as literal
use Rattle.jt_scan.specs.Literals.{Text, digit_value, is_digit, number_from, number_of, some_digits, coded, escape_by}
use Rattle.jt_scan.specs.Literals.{escape_at, piece_at, pieces, unescaped}
use Rattle.jt_scan.specs.internal.Scanning.{longer, enclosed_at, plain_digit}
use Rattle.jt_scan.proofs.TokenLoop.{cancel_end}
use Rattle.jt_scan.proofs.NumberLoop.{IsCapped, grown_is}
use Rattle.jt_scan.proofs.QuoteLaws.{some_say, piece_says, piece_step, piece_stops}

-- ---- up to the closing quote

abbrev pub put_before : Text → Option (Text × Text) → Option (Text × Text)
put_before y None = None
put_before y (Some p) = Some (y ++ p.0, p.1)

-- No quote in x before the rest z closes the text; the flag is set if a backslash precedes z.
abbrev pub IsPassed : ℕ → Text → Bool → Text → Type 0
IsPassed quote x b z = (y : Text) × (x ≡ y ++ z) × (enclosed_at quote false x ≡ put_before y (enclosed_at quote b z))

before_none : (o : Option (Text × Text)) → o ≡ put_before [] o
before_none None = refl
before_none (Some p) = refl

pub passed_none : (quote : ℕ) (x : Text) → IsPassed quote x false x
passed_none quote x = ([], refl, before_none (enclosed_at quote false x))

before_one : (y : Text) (c : ℕ) (o : Option (Text × Text)) → put_before y (longer c o) ≡ put_before (y ++ (c ∷ [])) o
before_one y c None = refl
before_one y c (Some p) = ap (λ k. Some (k, p.1)) (sym (append_assoc y (c ∷ []) p.0))

step_on : (quote c : ℕ) (b : Bool) (cs : Text) → (c == quote && not b) ≡ false
    → enclosed_at quote b (c ∷ cs) ≡ longer c (enclosed_at quote (c == 92 && not b) cs)
unfolding enclosed_at
step_on quote c true cs h = ap (λ k. longer c (enclosed_at quote k cs)) (off (c == 92))
  where
    off : (d : Bool) → false ≡ (d && false)
    off true = refl
    off false = refl
step_on quote c false cs h = rw (on (c == quote) h) (ap (λ k. longer c (enclosed_at quote k cs)) (same (c == 92)))
  where
    on : (d : Bool) → (d && true) ≡ false → d ≡ false
    on true g = g
    on false g = refl

    same : (d : Bool) → d ≡ (d && true)
    same true = refl
    same false = refl

pub passed_on : (quote c : ℕ) (x : Text) (b d : Bool) (z more : Text) → IsPassed quote x b z → z ≡ c ∷ more
    → (c == quote && not b) ≡ false → d ≡ (c == 92 && not b) → IsPassed quote x d more
passed_on quote c x b d z more p e h f = (
  p.0 ++ (c ∷ []),
  p.1 ∙ ap (λ k. p.0 ++ k) e ∙ sym (append_assoc p.0 (c ∷ []) more),
  p.2 ∙ ap (λ k. put_before p.0 (enclosed_at quote b k)) e ∙ ap (put_before p.0) (step_on quote c b more h)
      ∙ before_one p.0 c (enclosed_at quote (c == 92 && not b) more)
      ∙ ap (λ k. put_before (p.0 ++ (c ∷ [])) (enclosed_at quote k more)) (sym f),
)

stop_here : (quote c : ℕ) (b : Bool) (cs : Text) → (c == quote && not b) ≡ true
    → enclosed_at quote b (c ∷ cs) ≡ Some ([], cs)
unfolding enclosed_at
stop_here quote c true cs h = let g = and_parts (c == quote) false h in cc
stop_here quote c false cs h = rw (and_parts (c == quote) true h).0 refl

pub passed_found : (quote c : ℕ) (x : Text) (b : Bool) (z more found : Text) → IsPassed quote x b z → z ≡ c ∷ more
    → (c == quote && not b) ≡ true → x ≡ found ++ z → enclosed_at quote false x ≡ Some (found, more)
passed_found quote c x b z more found p e h w =
    let same : p.0 ≡ found = cancel_end p.0 found z (sym p.1 ∙ w) in
    p.2 ∙ ap (λ k. put_before p.0 (enclosed_at quote b k)) e ∙ ap (put_before p.0) (stop_here quote c b more h)
    ∙ ap (λ k. Some (k, more)) (append-nil p.0 ∙ same)

at_end : (quote : ℕ) (b : Bool) → enclosed_at quote b [] ≡ None
unfolding enclosed_at
at_end quote true = refl
at_end quote false = refl

pub passed_all : (quote : ℕ) (x : Text) (b : Bool) (z : Text) → IsPassed quote x b z → z ≡ []
    → enclosed_at quote false x ≡ None
passed_all quote x b z p e =
    p.2 ∙ ap (λ k. put_before p.0 (enclosed_at quote b k)) e ∙ ap (put_before p.0) (at_end quote b)

-- ---- at most `most` digits

abbrev pub joined : Text → Text × Text → Text × Text
joined s p = (s ++ p.0, p.1)

-- The digits between the text x and the rest z have been read, and `missing` further digits are
-- allowed.
abbrev pub IsPart : ℕ → ℕ → ℕ → Text → ℕ → ℕ → Text → Type 0
IsPart base most start x missing m z =
    (s : Text) × IsCapped m (number_from base start s) × (length s + missing ≡ most)
    × (some_digits base most x ≡ joined s (some_digits base missing z))

plain_says : (base d : ℕ) (z more : Text) → plain_digit base z ≡ Some (d, more)
    → (c : ℕ) × (z ≡ c ∷ more) × (is_digit base c ≡ true) × (digit_value c ≡ d)
plain_says base d [] more h = cc
plain_says base d (c ∷ cs) more h = by (is_digit base c) refl
  where
    by : (b : Bool) → is_digit base c ≡ b
        → (k : ℕ) × (c ∷ cs ≡ k ∷ more) × (is_digit base k ≡ true) × (digit_value k ≡ d)
    by true e =
        let f : ◌≡◌ {A = Option (ℕ × Text)} (Some (digit_value c, cs)) (Some (d, more)) = rw e at h in
        let p : (digit_value c, cs) ≡ (d, more) = cc in
        (c, ap (λ (q : ℕ × Text). c ∷ q.1) p, e, ap (λ (q : ℕ × Text). q.0) p)
    by false e = let g = rw e at h in cc

plain_none : (base missing : ℕ) (z : Text) → plain_digit base z ≡ None → some_digits base missing z ≡ ([], z)
unfolding some_digits
plain_none base zero z h = refl
plain_none base (suc n) [] h = refl
plain_none base (suc n) (c ∷ cs) h = by (is_digit base c) refl
  where
    by : (b : Bool) → is_digit base c ≡ b → some_digits base (suc n) (c ∷ cs) ≡ ([], c ∷ cs)
    by true e = let g = rw e at h in cc
    by false e = rw e refl

number_one : (base start c : ℕ) (s : Text)
    → number_from base start (s ++ (c ∷ [])) ≡ number_from base start s * base + digit_value c
number_one base start c [] = refl
number_one base start c (k ∷ s) = number_one base (start * base + digit_value k) c s

some_one : (base n c : ℕ) (more : Text) → is_digit base c ≡ true
    → some_digits base (suc n) (c ∷ more) ≡ joined (c ∷ []) (some_digits base n more)
unfolding some_digits
some_one base n c more h = rw h refl

less : (v base d : ℕ) → nat_lt v base ≡ true → v ≡ d → d < base
less v base d h e = grind (arith, nat_tests)

pub part_goes_on : (base most start missing left m d n : ℕ) (x z more : Text) → IsPart base most start x missing m z
    → plain_digit base z ≡ Some (d, more) → n ≡ min (min (m * base) (2 ^ 64 - 1) + d) (2 ^ 64 - 1) → missing ≡ suc left
    → IsPart base most start x left n more
part_goes_on base most start missing left m d n x z more p h e i =
    let q = plain_says base d z more h in
    let value : number_from base start (p.0 ++ (q.0 ∷ [])) ≡ number_from base start p.0 * base + d =
    number_one base start q.0 p.0 ∙ ap (λ k. number_from base start p.0 * base + k) q.3 in (
      p.0 ++ (q.0 ∷ []),
      subst (λ k. IsCapped n k) (sym value)
          (grown_is (number_from base start p.0) m base d n p.1 (less (digit_value q.0) base d q.2 q.3) e),
      omega (arith, p.2, i, length-append p.0 (q.0 ∷ [])),
      p.3 ∙ ap₂ (λ j k. joined p.0 (some_digits base j k)) i q.1 ∙ ap (joined p.0) (some_one base left q.0 more q.2)
          ∙ ap (λ k. (k, (some_digits base left more).1))
          (sym (append_assoc p.0 (q.0 ∷ []) (some_digits base left more).0)),
    )

-- The digits end at the rest z.
abbrev pub IsTaken : ℕ → ℕ → ℕ → Text → ℕ → ℕ → Text → Type 0
IsTaken base most start x missing m z =
    (length (some_digits base most x).0 + missing ≡ most)
    × IsCapped m (number_from base start (some_digits base most x).0) × (z ≡ (some_digits base most x).1)

taken : (base most start missing m : ℕ) (x z : Text) → IsPart base most start x missing m z
    → some_digits base missing z ≡ ([], z) → IsTaken base most start x missing m z
taken base most start missing m x z p h = grind (arith, append-nil)

pub part_stops : (base most start missing m : ℕ) (x z : Text) → IsPart base most start x missing m z
    → plain_digit base z ≡ None → IsTaken base most start x missing m z
part_stops base most start missing m x z p h = taken base most start missing m x z p (plain_none base missing z h)

pub part_full : (base most start missing m : ℕ) (x z : Text) → IsPart base most start x missing m z → missing ≡ 0
    → IsTaken base most start x missing m z
unfolding some_digits
part_full base most start missing m x z p h = taken base most start missing m x z p (ap (λ k. some_digits base k z) h)

-- ---- codes

small_octal : (d : ℕ) (s : Text) → d ≤ 16 → literal.AllDigits 8 s → length s ≤ 2 → number_from 8 d s < 2048
small_octal d [] lt a le = omega arith
small_octal d (b ∷ []) lt a le =
    let one : digit_value b < 8 = less (digit_value b) 8 (digit_value b) a.0 refl in omega arith
small_octal d (b ∷ c ∷ []) lt a le = grind (arith, less)
small_octal d (b ∷ c ∷ e ∷ s) lt a le = absurd (omega arith)

digit_small : (c : ℕ) → digit_value c ≤ 16
unfolding digit_value
digit_small c =
    pick (nat_le 48 c && nat_le c 57) (nat_le 97 c && nat_le c 102) (nat_le 65 c && nat_le c 70) refl refl refl
  where
    pick : (a b d : Bool) → (nat_le 48 c && nat_le c 57) ≡ a → (nat_le 97 c && nat_le c 102) ≡ b
        → (nat_le 65 c && nat_le c 70) ≡ d → cond a (c - 48) (cond b (c - 87) (cond d (c - 55) 16)) ≤ 16
    pick true b d w v u = grind (arith, nat_tests)
    pick false true d w v u = grind (arith, nat_tests)
    pick false false true w v u = grind (arith, nat_tests)
    pick false false false w v u = omega arith

small_is_scalar : (n : ℕ) → n < 2048 → scalar n ≡ true
small_is_scalar n h = grind (arith, nat_tests)

-- The number of an octal escape is the code of a character.
pub octal_fits : (c d m : ℕ) (x : Text) → d ≡ digit_value c
    → m ≡ min (number_from 8 d (some_digits 8 2 x).0) (2 ^ 64 - 1) → scalar m ≡ true
octal_fits c d m x e h =
    let r = some_say 8 2 x in
    let small : number_from 8 d (some_digits 8 2 x).0 < 2048 =
    small_octal d (some_digits 8 2 x).0 (omega (arith, e, digit_small c)) r.1 r.2 in
    small_is_scalar m (omega (arith, h, small))

-- ---- characters and escapes

pub piece_shrinks : (c : ℕ) (x u z rest : Text) → rest ≡ c ∷ x → piece_at c x ≡ Some (u, z) → length z < length rest
piece_shrinks c x u z rest w e =
    let p = piece_says c x u z e in omega (arith, ap length w, ap length p.1, length-append p.0 z)

pub meaning_goes_on : (c : ℕ) (x u z rest : Text) (b : Bool) → b ≡ (pieces 0 rest).1 → rest ≡ c ∷ x
    → piece_at c x ≡ Some (u, z) → b ≡ (pieces 0 z).1
meaning_goes_on c x u z rest b i w e =
    let p = piece_says c x u z e in
    i ∙ ap (λ k. (pieces 0 k).1) w ∙ ap (λ (q : Text × Bool). q.1) (piece_step c x u p.0 z e p.1)

pub meaning_stops : (c : ℕ) (x rest : Text) (b : Bool) → b ≡ (pieces 0 rest).1 → rest ≡ c ∷ x → piece_at c x ≡ None
    → b ≡ false
meaning_stops c x rest b i w e = i ∙ ap (λ k. (pieces 0 k).1) w ∙ ap (λ (q : Text × Bool). q.1) (piece_stops c x e)

pub meaning_ends : (rest : Text) (b : Bool) → b ≡ (pieces 0 rest).1 → rest ≡ [] → b ≡ true
unfolding pieces
meaning_ends rest b i w = i ∙ ap (λ k. (pieces 0 k).1) w

-- The held bytes and those of the remaining text make the whole value, also after the value of one
-- more piece is appended.
pub value_goes_on : (c : ℕ) (x u z rest : Text) (held more whole : Text) → held ++ encodes (unescaped rest) ≡ whole
    → rest ≡ c ∷ x → piece_at c x ≡ Some (u, z) → more ≡ held ++ encodes u → more ++ encodes (unescaped z) ≡ whole
value_goes_on c x u z rest held more whole i w e m =
    let p = piece_says c x u z e in
    let step : unescaped rest ≡ u ++ unescaped z =
    ap unescaped w ∙ ap (λ (q : Text × Bool). q.0) (piece_step c x u p.0 z e p.1) in
    ap (λ k. k ++ encodes (unescaped z)) m ∙ append_assoc held (encodes u) (encodes (unescaped z))
    ∙ ap (λ k. held ++ k) (sym (encodes-append u (unescaped z)) ∙ ap encodes (sym step)) ∙ i

pub value_stops : (c : ℕ) (x rest : Text) (held whole : Text) → held ++ encodes (unescaped rest) ≡ whole → rest ≡ c ∷ x
    → piece_at c x ≡ None → held ≡ whole
value_stops c x rest held whole i w e =
    let none : unescaped rest ≡ [] = ap unescaped w ∙ ap (λ (q : Text × Bool). q.0) (piece_stops c x e) in
    sym (append-nil held) ∙ ap (λ k. held ++ encodes k) (sym none) ∙ i

pub value_ends : (rest : Text) (held whole : Text) → held ++ encodes (unescaped rest) ≡ whole → rest ≡ [] → held ≡ whole
unfolding pieces
value_ends rest held whole i w = sym (append-nil held) ∙ ap (λ k. held ++ encodes k) (sym (ap unescaped w)) ∙ i
