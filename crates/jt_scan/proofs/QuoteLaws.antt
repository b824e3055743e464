-- The scanner finds a text literal with its value, and nothing else.
use Rattle.std.proofs.Common.{◌≡◌, ℕ, zero, suc, ◌+◌, ◌-◌, ◌<◌, ◌≤◌, ◌⊎◌, inl, inr, ◌==◌, ◌&&◌, Bool, true, false, []}
use Rattle.std.proofs.Common.{◌∷◌, ◌++◌, length, refl, sym, ap, ap₂, subst, ◌∙◌, arith, append_assoc, length-append}
use Rattle.std.proofs.Common.{Option, Some, None}
use Rattle.std.proofs.lemmas.Bool.Decides.{nat_tests}
use Rattle.std.proofs.lemmas.Bool.{and_parts}
use lib.Utf8.{scalar}
use Rattle.jt_scan.specs.Literals as literal
use Rattle.jt_scan.specs.Literals.{Text, digit_value, is_digit, digit_first, AllDigits, number_of, is_quote, Enclosed}
use Rattle.jt_scan.specs.Literals.{Unended, Escape, escape, Means, BadEscape, HasBadEscape, some_digits, coded}
use Rattle.jt_scan.specs.Literals.{escape_by, escape_at, piece_at, with_piece, pieces, unescaped}
use Rattle.jt_scan.specs.internal.Scanning.{longer, enclosed_at}
use Rattle.jt_scan.proofs.ParseResultSteps.{by_test}

-- ---- the closing quote

pub no_backslash : (quote : ℕ) → is_quote quote ≡ true → (92 == quote) ≡ false
no_backslash quote h = grind (arith, nat_tests)

pub enclosed_found : {quote : ℕ} {x : Text} → Enclosed quote x → is_quote quote ≡ true → (rest : Text)
    → enclosed_at quote false (x ++ (quote ∷ rest)) ≡ Some (x, rest)
unfolding enclosed_at
enclosed_found {quote} literal.nothing h rest =
    let same : (quote == quote) ≡ true = grind (arith, nat_tests) in rw same refl
enclosed_found (literal.plain n b d) h rest = rw (n, b, enclosed_found d h rest) refl
enclosed_found {quote} (literal.escaped d) h rest = rw (no_backslash quote h, enclosed_found d h rest) refl

-- The text may occur before the closing quote. After a backslash its first character is arbitrary.
abbrev pub IsRest : ℕ → Bool → Text → Type 0
IsRest quote false x = Enclosed quote x
IsRest quote true x = (c : ℕ) × (y : Text) × (x ≡ c ∷ y) × Enclosed quote y

rest_of : (quote c : ℕ) (x : Text) (b : Bool) → (c == quote) ≡ false → (c == 92) ≡ b → IsRest quote b x
    → Enclosed quote (c ∷ x)
rest_of quote c x false n h r = literal.plain n h r
rest_of quote c x true n h r =
    let back : c ≡ 92 = grind (arith, nat_tests) in
    subst (λ k. Enclosed quote (k ∷ x)) (sym back)
    (subst (λ y. Enclosed quote (92 ∷ y)) (sym r.2) (literal.escaped r.3))

longer_some : (c : ℕ) (o : Option (Text × Text)) (x rest : Text) → longer c o ≡ Some (x, rest)
    → (y : Text) × (o ≡ Some (y, rest)) × (c ∷ y ≡ x)
longer_some c None x rest e = cc
longer_some c (Some p) x rest e =
    let q : (c ∷ p.0, p.1) ≡ (x, rest) = cc in
    (p.0, ap (λ (r : Text × Text). Some (p.0, r.1)) q, ap (λ (r : Text × Text). r.0) q)

pub enclosed_says : (quote : ℕ) (b : Bool) (cs x rest : Text) → enclosed_at quote b cs ≡ Some (x, rest)
    → (cs ≡ x ++ (quote ∷ rest)) × IsRest quote b x
unfolding enclosed_at
enclosed_says quote true [] x rest e = cc
enclosed_says quote false [] x rest e = cc
enclosed_says quote true (c ∷ cs) x rest e =
    let p = longer_some c (enclosed_at quote false cs) x rest e in
    let i = enclosed_says quote false cs p.0 rest p.1 in
    (ap (λ y. c ∷ y) i.0 ∙ ap (λ y. y ++ (quote ∷ rest)) p.2, (c, p.0, sym p.2, i.1))
enclosed_says quote false (c ∷ cs) x rest e =
    by_test (c == quote) _ _ _ e
    (λ h k.
    let q : ([], cs) ≡ (x, rest) = cc in let same : c ≡ quote = grind (arith, nat_tests) in (
      ap (λ d. d ∷ cs) same ∙ ap (λ (r : Text × Text). quote ∷ r.1) q
          ∙ ap (λ (r : Text × Text). r.0 ++ (quote ∷ rest)) q,
      subst (Enclosed quote) (ap (λ (r : Text × Text). r.0) q) literal.nothing,
    ))
    (λ h k.
    let p = longer_some c (enclosed_at quote (c == 92) cs) x rest k in
    let i = enclosed_says quote (c == 92) cs p.0 rest p.1 in (
      ap (λ y. c ∷ y) i.0 ∙ ap (λ y. y ++ (quote ∷ rest)) p.2,
      subst (Enclosed quote) p.2 (rest_of quote c p.0 (c == 92) h refl i.1),
    ))

longer_none : (c : ℕ) (o : Option (Text × Text)) → longer c o ≡ None → o ≡ None
longer_none c None e = refl
longer_none c (Some p) e = cc

abbrev IsOpen : ℕ → Bool → Text → Type 0
IsOpen quote false cs = Unended quote cs
IsOpen quote true cs = Unended quote (92 ∷ cs)

open_of : (quote c : ℕ) (cs : Text) (b : Bool) → (c == quote) ≡ false → (c == 92) ≡ b → IsOpen quote b cs
    → Unended quote (c ∷ cs)
open_of quote c cs false n h r = literal.plain n h r
open_of quote c cs true n h r =
    let back : c ≡ 92 = grind (arith, nat_tests) in subst (λ k. Unended quote (k ∷ cs)) (sym back) r

pub enclosed_none : (quote : ℕ) (b : Bool) (cs : Text) → enclosed_at quote b cs ≡ None → IsOpen quote b cs
unfolding enclosed_at
enclosed_none quote true [] e = literal.backslash
enclosed_none quote false [] e = literal.nothing
enclosed_none quote true (c ∷ cs) e =
    literal.escaped (enclosed_none quote false cs (longer_none c (enclosed_at quote false cs) e))
enclosed_none quote false (c ∷ cs) e =
    by_test (c == quote) _ _ _ e
    (λ h k. cc)
    (λ h k. open_of quote c cs (c == 92) h refl
    (enclosed_none quote (c == 92) cs (longer_none c (enclosed_at quote (c == 92) cs) k)))

-- ---- runs of digits

pub some_found : (base : ℕ) (s x : Text) (n : ℕ) → AllDigits base s → length s ≤ n
    → (length s ≡ n) ⊎ (digit_first base x ≡ false) → some_digits base n (s ++ x) ≡ (s, x)
unfolding some_digits
some_found base [] x zero a le o = refl
some_found base [] [] (suc n) a le o = refl
some_found base [] (c ∷ x) (suc n) a le o = elim o [ inl e ↦ absurd (omega (arith, e)) | inr h ↦ (rw h refl) ]
some_found base (c ∷ s) x zero a le o = absurd (omega arith)
some_found base (c ∷ s) x (suc n) a le o =
    rw (a.0, some_found base s x n a.1 (omega arith) (elim o [ inl e ↦ inl (omega (arith, e)) | inr h ↦ inr h ])) refl

abbrev pub AreDigits : ℕ → ℕ → Text → Text × Text → Type 0
AreDigits base n x p =
    (x ≡ p.0 ++ p.1) × AllDigits base p.0 × (length p.0 ≤ n) × ((length p.0 ≡ n) ⊎ (digit_first base p.1 ≡ false))

pub some_say : (base n : ℕ) (x : Text) → AreDigits base n x (some_digits base n x)
unfolding some_digits
some_say base zero x = (refl, tt, omega arith, inl refl)
some_say base (suc n) [] = (refl, tt, omega arith, inr refl)
some_say base (suc n) (c ∷ cs) = by (is_digit base c) refl (some_say base n cs)
  where
    by : (b : Bool) → is_digit base c ≡ b → AreDigits base n cs (some_digits base n cs)
        → AreDigits base (suc n) (c ∷ cs) (some_digits base (suc n) (c ∷ cs))
    by true h r =
        rw h
        (ap (λ z. c ∷ z) r.0, (h, r.1), omega (arith, r.2), elim r.3 [ inl e ↦ inl (omega (arith, e)) | inr f ↦ inr f ])
    by false h r = rw h (refl, tt, omega arith, inr h)

-- ---- characters and escapes

skipped : (y z : Text) → pieces (length y) (y ++ z) ≡ pieces 0 z
unfolding pieces
skipped [] z = refl
skipped (c ∷ y) z = skipped y z

behind : (x y z : Text) → x ≡ y ++ z → pieces (length x - length z) x ≡ pieces 0 z
behind x y z e =
    let n : length x - length z ≡ length y = omega (arith, ap length e, length-append y z) in
    ap₂ (λ m w. pieces m w) n e ∙ skipped y z

pub piece_step : (c : ℕ) (x u y z : Text) → piece_at c x ≡ Some (u, z) → x ≡ y ++ z
    → pieces 0 (c ∷ x) ≡ (u ++ (pieces 0 z).0, (pieces 0 z).1)
unfolding pieces
piece_step c x u y z e w = rw e (ap (λ (q : Text × Bool). (u ++ q.0, q.1)) (behind x y z w))

pub piece_stops : (c : ℕ) (x : Text) → piece_at c x ≡ None → pieces 0 (c ∷ x) ≡ ([], false)
unfolding pieces
piece_stops c x e = rw e refl

next : (c : ℕ) (x u y z v : Text) → piece_at c x ≡ Some (u, z) → x ≡ y ++ z → pieces 0 z ≡ (v, true)
    → pieces 0 (c ∷ x) ≡ (u ++ v, true)
next c x u y z v e w r = piece_step c x u y z e w ∙ (rw r refl)

coded_found : (n : ℕ) (s x : Text) → length s ≡ n → scalar (number_of 16 s) ≡ true
    → coded n (s, x) ≡ Some (number_of 16 s ∷ [], x)
coded_found n s x e h = let same : (length s == n) ≡ true = grind (arith, nat_tests) in rw (same, h) refl

escape_is : (c : ℕ) (x : Text) (k : Escape) → escape c ≡ k → piece_at 92 (c ∷ x) ≡ escape_by k c x
escape_is c x k h = rw h refl

pub means_found : {x v : Text} → Means x v → pieces 0 x ≡ (v, true)
unfolding pieces
means_found literal.nothing = refl
means_found (literal.plain {c} {x} {v} b m) = next c x (c ∷ []) [] x v (rw b refl) refl (means_found m)
means_found (literal.dropped {c} {x} {v} h m) =
    next 92 (c ∷ x) [] (c ∷ []) x v (escape_is c x literal.drops h) refl (means_found m)
means_found (literal.given {c} {d} {x} {v} h m) =
    next 92 (c ∷ x) (d ∷ []) (c ∷ []) x v (escape_is c x (literal.gives d) h) refl (means_found m)
means_found (literal.by_octal {c} s {x} {v} h a le o m) =
    next 92 (c ∷ (s ++ x)) (number_of 8 (c ∷ s) ∷ []) (c ∷ s) x v
    (escape_is c (s ++ x) literal.octal h ∙ (rw (some_found 8 s x 2 a le o) refl)) refl (means_found m)
means_found (literal.by_hexadecimal {c} {n} s {x} {v} h a e k m) =
    next 92 (c ∷ (s ++ x)) (number_of 16 s ∷ []) (c ∷ s) x v
    (escape_is c (s ++ x) (literal.hexadecimal n) h ∙ ap (coded n) (some_found 16 s x n a (omega (arith, e)) (inl e))
    ∙ coded_found n s x e k) refl (means_found m)
means_found (literal.stayed {c} {x} {v} h m) =
    next 92 (c ∷ x) (92 ∷ c ∷ []) (c ∷ []) x v (escape_is c x literal.stays h) refl (means_found m)

-- ---- what a result of `piece_at` implies

-- If z does not begin with an octal digit, neither does w.
abbrev NoMore : Text → Text → Type 0
NoMore z w = digit_first 8 z ≡ false → digit_first 8 w ≡ false

abbrev IsPiece : ℕ → Text → Text → Text → Type 0
IsPiece c x u z = (y : Text) × (x ≡ y ++ z) × ((w v : Text) → NoMore z w → Means w v → Means (c ∷ (y ++ w)) (u ++ v))

pair_of : {u v y z : Text} → ◌≡◌ {A = Option (Text × Text)} (Some (u, y)) (Some (v, z)) → (u ≡ v) × (y ≡ z)
pair_of {u} {v} {y} {z} e =
    let p : (u, y) ≡ (v, z) = cc in (ap (λ (q : Text × Text). q.0) p, ap (λ (q : Text × Text). q.1) p)

moved : (c : ℕ) (x u v y z : Text) → ◌≡◌ {A = Option (Text × Text)} (Some (u, y)) (Some (v, z)) → IsPiece c x u y
    → IsPiece c x v z
moved c x u v y z e p = let q = pair_of e in subst (λ k. IsPiece c x k z) q.0 (subst (λ k. IsPiece c x u k) q.1 p)

escape_says : (c : ℕ) (x u z : Text) (k : Escape) → escape c ≡ k → escape_by k c x ≡ Some (u, z)
    → IsPiece 92 (c ∷ x) u z
escape_says c x u z literal.drops h e = moved 92 (c ∷ x) [] u x z e (c ∷ [], refl, λ w v f m. literal.dropped h m)
escape_says c x u z (literal.gives d) h e =
    moved 92 (c ∷ x) (d ∷ []) u x z e (c ∷ [], refl, λ w v f m. literal.given h m)
escape_says c x u z literal.octal h e =
    let p = some_digits 8 2 x in let r = some_say 8 2 x in
    moved 92 (c ∷ x) (number_of 8 (c ∷ p.0) ∷ []) u p.1 z e (
      c ∷ p.0,
      ap (λ k. c ∷ k) r.0,
      λ w v f m. literal.by_octal p.0 h r.1 r.2 (elim r.3 [ inl i ↦ inl i | inr i ↦ inr (f i) ]) m,
    )
escape_says c x u z (literal.hexadecimal n) h e =
    let p = some_digits 16 n x in let r = some_say 16 n x in
    by_test (length p.0 == n && scalar (number_of 16 p.0)) _ _ _ e
    (λ t k.
    let b = and_parts (length p.0 == n) (scalar (number_of 16 p.0)) t in
    let same : length p.0 ≡ n = grind (arith, nat_tests) in
    moved 92 (c ∷ x) (number_of 16 p.0 ∷ []) u p.1 z k
    (c ∷ p.0, ap (λ k. c ∷ k) r.0, λ w v f m. literal.by_hexadecimal p.0 h r.1 same b.1 m))
    (λ t k. cc)
escape_says c x u z literal.refused h e = cc
escape_says c x u z literal.stays h e =
    moved 92 (c ∷ x) (92 ∷ c ∷ []) u x z e (c ∷ [], refl, λ w v f m. literal.stayed h m)

behind_backslash : (x u z : Text) → escape_at x ≡ Some (u, z) → IsPiece 92 x u z
behind_backslash [] u z e = cc
behind_backslash (c ∷ x) u z e = escape_says c x u z (escape c) refl e

pub piece_says : (c : ℕ) (x u z : Text) → piece_at c x ≡ Some (u, z) → IsPiece c x u z
piece_says c x u z e =
    by_test (c == 92) _ _ _ e
    (λ h k.
    let same : c ≡ 92 = grind (arith, nat_tests) in subst (λ b. IsPiece b x u z) (sym same) (behind_backslash x u z k))
    (λ h k. moved c x (c ∷ []) u x z k ([], refl, λ w v f m. literal.plain h m))

pub piece_end : (c : ℕ) (x u z : Text) → piece_at c x ≡ Some (u, z) → (y : Text) × (x ≡ y ++ z)
piece_end c x u z e = let p = piece_says c x u z e in (p.0, p.1)

-- ---- what a result of `pieces` implies

pub means_says : (m : ℕ) (x : Text) → length x < m → (pieces 0 x).1 ≡ true → Means x (pieces 0 x).0
unfolding pieces
means_says zero x le h = absurd (omega arith)
means_says (suc m) [] le h = literal.nothing
means_says (suc m) (c ∷ x) le h = by (piece_at c x) refl (λ z below f. means_says m z below f)
  where
    by : (o : Option (Text × Text)) → piece_at c x ≡ o
        → ((z : Text) → length z < m → (pieces 0 z).1 ≡ true → Means z (pieces 0 z).0)
        → Means (c ∷ x) (pieces 0 (c ∷ x)).0
    by None e next = let g = sym (ap (λ (q : Text × Bool). q.1) (piece_stops c x e)) ∙ h in cc
    by (Some p) e next =
        let s = piece_says c x p.0 p.1 e in
        let step = piece_step c x p.0 s.0 p.1 e s.1 in
        let i =
        next p.1 (omega (arith, ap length s.1, length-append s.0 p.1)) (sym (ap (λ (q : Text × Bool). q.1) step) ∙ h) in
        let whole : Means (c ∷ (s.0 ++ p.1)) (p.0 ++ (pieces 0 p.1).0) = s.2 p.1 (pieces 0 p.1).0 (λ f. f) i in
        subst (λ k. Means (c ∷ x) k) (sym (ap (λ (q : Text × Bool). q.0) step))
        (subst (λ k. Means (c ∷ k) (p.0 ++ (pieces 0 p.1).0)) (sym s.1) whole)

-- The text ends with a backslash after a prefix that has a value.
abbrev EndsOpen : Text → Type 0
EndsOpen x = (y v : Text) × (x ≡ y ++ (92 ∷ [])) × Means y v

short_of : (c n : ℕ) (x : Text) → escape c ≡ literal.hexadecimal n → coded n (some_digits 16 n x) ≡ None
    → BadEscape (c ∷ x)
short_of c n x h e =
    let p = some_digits 16 n x in let r = some_say 16 n x in
    subst (λ k. BadEscape (c ∷ k)) (sym r.0) (by (length p.0 == n) (scalar (number_of 16 p.0)) refl refl r e)
  where
    by : (a b : Bool) → (length (some_digits 16 n x).0 == n) ≡ a → scalar (number_of 16 (some_digits 16 n x).0) ≡ b
        → AreDigits 16 n x (some_digits 16 n x) → coded n (some_digits 16 n x) ≡ None
        → BadEscape (c ∷ ((some_digits 16 n x).0 ++ (some_digits 16 n x).1))
    by true true s t r e = let g = rw (s, t) at e in cc
    by true false s t r e =
        let same : length (some_digits 16 n x).0 ≡ n = grind (arith, nat_tests) in
        literal.no_character (some_digits 16 n x).0 (some_digits 16 n x).1 h r.1 same t
    by false b s t r e =
        let other : length (some_digits 16 n x).0 ≡ n → ⊥ = λ i. unequal (length (some_digits 16 n x).0) n s i in
        literal.too_short (some_digits 16 n x).0 (some_digits 16 n x).1 h r.1
        (below (length (some_digits 16 n x).0) n r.2 other) (elim r.3 [ inl i ↦ absurd (other i) | inr f ↦ f ])
      where
        unequal : (j k : ℕ) → (j == k) ≡ false → j ≡ k → ⊥
        unequal j k s i = grind (arith, nat_tests)

        below : (j k : ℕ) → j ≤ k → (j ≡ k → ⊥) → j < k
        below j k le ne = omega arith

refused_by : (c : ℕ) (x : Text) (k : Escape) → escape c ≡ k → escape_by k c x ≡ None → BadEscape (c ∷ x)
refused_by c x literal.drops h e = cc
refused_by c x (literal.gives d) h e = cc
refused_by c x literal.octal h e = cc
refused_by c x (literal.hexadecimal n) h e = short_of c n x h e
refused_by c x literal.refused h e = literal.refuses h
refused_by c x literal.stays h e = cc

none_behind : (x : Text) → escape_at x ≡ None → HasBadEscape (92 ∷ x) ⊎ EndsOpen (92 ∷ x)
none_behind [] e = inr ([], [], refl, literal.nothing)
none_behind (c ∷ x) e = inl ([], [], c ∷ x, refl, literal.nothing, refused_by c x (escape c) refl e)

piece_refused : (c : ℕ) (x : Text) → piece_at c x ≡ None → HasBadEscape (c ∷ x) ⊎ EndsOpen (c ∷ x)
piece_refused c x e = grind (arith, by_test, nat_tests, none_behind)

-- If a text does not begin with an octal digit, neither does a prefix of it.
begins_so : (z w t : Text) → z ≡ w ++ t → NoMore z w
begins_so z [] t e f = refl
begins_so z (c ∷ w) t e f = sym (ap (digit_first 8) e) ∙ f

in_front : (c : ℕ) (x u z y t : Text) → IsPiece c x u z → (v : Text) → z ≡ y ++ t → Means y v
    → (a b : Text) × (c ∷ x ≡ a ++ t) × Means a b
in_front c x u z y t p v e m = (
  c ∷ (p.0 ++ y),
  u ++ v,
  ap (λ k. c ∷ k) (p.1 ∙ ap (λ k. p.0 ++ k) e ∙ sym (append_assoc p.0 y t)),
  p.2 y v (begins_so z y t e) m,
)

further_in : (c : ℕ) (x u z : Text) → IsPiece c x u z → HasBadEscape z ⊎ EndsOpen z
    → HasBadEscape (c ∷ x) ⊎ EndsOpen (c ∷ x)
further_in c x u z p o = elim o [
  | inl b ↦ (let f = in_front c x u z b.0 (92 ∷ b.2) p b.1 b.3 b.4 in inl (f.0, f.1, b.2, f.2, f.3, b.5))
  | inr b ↦ (let f = in_front c x u z b.0 (92 ∷ []) p b.1 b.2 b.3 in inr (f.0, f.1, f.2, f.3))
]

bad_or_open : (m : ℕ) (x : Text) → length x < m → (pieces 0 x).1 ≡ false → HasBadEscape x ⊎ EndsOpen x
unfolding pieces
bad_or_open zero x le h = absurd (omega arith)
bad_or_open (suc m) [] le h = cc
bad_or_open (suc m) (c ∷ x) le h = by (piece_at c x) refl (λ z below f. bad_or_open m z below f)
  where
    by : (o : Option (Text × Text)) → piece_at c x ≡ o
        → ((z : Text) → length z < m → (pieces 0 z).1 ≡ false → HasBadEscape z ⊎ EndsOpen z)
        → HasBadEscape (c ∷ x) ⊎ EndsOpen (c ∷ x)
    by None e next = piece_refused c x e
    by (Some p) e next =
        let s = piece_says c x p.0 p.1 e in
        let step = piece_step c x p.0 s.0 p.1 e s.1 in
        further_in c x p.0 p.1 s
        (next p.1 (omega (arith, ap length s.1, length-append s.0 p.1)) (sym (ap (λ (q : Text × Bool). q.1) step) ∙ h))

-- ---- no text between quotes ends with a backslash

unfoldable is_open : Bool → Text → Bool
is_open b [] = b
is_open true (c ∷ x) = is_open false x
is_open false (c ∷ x) = is_open (c == 92) x

enclosed_shut : {quote : ℕ} {x : Text} → Enclosed quote x → is_open false x ≡ false
unfolding is_open
enclosed_shut literal.nothing = refl
enclosed_shut (literal.plain {x} n b e) = ap (λ k. is_open k x) b ∙ enclosed_shut e
enclosed_shut (literal.escaped e) = enclosed_shut e

digit_is_none : (base c : ℕ) → base ≤ 16 → is_digit base c ≡ true → (c == 92) ≡ false
unfolding digit_value
digit_is_none base c le h = by (c == 92) refl
  where
    by : (b : Bool) → (c == 92) ≡ b → (c == 92) ≡ false
    by false e = e
    by true e =
        let same : c ≡ 92 = grind (arith, nat_tests) in
        let g : is_digit base 92 ≡ true = subst (λ k. is_digit base k ≡ true) same h in absurd (big base le g)
      where
        big : (base : ℕ) → base ≤ 16 → is_digit base 92 ≡ true → ⊥
        big base le g = grind (arith, nat_tests)

over_digits : (base : ℕ) (s x t : Text) → base ≤ 16 → AllDigits base s
    → is_open false ((s ++ x) ++ t) ≡ is_open false (x ++ t)
unfolding is_open
over_digits base [] x t le a = refl
over_digits base (c ∷ s) x t le a =
    ap (λ b. is_open b ((s ++ x) ++ t)) (digit_is_none base c le a.0) ∙ over_digits base s x t le a.1

means_open : {y v : Text} → Means y v → is_open false (y ++ (92 ∷ [])) ≡ true
unfolding is_open
means_open literal.nothing = refl
means_open (literal.plain {x} b m) = ap (λ k. is_open k (x ++ (92 ∷ []))) b ∙ means_open m
means_open (literal.dropped h m) = means_open m
means_open (literal.given h m) = means_open m
means_open (literal.by_octal s {x} h a le o m) = over_digits 8 s x (92 ∷ []) (omega arith) a ∙ means_open m
means_open (literal.by_hexadecimal s {x} h a e k m) = over_digits 16 s x (92 ∷ []) (omega arith) a ∙ means_open m
means_open (literal.stayed h m) = means_open m

pub has_bad : (quote : ℕ) (x : Text) → Enclosed quote x → (pieces 0 x).1 ≡ false → HasBadEscape x
has_bad quote x n h = elim (bad_or_open (length x + 1) x (omega arith) h) [
  | inl b ↦ b
  | inr o ↦ (let g = sym (means_open o.3) ∙ ap (is_open false) (sym o.2) ∙ enclosed_shut n in cc)
]
