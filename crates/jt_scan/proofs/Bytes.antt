-- The bytes of a text and its characters.
use Rattle.std.proofs.Common.{◌≡◌, ℕ, zero, suc, ◌+◌, ◌-◌, ◌<◌, ◌≤◌, ◌==◌, ◌||◌, ◌⊎◌, inl, inr, Bool, true, false, cond}
use Rattle.std.proofs.Common.{List, [], ◌∷◌, ◌++◌, length, take, drop, get_or, count_by, refl, sym, ap, ap₂, subst, ◌∙◌}
use Rattle.std.proofs.Common.{append-nil, arith, zero-add, length-append, length-take, IsUtf8, slice_range, Option}
use Rattle.std.proofs.Common.{Some, None, unwrap_or, rules}
use Rattle.std.proofs.lemmas.Bool.{cases_lt, false_from_ne_true, and_parts}
use Rattle.std.proofs.lemmas.Bool.Decides.{nat_tests}
use Rattle.std.proofs.lemmas.List.{take-append-drop}
use Rattle.std.proofs.lemmas.Str.{encodes-append, encodes-chars, encode_ascii, chars-append, chars-nil, inside_one}
use Rattle.std.proofs.lemmas.Str.{length-encode, len_utf8_bounds, char_from_byte, IsCharBoundary-at_seam}
use Rattle.std.proofs.lemmas.List.Sums.{sum_by-append}
use Rattle.std.proofs.Math.Seq.{drop-append_seam, take-length, drop-length}
use Rattle.std.specs.Str.{chars, IsCharBoundary}
use lib.Utf8.{encode, encodes}
use Rattle.memchr.specs.Find.{IsFirst, FindsNeedle, OccursAt}
use Rattle.jt_scan.specs.Cut.{Text, EndsWith, begins, opens, ends_comment, NoneBegins}
use Rattle.jt_scan.specs.internal.Scanning.{clear_run, is_second, OpensAt}
use Rattle.jt_scan.proofs.ParseResultSteps.{Stops, clear_of}

-- ---- suffixes

-- If the characters of a text have a suffix, then its bytes have the corresponding one.
pub bytes_end : (t r : List ℕ) → IsUtf8 t → IsUtf8 r → EndsWith (chars t) (chars r) → EndsWith t r
bytes_end t r u v e = (
  encodes e.0,
  sym (encodes-chars t u) ∙ ap encodes e.1 ∙ encodes-append e.0 (chars r)
      ∙ ap (λ z. encodes e.0 ++ z) (encodes-chars r v),
)

pub end_fits : (t r : List ℕ) → EndsWith t r → length r ≤ length t
end_fits t r e = omega (arith, ap length e.1, length-append e.0 r)

pub end_at : (t r : List ℕ) → EndsWith t r → IsUtf8 r → IsCharBoundary t (length t - length r)
end_at t r e v =
    let n : length e.0 ≡ length t - length r = omega (arith, ap length e.1, length-append e.0 r) in
    subst (IsCharBoundary t) n (IsCharBoundary-at_seam t e.0 r e.1 v)

pub drop_end : (t r : List ℕ) → EndsWith t r → drop (length t - length r) t ≡ r
drop_end t r e =
    let n : length t - length r ≡ length e.0 = omega (arith, ap length e.1, length-append e.0 r) in
    rw n (ap (λ z. drop (length e.0) z) e.1 ∙ drop-append_seam e.0 r)

pub chars_parts : (t : List ℕ) (n : ℕ) → IsUtf8 (take n t) → chars t ≡ chars (take n t) ++ chars (drop n t)
chars_parts t n u = ap chars (sym (take-append-drop n t)) ∙ chars-append (take n t) (drop n t) u

pub front_is : (t : List ℕ) (n : ℕ) → slice_range t 0 n ≡ take n t
front_is t n = let e : n - 0 ≡ n = omega arith in rw e refl

pub chars_before : (t r b : List ℕ) (n : ℕ) → IsUtf8 b → b ≡ slice_range t 0 n → drop n t ≡ r
    → chars t ≡ chars b ++ chars r
chars_before t r b n u e d = search (arith, rules, front_is, chars_parts)

-- ---- line ends

high : (c : ℕ) → 128 ≤ c → (k : ℕ) → k < length (encode c) → 128 ≤ get_or (encode c) k 0
high c h k below = elim (cases_lt (get_or (encode c) k 0) 128) [
  | inl low ↦ absurd (omega (arith, inside_one c [] (encode c) k (sym (append-nil _)) below low))
  | inr big ↦ big
]

abbrev is_lf : ℕ → Bool
is_lf b = b == 10

pub count_cons : (x : ℕ) (xs : List ℕ) → count_by is_lf (x ∷ xs) ≡ cond (is_lf x) 1 0 + count_by is_lf xs
count_cons x xs =
    sum_by-append (λ b. cond (is_lf b) 1 0) (x ∷ []) xs
    ∙ (let e : 0 + cond (is_lf x) 1 0 ≡ cond (is_lf x) 1 0 = zero-add _ in ap (λ n. n + count_by is_lf xs) e)

uncounted : (x : ℕ) (xs : List ℕ) → is_lf x ≡ false → count_by is_lf (x ∷ xs) ≡ count_by is_lf xs
uncounted x xs h = count_cons x xs ∙ (rw h (zero-add _))

count_high : (xs ys : List ℕ) → ((k : ℕ) → k < length xs → 128 ≤ get_or xs k 0)
    → count_by is_lf (xs ++ ys) ≡ count_by is_lf ys
count_high [] ys h = refl
count_high (x ∷ xs) ys h =
    let big : 128 ≤ x = h 0 (omega arith) in let other : (x == 10) ≡ false = grind (arith, nat_tests) in
    uncounted x (xs ++ ys) other ∙ count_high xs ys (λ k below. h (suc k) (omega arith))

count_one : (c : ℕ) (ys : List ℕ) → count_by is_lf (encode c ++ ys) ≡ count_by is_lf (c ∷ ys)
count_one c ys = search (arith, rules, cases_lt, encode_ascii, nat_tests, count_high, high, uncounted)

count_all : (cs : Text) → count_by is_lf (encodes cs) ≡ count_by is_lf cs
count_all [] = refl
count_all (c ∷ cs) = search (arith, rules, count_one, count_cons, count_all cs)

pub count_lines : (t : List ℕ) → IsUtf8 t → count_by is_lf t ≡ count_by is_lf (chars t)
count_lines t u = ap (count_by is_lf) (sym (encodes-chars t u)) ∙ count_all (chars t)

-- ---- two ASCII characters at the start

pub pair_up : (a b : ℕ) (cs : Text) → a < 128 → b < 128 → begins a b cs ≡ true
    → (get_or (encodes cs) 0 0 ≡ a) × (get_or (encodes cs) 1 0 ≡ b)
pair_up a b cs la lb h = search (arith, rules, and_parts, nat_tests, encode_ascii)

byte_char : (a c : ℕ) (ys : List ℕ) → a < 128 → get_or (encode c ++ ys) 0 0 ≡ a → c ≡ a
byte_char a c ys l h = search (arith, rules, char_from_byte, length-append, length-encode, len_utf8_bounds)

pair_then : (a b : ℕ) (cs : Text) → b < 128 → 0 < b → get_or (encodes cs) 0 0 ≡ b → begins a b (a ∷ cs) ≡ true
pair_then a0 a1 a2 a3 a4 a5 = search (arith, rules, byte_char, nat_tests)

pub pair_down : (a b : ℕ) (cs : Text) → a < 128 → b < 128 → 0 < a → 0 < b → get_or (encodes cs) 0 0 ≡ a
    → get_or (encodes cs) 1 0 ≡ b → begins a b cs ≡ true
pair_down a0 a1 a2 a3 a4 a5 a6 a7 a8 = search (arith, rules, byte_char, encode_ascii, pair_then)

-- ---- the first position where a test holds

get_or_behind : (xs ys : List ℕ) (k : ℕ) → get_or (xs ++ ys) (length xs + k) 0 ≡ get_or ys k 0
get_or_behind [] ys k = ap (λ m. get_or ys m 0) (omega arith)
get_or_behind (x ∷ xs) ys k = search (arith, rules, get_or, get_or_behind xs ys k)

-- A test of a text's characters, and the property of its bytes that the test decides.
pub record IsTested (test : Text → Bool) (P : List ℕ → ℕ → Type 0) : Type 0 where
  pub up : (cs : Text) → test cs ≡ true → P (encodes cs) 0
  pub down : (cs : Text) → P (encodes cs) 0 → test cs ≡ true
  pub shift : (xs ys : List ℕ) (k : ℕ) → P ys k → P (xs ++ ys) (length xs + k)
  pub back : (xs ys : List ℕ) → P (xs ++ ys) (length xs) → P ys 0

none_begins : (test : Text → Bool) (P : List ℕ → ℕ → Type 0) → IsTested test P → (d x : Text)
    → ((k : ℕ) → k < length (encodes d) → P (encodes (d ++ x)) k → ⊥) → NoneBegins test d x
none_begins test P t [] x h = tt
none_begins test P t (c ∷ d) x h =
    let long : 1 ≤ length (encode c) = omega (arith, length-encode c, (len_utf8_bounds c).0) in (
      false_from_ne_true (test (c ∷ (d ++ x)))
          (λ e. h 0 (omega (arith, length-append (encode c) (encodes d))) (t.up (c ∷ (d ++ x)) e)),
      none_begins test P t d x (λ k below p. h (length (encode c) + k)
          (omega (arith, length-append (encode c) (encodes d))) (t.shift (encode c) (encodes (d ++ x)) k p)),
    )

stops_by : (test : Text → Bool) (x : Text) → test x ≡ true → Stops test x
stops_by test [] h = tt
stops_by test (c ∷ cs) h = h

-- A text is split at the first position where a property of its bytes holds.
split_at : (test : Text → Bool) (P : List ℕ → ℕ → Type 0) → IsTested test P → (t : List ℕ) (n : ℕ) → IsUtf8 t
    → IsUtf8 (take n t) → n ≤ length t → ((k : ℕ) → k < n → P t k → ⊥) → Stops test (chars (drop n t))
    → clear_run test (chars t) ≡ (chars (take n t), chars (drop n t))
split_at test P it t n u v le none stop =
    let parts = chars_parts t n v in
    let d = chars (take n t) in let x = chars (drop n t) in
    let long : length (encodes d) ≡ n = ap length (encodes-chars (take n t) v) ∙ (length-take n t ∙ omega arith) in
    let whole : encodes (d ++ x) ≡ t = ap encodes (sym parts) ∙ encodes-chars t u in
    rw parts (clear_of test d x
    (none_begins test P it d x (λ k below p. none k (omega (arith, long)) (subst (λ z. P z k) whole p))) stop)

pub split_found : (test : Text → Bool) (P : List ℕ → ℕ → Type 0) → IsTested test P → (t : List ℕ) (n : ℕ) → IsUtf8 t
    → IsUtf8 (take n t) → IsUtf8 (drop n t) → n ≤ length t → ((k : ℕ) → k < n → P t k → ⊥) → P t n
    → clear_run test (chars t) ≡ (chars (take n t), chars (drop n t))
split_found test P it t n u v w le none p =
    let long : length (take n t) ≡ n = length-take n t ∙ omega arith in
    let here : P (take n t ++ drop n t) (length (take n t)) =
    subst (λ m. P (take n t ++ drop n t) m) (sym long) (subst (λ z. P z n) (sym (take-append-drop n t)) p) in
    let at : P (drop n t) 0 = it.back (take n t) (drop n t) here in
    split_at test P it t n u v le none (stops_by test (chars (drop n t))
    (it.down (chars (drop n t)) (subst (λ z. P z 0) (sym (encodes-chars (drop n t) w)) at)))

pub split_none : (test : Text → Bool) (P : List ℕ → ℕ → Type 0) → IsTested test P → (t : List ℕ) → IsUtf8 t
    → ((k : ℕ) → k < length t → P t k → ⊥) → clear_run test (chars t) ≡ (chars t, [])
split_none test P it t u none =
    let whole = encodes-chars t u in
    let n = none_begins test P it (chars t) []
    (λ k below p.
    none k (omega (arith, ap length whole)) (subst (λ z. P z k) (ap encodes (append-nil (chars t)) ∙ whole) p)) in
    subst (λ z. clear_run test z ≡ (chars t, [])) (append-nil (chars t)) (clear_of test (chars t) [] n tt)

-- The two bytes occur at a position.
abbrev pub PairAt : ℕ → ℕ → List ℕ → ℕ → Type 0
PairAt a b t k = (get_or t k 0 ≡ a) × (get_or t (k + 1) 0 ≡ b)

pub pair_shift : (a b : ℕ) (xs ys : List ℕ) (k : ℕ) → PairAt a b ys k → PairAt a b (xs ++ ys) (length xs + k)
pair_shift a b xs ys k p = search (arith, rules, get_or_behind, get_or)

pub pair_back : (a b : ℕ) (xs ys : List ℕ) → PairAt a b (xs ++ ys) (length xs) → PairAt a b ys 0
pair_back a b xs ys p = search (arith, rules, get_or_behind, get_or)

pub ends_comment_tested : IsTested ends_comment (PairAt 35 125)
ends_comment_tested = record {
  up = λ cs h. pair_up 35 125 cs (omega arith) (omega arith) h;
  down = λ cs p. pair_down 35 125 cs (omega arith) (omega arith) (omega arith) (omega arith) p.0 p.1;
  shift = pair_shift 35 125;
  back = pair_back 35 125;
}

opens_cases : (cs : Text) → opens cs ≡ true
    → (begins 123 123 cs ≡ true) ⊎ ((begins 123 37 cs ≡ true) ⊎ (begins 123 35 cs ≡ true))
opens_cases cs h = one (begins 123 123 cs) (begins 123 37 cs) (begins 123 35 cs) h
  where
    one : (a b c : Bool) → (a || b || c) ≡ true → (a ≡ true) ⊎ ((b ≡ true) ⊎ (c ≡ true))
    one true b c h = inl refl
    one false true c h = inr (inl refl)
    one false false true h = inr (inr refl)
    one false false false h = cc

second_cases : (c : ℕ) → is_second c ≡ true → (c ≡ 123) ⊎ ((c ≡ 37) ⊎ (c ≡ 35))
second_cases c h = grind (arith, nat_tests)

opens_up : (cs : Text) → opens cs ≡ true → OpensAt (encodes cs) 0
opens_up cs h = search (arith, rules, opens_cases, pair_up)

any_of : (a b c : Bool) → (a ≡ true) ⊎ ((b ≡ true) ⊎ (c ≡ true)) → (a || b || c) ≡ true
any_of a b c h = search (arith, rules)

opens_down : (cs : Text) → OpensAt (encodes cs) 0 → opens cs ≡ true
opens_down cs p = search (arith, rules, any_of, second_cases, pair_down)

pub opens_tested : IsTested opens OpensAt
opens_tested = record {
  up = opens_up;
  down = opens_down;
  shift = λ xs ys k p. let q = pair_shift 123 (get_or ys (k + 1) 0) xs ys k (p.0, refl) in (q.0, rw q.1 p.1);
  back = λ xs ys p. let q = pair_back 123 (get_or (xs ++ ys) (length xs + 1) 0) xs ys (p.0, refl) in (q.0, rw q.1 p.1);
}

-- A text is split at the first position where a property of its bytes holds, or at its end.
pub split_by : (test : Text → Bool) (P : List ℕ → ℕ → Type 0) → IsTested test P
    → (t b x y : List ℕ) (r : Option ℕ) (n m : ℕ) → b ≡ t → IsFirst (P b) 0 m r → length t ≤ m → m ≤ length t + 1
    → n ≡ unwrap_or r (length t) → x ≡ slice_range t 0 n → y ≡ drop n t → IsUtf8 t → IsUtf8 x → IsUtf8 y
    → clear_run test (chars t) ≡ (chars x, chars y)
split_by test P it t b x y None n m same first le ge is e f u v w =
    search (arith, rules, front_is, take-length, drop-length, split_none, chars-nil)
split_by test P it t b x y (Some k) n m same first le ge is e f u v w =
    let at : IsFirst (P t) 0 m (Some k) = subst (λ z. IsFirst (P z) 0 m (Some k)) same first in
    let front : x ≡ take n t = e ∙ front_is t n in
    split_at_first test P it t x y n k is (omega (arith, at.0.high)) front f u v w at.0.before at.1
  where
    split_at_first : (test : Text → Bool) (P : List ℕ → ℕ → Type 0) → IsTested test P → (t x y : List ℕ) (n k : ℕ)
        → n ≡ k → n ≤ length t → x ≡ take n t → y ≡ drop n t → IsUtf8 t → IsUtf8 x → IsUtf8 y
        → ((j : ℕ) → 0 ≤ j → j < k → P t j → ⊥) → P t k → clear_run test (chars t) ≡ (chars x, chars y)
    split_at_first test P it t x y n k same le e f u v w before here =
        split_found test P it t n u (subst IsUtf8 e v) (subst IsUtf8 f w) le
        (λ j below p. before j (omega arith) (omega arith) p) (subst (P t) (sym same) here)
        ∙ ap₂ (λ (a c : List ℕ). (chars a, chars c)) (sym e) (sym f)

-- A read after the end of the bytes returns 0.
past_end : (b : List ℕ) (i : ℕ) → length b ≤ i → get_or b i 0 ≡ 0
past_end [] i h = refl
past_end (x ∷ b) zero h = absurd (omega arith)
past_end (x ∷ b) (suc i) h = past_end b i (omega arith)

reads : (b : List ℕ) (k : ℕ) → PairAt 35 125 b k → (j : ℕ) → j < 2 → get_or b (k + j) 0 ≡ get_or (35 ∷ 125 ∷ []) j 0
reads b k p x4 h = search (arith, rules)

fits : (b : List ℕ) (k : ℕ) → get_or b (k + 1) 0 ≡ 125 → k + 2 ≤ length b
fits b k h = search (arith, rules, cases_lt, past_end)

occurs : (b : List ℕ) (k : ℕ) → PairAt 35 125 b k → OccursAt b (35 ∷ 125 ∷ []) k
occurs b k p = record { fits = fits b k p.1; reads = reads b k p }

pub needle_first : (b : List ℕ) (r : Option ℕ) → FindsNeedle b (35 ∷ 125 ∷ []) 0 r
    → IsFirst (PairAt 35 125 b) 0 (length b + 1) r
needle_first b None h = λ k low below p. h k low below (occurs b k p)
needle_first b (Some k) h = (
  record { low = h.0.low; high = h.0.high; before = λ j low below p. h.0.before j low below (occurs b j p) },
  (
    ap (λ m. get_or b m 0) (let e : k ≡ k + 0 = omega arith in e) ∙ h.1.reads 0 (omega arith),
    h.1.reads 1 (omega arith),
  ),
)
