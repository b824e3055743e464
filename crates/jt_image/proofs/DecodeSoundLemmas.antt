-- Lemmas for the proof that bytes that are read are the spelling of the result.
use Rattle.std.proofs.Common.{◌≡◌, ℕ, zero, suc, ◌+◌, ◌<◌, ◌≤◌, ◌^◌, Bool, true, false, cond, ltb, List, [], ◌∷◌, ◌++◌}
use Rattle.std.proofs.Common.{length, map, get_or, take, drop, Result, Ok, Err, refl, sym, ap, subst, ◌∙◌, arith}
use Rattle.std.proofs.Common.{append_assoc, rules}
use Rattle.std.specs.Int.{Width, w16, w32, w64, byte_len, from_le_bytes, to_le_bytes}
use Rattle.std.specs.List.{flat_map, AllByRecursion}
use Rattle.std.specs.Str.{is_utf8}
use Rattle.std.specs.Prelude.{◌&&◌, not, IsUtf8}
use Rattle.std.proofs.lemmas.Str.{IsUtf8-from_is_utf8}
use Rattle.std.proofs.lemmas.Bool.{ltb-false, cases_lt}
use Rattle.std.proofs.lemmas.List.{append-nil, take-append-drop, length-take, get_or-drop, get_or-take, get_or_past}
use Rattle.std.proofs.lemmas.List.Concat.{flat_map-cons}
use Rattle.std.proofs.lemmas.Nat.{le_bytes_2, le_bytes_4, le_bytes_8, from_le_bytes-to_le_bytes_2}
use Rattle.std.proofs.lemmas.Nat.{from_le_bytes-to_le_bytes_4, from_le_bytes-to_le_bytes_8}
use Rattle.jt_image.specs.declared.error.ImageError.{ImageError}
use Rattle.jt_image.specs.declared.error.ImageError.TheVariants.{Truncated, BadText}
use Rattle.jt_image.specs.Reading.{◌>>=◌, check, number_at, byte_at, text_at, many_at, each_at}

abbrev pub Read : Type 0 → Type 0
Read A = Result (A × List ℕ) ImageError

-- The property holds of the result, if reading succeeds.
abbrev pub AllOk : {A : Type 0} → Result A ImageError → (A → Type 0) → Type 0
AllOk (Ok x) P = P x
AllOk (Err f) P = Unit {0}

pub all_at : {A : Type 0} (r : Result A ImageError) (P : A → Type 0) (x : A) → r ≡ Ok x → AllOk r P → P x
all_at r P x e h = let Q : Result _ ImageError → Type 0 = λ y. AllOk y P in subst Q e h

pub all_map : {A : Type 0} (r : Result A ImageError) (P Q : A → Type 0) → AllOk r P → ((x : A) → P x → Q x) → AllOk r Q
all_map (Ok x) P Q a h = h x a
all_map (Err d) P Q a h = tt

pub bind_from : {A B : Type 0} (r : Result A ImageError) (f : A → Result B ImageError) (P : A → Type 0) (Q : B → Type 0)
    → AllOk r P → ((x : A) → P x → AllOk (f x) Q) → AllOk (r >>= f) Q
bind_from (Ok x) f P Q a h = h x a
bind_from (Err d) f P Q a h = tt

pub check_all : {A : Type 0} (b : Bool) (d : ImageError) (r : Result A ImageError) (P : A → Type 0)
    → (b ≡ true → AllOk r P) → AllOk (check b d r) P
check_all true d r P h = h refl
check_all false d r P h = tt

pub unless_all : {A : Type 0} (b : Bool) (d : ImageError) (r : Result A ImageError) (P : A → Type 0)
    → (b ≡ false → AllOk r P) → AllOk (cond b (Err d) r) P
unless_all true d r P h = tt
unless_all false d r P h = h refl

pub cond_all : {A : Type 0} (b : Bool) (x y : Result A ImageError) (P : A → Type 0) → (b ≡ true → AllOk x P)
    → (b ≡ false → AllOk y P) → AllOk (cond b x y) P
cond_all true x y P h k = h refl
cond_all false x y P h k = k refl

pub and_true : (a b : Bool) → (a && b) ≡ true → (a ≡ true) × (b ≡ true)
and_true true b e = (refl, e)
and_true false b e = absurd cc

pub not_true : (b : Bool) → not b ≡ true → b ≡ false
not_true true e = absurd cc
not_true false e = refl

-- ---- bytes

abbrev pub IsBytes : List ℕ → Type 0
IsBytes bytes = (i : ℕ) → get_or bytes i 0 < 256

pub IsBytes-drop : (n : ℕ) (bytes : List ℕ) → IsBytes bytes → IsBytes (drop n bytes)
IsBytes-drop n bytes h i = rw get_or-drop (h (n + i))

pub IsBytes-take : (n : ℕ) (bytes : List ℕ) → IsBytes bytes → IsBytes (take n bytes)
IsBytes-take n bytes h i = search (arith, rules, cases_lt, get_or-take, get_or_past, length-take)

-- The bytes that a reader took, and those that it left.
pub record Takes (bytes text rest : List ℕ) : Type 0 where
  pub parts : bytes ≡ text ++ rest
  pub fits : IsBytes rest

pub Takes-then : (a x b y c : List ℕ) → Takes a x b → Takes b y c → Takes a (x ++ y) c
Takes-then a x b y c p q = record {
  parts = p.parts ∙ ap (λ (t : List ℕ). x ++ t) q.parts ∙ sym (append_assoc x y c);
  fits = q.fits;
}

pub Takes-as : (a x y b : List ℕ) → x ≡ y → Takes a x b → Takes a y b
Takes-as a x y b e t = record { parts = t.parts ∙ ap (λ (u : List ℕ). u ++ b) e; fits = t.fits }

-- The reader took the spelling of its result, and the result is good.
abbrev pub Found : {A : Type 0} → (A → List ℕ) → (A → Type 0) → List ℕ → Read A → Type 0
Found spell good bytes r = AllOk r (λ x. Takes bytes (spell x.0) x.1 × good x.0)

-- ---- numbers

pub record IsWide (w : Width) (limit : ℕ) : Type 0 where
  pub len : (n : ℕ) → length (to_le_bytes w n) ≡ byte_len w
  pub back : (bytes : List ℕ) → length bytes ≡ byte_len w → IsBytes bytes
      → to_le_bytes w (from_le_bytes w bytes) ≡ bytes
  pub again : (n : ℕ) → n < limit → from_le_bytes w (to_le_bytes w n) ≡ n
  pub below : (bytes : List ℕ) → IsBytes bytes → from_le_bytes w bytes < limit

pub wide16 : IsWide w16 (2 ^ 16)
wide16 = search (arith, rules, le_bytes_2, from_le_bytes-to_le_bytes_2)

pub wide32 : IsWide w32 (2 ^ 32)
wide32 = record {
  len = λ n. refl;
  back = λ bytes len fits. le_bytes_4 bytes _ len fits refl;
  again = λ n lt. from_le_bytes-to_le_bytes_4 n lt;
  below = λ bytes fits. omega (arith, fits 0, fits 1, fits 2, fits 3);
}

pub wide64 : IsWide w64 (2 ^ 64)
wide64 = record {
  len = λ n. refl;
  back = λ bytes len fits. le_bytes_8 bytes _ len fits refl;
  again = λ n lt. from_le_bytes-to_le_bytes_8 n lt;
  below = λ bytes fits. omega (arith, fits 0, fits 1, fits 2, fits 3, fits 4, fits 5, fits 6, fits 7);
}

pub number_found : (w : Width) (limit : ℕ) → IsWide w limit → (bytes : List ℕ) → IsBytes bytes
    → Found (to_le_bytes w) (λ n. n < limit) bytes (number_at w bytes)
number_found w limit wide bytes fits =
    unless_all (ltb (length bytes) (byte_len w)) Truncated
    (Ok (from_le_bytes w (take (byte_len w) bytes), drop (byte_len w) bytes))
    (λ n. Takes bytes (to_le_bytes w n.0) n.1 × (n.0 < limit)) (λ e.
    let long : byte_len w ≤ length bytes = ltb-false _ _ e in
    let front : to_le_bytes w (from_le_bytes w (take (byte_len w) bytes)) ≡ take (byte_len w) bytes = wide.back
    (take (byte_len w) bytes) (omega (arith, length-take (byte_len w) bytes))
    (IsBytes-take (byte_len w) bytes fits) in (
      record {
        parts = rw front (sym (take-append-drop (byte_len w) bytes));
        fits = IsBytes-drop (byte_len w) bytes fits;
      },
      wide.below (take (byte_len w) bytes) (IsBytes-take (byte_len w) bytes fits),
    ))

abbrev pub single : ℕ → List ℕ
single b = b ∷ []

pub byte_found : (bytes : List ℕ) → IsBytes bytes → Found single (λ b. b < 256) bytes (byte_at bytes)
byte_found [] fits = tt
byte_found (b ∷ rest) fits = (record { parts = refl; fits = λ i. fits (suc i) }, fits 0)

-- ---- texts

abbrev pub IsText : ℕ → List ℕ → Type 0
IsText n t = (length t ≡ n) × IsUtf8 t

pub text_found : (n : ℕ) (bytes : List ℕ) → IsBytes bytes → Found (λ t. t) (IsText n) bytes (text_at n bytes)
unfolding text_at
text_found n bytes fits =
    let P : List ℕ × List ℕ → Type 0 = λ x. Takes bytes x.0 x.1 × IsText n x.0 in
    unless_all (ltb (length bytes) n) Truncated
    (check (is_utf8 (take n bytes)) BadText (Ok (take n bytes, drop n bytes))) P (λ e.
    check_all (is_utf8 (take n bytes)) BadText (Ok (take n bytes, drop n bytes)) P (λ u.
    let long : n ≤ length bytes = ltb-false _ _ e in (
      record { parts = sym (take-append-drop n bytes); fits = IsBytes-drop n bytes fits },
      (omega (arith, length-take n bytes), IsUtf8-from_is_utf8 (take n bytes) u),
    )))

-- ---- sequences

-- Each element is good after the elements before it.
abbrev pub AllGood : {A : Type 0} → (List A → A → Type 0) → List A → List A → Type 0
AllGood good before [] = Unit {0}
AllGood good before (x ∷ xs) = good before x × AllGood good (before ++ x ∷ []) xs

pub each_good : {A : Type 0} (P : A → Type 0) (before xs : List A) → AllByRecursion P xs → AllGood (λ _. P) before xs
each_good P before [] h = tt
each_good P before (x ∷ xs) h = (h.0, each_good P (before ++ x ∷ []) xs h.1)

pub good_each : {A : Type 0} (P : A → Type 0) (before xs : List A) → AllGood (λ _. P) before xs → AllByRecursion P xs
good_each P before [] h = tt
good_each P before (x ∷ xs) h = (h.0, good_each P (before ++ x ∷ []) xs h.1)

-- The elements that were read after those before them.
pub record Many {A : Type 0} (spell : A → List ℕ) (good : List A → A → Type 0) (n : ℕ) (before : List A)
    (bytes : List ℕ) (x : List A × List ℕ) : Type 0 where
  pub more : List A
  pub is : x.0 ≡ before ++ more
  pub count : length more ≡ n
  pub takes : Takes bytes (flat_map spell more) x.1
  pub all : AllGood good before more

module _ {A : Type 0} (step : List A → List ℕ → Read A) (spell : A → List ℕ) (good : List A → A → Type 0)
    (found : (before : List A) (bytes : List ℕ) → IsBytes bytes
    → Found spell (good before) bytes (step before bytes)) where
  pub many_found : (n : ℕ) (before : List A) (bytes : List ℕ) → IsBytes bytes
      → AllOk (many_at step n before bytes) (Many spell good n before bytes)
  unfolding many_at
  many_found zero before bytes fits = record {
    more = [];
    is = sym (append-nil before);
    count = refl;
    takes = record { parts = refl; fits = fits };
    all = tt;
  }
  many_found (suc n) before bytes fits =
      bind_from (step before bytes) (λ x. many_at step n (before ++ x.0 ∷ []) x.1)
      (λ x. Takes bytes (spell x.0) x.1 × good before x.0) (Many spell good (suc n) before bytes)
      (found before bytes fits) (λ x t.
      all_map (many_at step n (before ++ x.0 ∷ []) x.1) (Many spell good n (before ++ x.0 ∷ []) x.1)
      (Many spell good (suc n) before bytes) (many_found n (before ++ x.0 ∷ []) x.1 t.0.fits) (λ y m.
      record {
        more = x.0 ∷ m.more;
        is = m.is ∙ append_assoc before (x.0 ∷ []) m.more;
        count = ap suc m.count;
        takes =
            Takes-as bytes (spell x.0 ++ flat_map spell m.more) (flat_map spell (x.0 ∷ m.more)) y.1
            (sym (flat_map-cons spell x.0 m.more))
            (Takes-then bytes (spell x.0) x.1 (flat_map spell m.more) y.1 t.0 m.takes);
        all = (t.1, m.all);
      }))

-- The elements that were read, one for each head.
pub record Each {H A : Type 0} (spell : A → List ℕ) (head : A → H) (good : A → Type 0) (hs : List H) (before : List A)
    (bytes : List ℕ) (x : List A × List ℕ) : Type 0 where
  pub more : List A
  pub is : x.0 ≡ before ++ more
  pub heads : map head more ≡ hs
  pub takes : Takes bytes (flat_map spell more) x.1
  pub all : AllByRecursion good more

module _ {H A : Type 0} (step : H → List ℕ → Read A) (spell : A → List ℕ) (head : A → H) (good : A → Type 0)
    (found : (h : H) (bytes : List ℕ) → IsBytes bytes
    → Found spell (λ x. (head x ≡ h) × good x) bytes (step h bytes)) where
  pub each_found : (hs : List H) (before : List A) (bytes : List ℕ) → IsBytes bytes
      → AllOk (each_at step hs before bytes) (Each spell head good hs before bytes)
  unfolding each_at
  each_found [] before bytes fits = record {
    more = [];
    is = sym (append-nil before);
    heads = refl;
    takes = record { parts = refl; fits = fits };
    all = tt;
  }
  each_found (h ∷ hs) before bytes fits =
      bind_from (step h bytes) (λ x. each_at step hs (before ++ x.0 ∷ []) x.1)
      (λ x. Takes bytes (spell x.0) x.1 × ((head x.0 ≡ h) × good x.0)) (Each spell head good (h ∷ hs) before bytes)
      (found h bytes fits) (λ x t.
      all_map (each_at step hs (before ++ x.0 ∷ []) x.1) (Each spell head good hs (before ++ x.0 ∷ []) x.1)
      (Each spell head good (h ∷ hs) before bytes) (each_found hs (before ++ x.0 ∷ []) x.1 t.0.fits) (λ y m.
      record {
        more = x.0 ∷ m.more;
        is = m.is ∙ append_assoc before (x.0 ∷ []) m.more;
        heads = ap (λ (g : H). g ∷ map head m.more) t.1.0 ∙ ap (λ (gs : List H). h ∷ gs) m.heads;
        takes =
            Takes-as bytes (spell x.0 ++ flat_map spell m.more) (flat_map spell (x.0 ∷ m.more)) y.1
            (sym (flat_map-cons spell x.0 m.more))
            (Takes-then bytes (spell x.0) x.1 (flat_map spell m.more) y.1 t.0 m.takes);
        all = (t.1.1, m.all);
      }))

-- A table: the number of its elements in two bytes, then its elements.
module _ {A : Type 0} (step : List A → List ℕ → Read A) (spell : A → List ℕ) (good : List A → A → Type 0)
    (found : (before : List A) (bytes : List ℕ) → IsBytes bytes
    → Found spell (good before) bytes (step before bytes))
    (P : List A → Type 0) (whole : (xs : List A) → length xs < 2 ^ 16 → AllGood good [] xs → P xs) where
  pub table_found : (bytes : List ℕ) → IsBytes bytes
      → Found (λ xs. to_le_bytes w16 (length xs) ++ flat_map spell xs) P bytes
      (number_at w16 bytes >>= λ n. many_at step n.0 [] n.1)
  table_found bytes fits =
      let Q : List A × List ℕ → Type 0 =
      λ x. Takes bytes (to_le_bytes w16 (length x.0) ++ flat_map spell x.0) x.1 × P x.0 in
      bind_from (number_at w16 bytes) (λ n. many_at step n.0 [] n.1)
      (λ n. Takes bytes (to_le_bytes w16 n.0) n.1 × (n.0 < 2 ^ 16)) Q (number_found w16 (2 ^ 16) wide16 bytes fits)
      (λ n t.
      all_map (many_at step n.0 [] n.1) (Many spell good n.0 [] n.1) Q
      (many_found step spell good found n.0 [] n.1 t.0.fits) (λ x m.
      let len : length x.0 ≡ n.0 = ap length m.is ∙ m.count in (
        Takes-as bytes (to_le_bytes w16 n.0 ++ flat_map spell m.more)
            (to_le_bytes w16 (length x.0) ++ flat_map spell x.0) x.1
            (ap (λ (k : ℕ). to_le_bytes w16 k ++ flat_map spell m.more) (sym len)
            ∙ ap (λ (ys : List A). to_le_bytes w16 (length x.0) ++ flat_map spell ys) (sym m.is))
            (Takes-then bytes (to_le_bytes w16 n.0) n.1 (flat_map spell m.more) x.1 t.0 m.takes),
        whole x.0 (omega (arith, len, t.1)) (subst (λ (ys : List A). AllGood good [] ys) (sym m.is) m.all),
      )))
