-- The entries of numbers: which were seen, and that no two have the same number.
use Rattle.std.proofs.Common.{◌≡◌, ℕ, zero, suc, ℤ, ◌+◌, ◌<◌, ◌≤◌, Bool, true, false, ◌||◌, ◌&&◌, List, [], ◌∷◌, ◌++◌}
use Rattle.std.proofs.Common.{length, get_or, refl, sym, ap, ◌∙◌, ◌⊎◌, inl, inr, subst, true≢false, arith}
use Rattle.std.proofs.Common.{length-append, rules}
use Rattle.std.proofs.Math.ListN.{set}
use Rattle.std.proofs.lemmas.Bool.{cases_lt, and_parts, or_parts, and_from, and_right}
use Rattle.std.proofs.lemmas.Bool.Decides.{Decides-int_eq}
use Rattle.std.proofs.lemmas.Int.{by_lt_z}
use Rattle.std.proofs.lemmas.List.{get_or_append_left, get_or_push, get_or_default}
use Rattle.std.proofs.lemmas.List.Folds.{list_any_at, list_any-append}
use Rattle.std.specs.Cmp.{int_chain}
use Rattle.std.specs.Int.Signed.{◌<ℤ◌, ◌≤ℤ◌, ≤ℤ_refl, clash_ℤ, <ℤ_irrefl, <ℤ-≤ℤ_trans}
use Rattle.std.specs.List.{list_any}
use Rattle.std.specs.Ordering.{int_eq}
use Rattle.jt_filters.specs.declared.seen_numbers.Entry.{Entry}
use Rattle.jt_filters.specs.internal.NumberEntries.{was_seen, occurs, AreDistinct, IsAt, AreRising}
use Rattle.std.proofs.Math.Bool.{and-true}

absorb : (a b c : Bool) → (b ≡ true → a ≡ true) → (a || c) ≡ (a || (b || c))
absorb true b c h = refl
absorb false true c h = absurd (true≢false (sym (h refl)))
absorb false false c h = refl

between : (a b c : Bool) → (a || (b || c)) ≡ (b || (a || c))
between true true c = refl
between true false c = refl
between false true c = refl
between false false c = refl

-- An element is replaced by one that passes the test if it did.
any_set : {X : Type 0} (p : X → Bool) (xs : List X) (i : ℕ) (y d : X) → i < length xs
    → (p (get_or xs i d) ≡ true → p y ≡ true) → list_any p (set xs i y) ≡ (p y || list_any p xs)
any_set p [] i y d lt h = absurd (omega (arith, lt))
any_set p (x ∷ xs) zero y d lt h = absorb (p y) (p x) (list_any p xs) h
any_set p (x ∷ xs) (suc i) y d lt h =
    ap (λ (b : Bool). p x || b) (any_set p xs i y d (omega (arith, lt)) h) ∙ between (p x) (p y) (list_any p xs)

pub any_false : {X : Type 0} (p : X → Bool) (xs : List X)
    → ((k : ℕ) (d : X) → k < length xs → p (get_or xs k d) ≡ false) → list_any p xs ≡ false
any_false p [] h = refl
any_false p (x ∷ xs) h =
    ap (λ (b : Bool). b || list_any p xs) (h 0 x (omega arith))
    ∙ any_false p xs (λ k d lt. h (suc k) d (omega (arith, lt)))

any_fewer : {X : Type 0} (p q : X → Bool) (xs : List X) → ((x : X) → p x ≡ false → q x ≡ false)
    → list_any p xs ≡ false → list_any q xs ≡ false
any_fewer p q [] h e = refl
any_fewer p q (x ∷ xs) h e =
    ap (λ (b : Bool). b || list_any q xs) (h x (or_parts (p x) (list_any p xs) e).0)
    ∙ any_fewer p q xs h (or_parts (p x) (list_any p xs) e).1

-- The entry of a number at an index is the only one.
not_seen : (es : List Entry) (i : ℕ) (z : ℤ) → AreDistinct es → IsAt z i es
    → ((d : Entry) → (get_or es i d).is_seen ≡ false) → was_seen es z ≡ false
not_seen es i z distinct here off = any_false (λ e. int_eq e.number z && e.is_seen) es (λ k d lt. by k d lt _ refl)
  where
    by : (k : ℕ) (d : Entry) → k < length es → (b : Bool) → int_eq (get_or es k d).number z ≡ b
        → (int_eq (get_or es k d).number z && (get_or es k d).is_seen) ≡ false
    by k d lt false e = ap (λ (b : Bool). b && (get_or es k d).is_seen) e
    by k d lt true e =
        and_right (int_eq (get_or es k d).number z) (get_or es k d).is_seen
        (ap (λ (n : ℕ). (get_or es n d).is_seen)
        (distinct k i d lt here.0 ((Decides-int_eq (get_or es k d).number z).0 e ∙ sym (here.1 d)))
        ∙ off d)

had_number : (es : List Entry) (i : ℕ) (z : ℤ) (b : Bool) → AreDistinct es → IsAt z i es
    → ((d : Entry) → (get_or es i d).is_seen ≡ b) → b ≡ was_seen es z
had_number es i z false distinct here is = sym (not_seen es i z distinct here is)
had_number es i z true distinct here is =
    let d : Entry = record { number = z; is_seen = true } in
    sym (list_any_at (λ e. int_eq e.number z && e.is_seen) es i d here.0
    (and_from (int_eq (get_or es i d).number z) (get_or es i d).is_seen
    ((Decides-int_eq (get_or es i d).number z).1 (here.1 d)) (is d)))

pub has_seen : (es : List Entry) (i : ℕ) (z : ℤ) (e : Entry) → IsAt z i es → e.number ≡ z → e.is_seen ≡ true → (y : ℤ)
    → was_seen (set es i e) y ≡ (int_eq z y || was_seen es y)
has_seen es i z e here n seen y =
    any_set (λ x. int_eq x.number y && x.is_seen) es i e e here.0
    (λ t. and_from (int_eq e.number y) e.is_seen
    (ap (λ (k : ℤ). int_eq k y) (n ∙ sym (here.1 e)) ∙ (and_parts _ _ t).0) seen)
    ∙ ap (λ (b : Bool). (int_eq e.number y && b) || was_seen es y) seen
    ∙ ap (λ (b : Bool). b || was_seen es y) (and-true (int_eq e.number y))
    ∙ ap (λ (k : ℤ). int_eq k y || was_seen es y) n

pub not_had : (es : List Entry) (z : ℤ) → occurs z es ≡ false → was_seen es z ≡ false
not_had es z none =
    any_fewer (λ e. int_eq e.number z) (λ e. int_eq e.number z && e.is_seen) es
    (λ e h. ap (λ (b : Bool). b && e.is_seen) h) none

-- A disjunction in the other order.
pub turned : (a b : Bool) → (a || (b || false)) ≡ (b || a)
turned a b = search (arith, rules)

-- No entry has the number of one that is missing.
other_number : (es : List Entry) (z : ℤ) (k : ℕ) (d : Entry) → occurs z es ≡ false → k < length es
    → (get_or es k d).number ≡ z → ⊥
other_number es z k d none lt same =
    true≢false (sym (list_any_at (λ e. int_eq e.number z) es k d lt
    ((Decides-int_eq (get_or es k d).number z).1 same)) ∙ none)

pub distinct_added : (es : List Entry) (e : Entry) → AreDistinct es → occurs e.number es ≡ false
    → AreDistinct (es ++ e ∷ [])
distinct_added es e distinct none i j d li lj same = by (cases_lt i (length es)) (cases_lt j (length es))
  where
    len : length (es ++ e ∷ []) ≡ length es + 1
    len = length-append es (e ∷ [])

    old : (k : ℕ) → k < length es → get_or (es ++ e ∷ []) k d ≡ get_or es k d
    old k lt = get_or_append_left es (e ∷ []) d k lt

    new : (k : ℕ) → length es ≤ k → k < length (es ++ e ∷ []) → get_or (es ++ e ∷ []) k d ≡ e
    new k ge lt = get_or_push es e d k (omega (arith, ge, lt, len))

    by : (i < length es) ⊎ (length es ≤ i) → (j < length es) ⊎ (length es ≤ j) → i ≡ j
    by (inl a) (inl b) =
        distinct i j d a b
        (ap (λ (x : Entry). x.number) (sym (old i a)) ∙ same ∙ ap (λ (x : Entry). x.number) (old j b))
    by (inl a) (inr b) =
        absurd (other_number es e.number i d none a
        (ap (λ (x : Entry). x.number) (sym (old i a)) ∙ same ∙ ap (λ (x : Entry). x.number) (new j b lj)))
    by (inr a) (inl b) =
        absurd (other_number es e.number j d none b
        (ap (λ (x : Entry). x.number) (sym (old j b)) ∙ sym same ∙ ap (λ (x : Entry). x.number) (new i a li)))
    by (inr a) (inr b) = omega (arith, a, b, li, lj, len)

missing : (es : List Entry) (last z : ℤ) → AreRising es last → last <ℤ z → occurs z es ≡ false
missing es last z up lt = any_false (λ e. int_eq e.number z) es (λ k d inside. by k d inside _ refl)
  where
    by : (k : ℕ) (d : Entry) → k < length es → (b : Bool) → int_eq (get_or es k d).number z ≡ b
        → int_eq (get_or es k d).number z ≡ false
    by k d inside false e = e
    by k d inside true e = clash_ℤ lt (to_z (get_or es k d).number ((Decides-int_eq (get_or es k d).number z).0 e)
        (up.below k d inside))
      where
        to_z : (n : ℤ) → n ≡ z → n ≤ℤ last → z ≤ℤ last
        to_z n same le = subst (λ (m : ℤ). m ≤ℤ last) same le

still_below : (a b c : ℤ) → a ≤ℤ b → b <ℤ c → a ≤ℤ c
still_below a b c le lt =
    by_lt_z c a (λ more. absurd (<ℤ_irrefl (int_chain c b c (<ℤ-≤ℤ_trans more le) lt))) (λ fine. fine)

rising_one : (e : Entry) → e.is_seen ≡ false → AreRising ([] ++ e ∷ []) e.number
rising_one e off = record {
  distinct = λ i j d li lj same. omega (arith, li, lj);
  unseen = λ z. ap (λ (b : Bool). (int_eq e.number z && b) || false) off ∙ off_or (int_eq e.number z);
  below = λ k d lt. here k d (omega (arith, lt));
}
  where
    off_or : (a : Bool) → ((a && false) || false) ≡ false
    off_or true = refl
    off_or false = refl

    here : (k : ℕ) (d : Entry) → k ≡ 0 → (get_or (e ∷ []) k d).number ≤ℤ e.number
    here k d zero_is = subst (λ (n : ℕ). (get_or (e ∷ []) n d).number ≤ℤ e.number) (sym zero_is) (≤ℤ_refl e.number)

rising_more : (es : List Entry) (last : ℤ) (e : Entry) → AreRising es last → last <ℤ e.number → e.is_seen ≡ false
    → AreRising (es ++ e ∷ []) e.number
rising_more es last e up lt off = record {
  distinct = distinct_added es e up.distinct (missing es last e.number up lt);
  unseen =
      λ z. list_any-append (λ x. int_eq x.number z && x.is_seen) es (e ∷ [])
      ∙ turned (was_seen es z) (int_eq e.number z && e.is_seen)
      ∙ ap (λ (b : Bool). b || was_seen es z) (and_right (int_eq e.number z) e.is_seen off)
      ∙ up.unseen z;
  below = λ k d inside. here k d inside (cases_lt k (length es));
}
  where
    here : (k : ℕ) (d : Entry) → k < length (es ++ e ∷ []) → (k < length es) ⊎ (length es ≤ k)
        → (get_or (es ++ e ∷ []) k d).number ≤ℤ e.number
    here k d inside (inl old) =
        subst (λ (x : Entry). x.number ≤ℤ e.number) (sym (get_or_append_left es (e ∷ []) d k old))
        (still_below (get_or es k d).number last e.number (up.below k d old) lt)
    here k d inside (inr new) =
        subst (λ (x : Entry). x.number ≤ℤ e.number)
        (sym (get_or_push es e d k (omega (arith, new, inside, length-append es (e ∷ [])))))
        (≤ℤ_refl e.number)

pub had_at : (es : List Entry) (i : ℕ) (z : ℤ) (d : Entry) → AreDistinct es → IsAt z i es
    → (get_or es i d).is_seen ≡ was_seen es z
had_at es i z d distinct here =
    had_number es i z (get_or es i d).is_seen distinct here
    (λ e. ap (λ (x : Entry). x.is_seen) (get_or_default es i e d here.0))

pub rising_first : (es new : List Entry) (n : ℤ) (e : Entry) → es ≡ [] → e.number ≡ n → e.is_seen ≡ false
    → new ≡ es ++ e ∷ [] → AreRising new n
rising_first es new n e none same off is =
    subst (λ (xs : List Entry). AreRising xs n) (sym (is ∙ ap (λ (xs : List Entry). xs ++ e ∷ []) none))
    (subst (λ (z : ℤ). AreRising ([] ++ e ∷ []) z) same (rising_one e off))

pub rising_pushed : (es new : List Entry) (last n : ℤ) (e : Entry) → AreRising es last → last <ℤ n → e.number ≡ n
    → e.is_seen ≡ false → new ≡ es ++ e ∷ [] → AreRising new n
rising_pushed es new last n e up lt same off is =
    subst (λ (xs : List Entry). AreRising xs n) (sym is)
    (subst (λ (z : ℤ). AreRising (es ++ e ∷ []) z) same
    (rising_more es last e up (subst (λ (z : ℤ). last <ℤ z) (sym same) lt) off))
