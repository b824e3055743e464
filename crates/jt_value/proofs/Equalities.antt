-- The equality of lists, item by item, and of maps, key by key.
use Rattle.std.proofs.Common.{◌≡◌, ◌≢◌, ℕ, zero, suc, ◌+◌, ◌<◌, Bool, true, false, cond, ◌&&◌, List, [], ◌∷◌, length}
use Rattle.std.proofs.Common.{take, get_or, Option, Some, refl, sym, ap, ◌∙◌, subst, true≢false, arith}
use Rattle.std.specs.Option.{option_map_or}
use Rattle.std.specs.Str.{bytes_eq}
use Rattle.std.specs.Cmp.Lexicographic.{nat_list_eq_equiv, same_text}
use Rattle.std.proofs.lemmas.Bool.{and_from}
use Rattle.jt_value.specs.Tree.{Tree, Entries, no_entries, entry}
use Rattle.jt_value.specs.View.{view, items_view, entries_view}
use Rattle.jt_value.specs.Entries.{entry_of, has_key, all_keys, same_keys}
use Rattle.jt_value.specs.Equality.{equal, equal_items, equal_at}
use Rattle.jt_value.specs.declared.value.Value.{Value}
use Rattle.jt_value.proofs.Lists.{Pair, more_entries, entries_view-take_more}

and_false : (a : Bool) → (a && false) ≡ false
and_false true = refl
and_false false = refl

pub left_true : (a b : Bool) → (a && b) ≡ true → a ≡ true
left_true true b h = refl
left_true false b h = h

pub right_true : (a b : Bool) → (a && b) ≡ true → b ≡ true
right_true true b h = h
right_true false b h = absurd (true≢false (sym h))

pub reflexive : (k : List ℕ) → bytes_eq k k ≡ true
reflexive k = nat_list_eq_equiv.refl k

-- Lists of different lengths are unequal.
pub items_differ : (vs ws : List Value) → length vs ≢ length ws → equal_items (items_view vs) (items_view ws) ≡ false
items_differ [] [] ne = absurd (ne refl)
items_differ [] (w ∷ ws) ne = refl
items_differ (v ∷ vs) [] ne = refl
items_differ (v ∷ vs) (w ∷ ws) ne =
    ap (λ b. equal (view v) (view w) && b) (items_differ vs ws (λ e. ne (ap suc e)))
    ∙ and_false (equal (view v) (view w))

-- `equal_at` compares the first value of the key with the value `other`.
pub equal_at-entry_of : (es : Entries) (k : List ℕ) (other : Option Tree)
    → equal_at es k other ≡ option_map_or (λ t. option_map_or (equal t) other false) (entry_of k es) false
equal_at-entry_of no_entries k other = refl
equal_at-entry_of (entry l t es) k other = by (bytes_eq l k) (equal_at-entry_of es k other)
  where
    by : (b : Bool)
        → equal_at es k other ≡ option_map_or (λ u. option_map_or (equal u) other false) (entry_of k es) false
        → cond b (option_map_or (equal t) other false) (equal_at es k other)
        ≡ option_map_or (λ u. option_map_or (equal u) other false) (cond b (Some t) (entry_of k es)) false
    by true rest = refl
    by false rest = rest

-- A test holds of all keys with one more entry at the end if it holds of all keys and of the new
-- one.
all_keys-more : (test : List ℕ → Bool) (es : Entries) (k : List ℕ) (u : Tree) → all_keys test es ≡ true → test k ≡ true
    → all_keys test (more_entries es k u) ≡ true
all_keys-more test no_entries k u h p = and_from (test k) true p refl
all_keys-more test (entry l t es) k u h p =
    and_from (test l) (all_keys test (more_entries es k u)) (left_true (test l) (all_keys test es) h)
    (all_keys-more test es k u (right_true (test l) (all_keys test es) h) p)

-- A test of all keys holds of each key of the map.
pub holds_of : (test : List ℕ → Bool) (es : Entries) (k : List ℕ) → all_keys test es ≡ true → has_key k es ≡ true
    → test k ≡ true
holds_of test no_entries k h there = absurd (true≢false (sym there))
holds_of test (entry l t es) k h there =
    by (bytes_eq l k) refl there (holds_of test es k (right_true (test l) (all_keys test es) h))
  where
    by : (b : Bool) → bytes_eq l k ≡ b → cond b true (has_key k es) ≡ true → (has_key k es ≡ true → test k ≡ true)
        → test k ≡ true
    by true e p rest = subst (λ n. test n ≡ true) (same_text l k (sym e)) (left_true (test l) (all_keys test es) h)
    by false e p rest = rest p

-- A test that holds of each key of the map holds of all keys.
pub all_of : (test : List ℕ → Bool) (es : Entries) → ((k : List ℕ) → has_key k es ≡ true → test k ≡ true)
    → all_keys test es ≡ true
all_of test no_entries h = refl
all_of test (entry l t es) h =
    and_from (test l) (all_keys test es) (h l (ap (λ b. cond b true (has_key l es)) (reflexive l)))
    (all_of test es (λ k there. h k (later (bytes_eq l k) (has_key k es) there)))
  where
    later : (a b : Bool) → b ≡ true → cond a true b ≡ true
    later true b p = refl
    later false b p = p

-- A test of the first keys extends to one more key, if that key occurs before or passes the test.
pub passes : (test : List ℕ → Bool) (xs : List Pair) (i : ℕ) (e : Pair) → i < length xs → e ≡ get_or xs i e
    → all_keys test (entries_view (take i xs)) ≡ true
    → (has_key e.0 (entries_view (take i xs)) ≡ false → test e.0 ≡ true)
    → all_keys test (entries_view (take (i + 1) xs)) ≡ true
passes test xs i e lt is before new =
    ap (all_keys test) (entries_view-take_more xs i e lt is)
    ∙ all_keys-more test (entries_view (take i xs)) e.0 (view e.1) before
    (by (has_key e.0 (entries_view (take i xs))) refl)
  where
    by : (b : Bool) → has_key e.0 (entries_view (take i xs)) ≡ b → test e.0 ≡ true
    by true p = holds_of test (entries_view (take i xs)) e.0 before p
    by false p = new p

-- A key that fails the test makes the test of all keys fail.
pub fails : (test : List ℕ → Bool) (xs : List Pair) (i : ℕ) (e : Pair) → i < length xs → e ≡ get_or xs i e
    → test e.0 ≡ false → all_keys test (entries_view xs) ≡ false
fails test [] i e lt is p = absurd (omega arith)
fails test (x ∷ xs) zero e lt is p =
    ap (λ b. b && all_keys test (entries_view xs)) (ap (λ (y : Pair). test y.0) (sym is) ∙ p)
fails test (x ∷ xs) (suc i) e lt is p =
    ap (λ b. test x.0 && b) (fails test xs i e (omega arith) is p) ∙ and_false (test x.0)

-- The first entry of a key has the key's value.
pub entry_of-first : (xs : List Pair) (i : ℕ) (e : Pair) → i < length xs → e ≡ get_or xs i e
    → has_key e.0 (entries_view (take i xs)) ≡ false
    → entry_of e.0 (entries_view xs) ≡ Some (view e.1)
entry_of-first [] i e lt is p = absurd (omega arith)
entry_of-first (x ∷ xs) zero e lt is p =
    subst (λ (y : Pair). entry_of y.0 (entries_view (x ∷ xs)) ≡ Some (view y.1)) (sym is)
    (ap (λ b. cond b (Some (view x.1)) (entry_of x.0 (entries_view xs))) (reflexive x.0))
entry_of-first (x ∷ xs) (suc i) e lt is p =
    by (bytes_eq x.0 e.0) p (entry_of-first xs i e (omega arith) is)
  where
    by : (b : Bool) → cond b true (has_key e.0 (entries_view (take i xs))) ≡ false
        → (has_key e.0 (entries_view (take i xs)) ≡ false
        → entry_of e.0 (entries_view xs) ≡ Some (view e.1))
        → cond b (Some (view x.1)) (entry_of e.0 (entries_view xs)) ≡ Some (view e.1)
    by true q rest = absurd (true≢false q)
    by false q rest = rest q

-- At the first entry of a key, `equal_at` compares the entry's value.
pub equal_at-first : (xs : List Pair) (es : Entries) → entries_view xs ≡ es → (i : ℕ) (e : Pair) → i < length xs
    → e ≡ get_or xs i e → has_key e.0 (entries_view (take i xs)) ≡ false
    → (other : Option Tree) → equal_at es e.0 other ≡ option_map_or (equal (view e.1)) other false
equal_at-first xs es same i e lt is p other =
    ap (λ fs. equal_at fs e.0 other) (sym same)
    ∙ equal_at-entry_of (entries_view xs) e.0 other
    ∙ ap (λ o. option_map_or (λ t. option_map_or (equal t) other false) o false) (entry_of-first xs i e lt is p)

-- ---- Maps with equal keys at equal indices
pub same_length : (xs ys : List Pair) → same_keys (entries_view xs) (entries_view ys) ≡ true → length xs ≡ length ys
same_length [] [] h = refl
same_length [] (y ∷ ys) h = absurd (true≢false (sym h))
same_length (x ∷ xs) [] h = absurd (true≢false (sym h))
same_length (x ∷ xs) (y ∷ ys) h =
    ap suc (same_length xs ys
    (right_true (bytes_eq x.0 y.0) (same_keys (entries_view xs) (entries_view ys)) h))

pub other_length : (xs ys : List Pair) → length xs ≢ length ys → same_keys (entries_view xs) (entries_view ys) ≡ false
other_length xs ys ne = by (same_keys (entries_view xs) (entries_view ys)) refl
  where
    by : (b : Bool) → same_keys (entries_view xs) (entries_view ys) ≡ b → b ≡ false
    by true e = absurd (ne (same_length xs ys e))
    by false e = refl

same_has : (es fs : Entries) (k : List ℕ) → same_keys es fs ≡ true → has_key k es ≡ has_key k fs
same_has no_entries no_entries k h = refl
same_has no_entries (entry l u fs) k h = absurd (true≢false (sym h))
same_has (entry l t es) no_entries k h = absurd (true≢false (sym h))
same_has (entry l t es) (entry m u fs) k h =
    ap (λ n. cond (bytes_eq n k) true (has_key k es))
    (same_text l m (sym (left_true (bytes_eq l m) (same_keys es fs) h)))
    ∙ ap (λ b. cond (bytes_eq m k) true b) (same_has es fs k (right_true (bytes_eq l m) (same_keys es fs) h))

pub same_keys-all : (es fs : Entries) → same_keys es fs ≡ true → all_keys (λ k. has_key k es) fs ≡ true
same_keys-all es fs h = all_of (λ k. has_key k es) fs (λ k there. same_has es fs k h ∙ there)

-- Let two maps have equal keys at equal indices. If an entry of the first map is the first of its
-- key, so is the entry of the second map at that index.
pub same_first : (xs ys : List Pair) (i : ℕ) (e f : Pair) → same_keys (entries_view xs) (entries_view ys) ≡ true
    → i < length xs → e ≡ get_or xs i e → f ≡ get_or ys i f
    → has_key e.0 (entries_view (take i xs)) ≡ false
    → entry_of e.0 (entries_view ys) ≡ Some (view f.1)
same_first [] ys i e f h lt is at p = absurd (omega arith)
same_first (x ∷ xs) [] i e f h lt is at p = absurd (true≢false (sym h))
same_first (x ∷ xs) (y ∷ ys) zero e f h lt is at p =
    let same : bytes_eq y.0 e.0 ≡ true =
    subst (λ (z : Pair). bytes_eq y.0 z.0 ≡ true) (sym is)
    (nat_list_eq_equiv.symm y.0 x.0
    ∙ left_true (bytes_eq x.0 y.0) (same_keys (entries_view xs) (entries_view ys)) h) in
    ap (λ b. cond b (Some (view y.1)) (entry_of e.0 (entries_view ys))) same
    ∙ ap (λ (z : Pair). Some (view z.1)) (sym at)
same_first (x ∷ xs) (y ∷ ys) (suc i) e f h lt is at p =
    let same = same_text x.0 y.0
    (sym
    (left_true (bytes_eq x.0 y.0) (same_keys (entries_view xs) (entries_view ys)) h)) in
    by (bytes_eq y.0 e.0)
    (subst
    (λ n. cond (bytes_eq n e.0) true (has_key e.0 (entries_view (take i xs))) ≡ false)
    same p)
    (same_first xs ys i e f
    (right_true (bytes_eq x.0 y.0) (same_keys (entries_view xs) (entries_view ys)) h)
    (omega arith) is at)
  where
    by : (b : Bool) → cond b true (has_key e.0 (entries_view (take i xs))) ≡ false
        → (has_key e.0 (entries_view (take i xs)) ≡ false
        → entry_of e.0 (entries_view ys) ≡ Some (view f.1))
        → cond b (Some (view y.1)) (entry_of e.0 (entries_view ys)) ≡ Some (view f.1)
    by true q rest = absurd (true≢false q)
    by false q rest = rest q

-- At the index of a key's first entry in both maps, `equal_at` compares the two values.
pub equal_at-same : (xs ys : List Pair) (es : Entries) → entries_view xs ≡ es → (i : ℕ) (e f : Pair)
    → same_keys es (entries_view ys) ≡ true → i < length xs → e ≡ get_or xs i e → f ≡ get_or ys i f
    → has_key e.0 (entries_view (take i xs)) ≡ false
    → equal_at es e.0 (entry_of e.0 (entries_view ys)) ≡ equal (view e.1) (view f.1)
equal_at-same xs ys es same i e f h lt is at p =
    equal_at-first xs es same i e lt is p (entry_of e.0 (entries_view ys))
    ∙ ap (λ o. option_map_or (equal (view e.1)) o false)
    (same_first xs ys i e f (ap (λ gs. same_keys gs (entries_view ys)) same ∙ h) lt is at p)

-- A found first value in the form that the proof of equality uses.
pub found : (t : Tree) (k m : List ℕ) (fs : Entries) (b : Bool) → b ≡ option_map_or (equal t) (entry_of k fs) false
    → k ≡ m → option_map_or (equal t) (entry_of m fs) false ≡ b
found t k m fs b h p = ap (λ n. option_map_or (equal t) (entry_of n fs) false) (sym p) ∙ sym h

pub and_known : (a b : Bool) → b ≡ true → a ≡ (a && b)
and_known true b h = sym h
and_known false b h = refl
