-- Laws of entries whose keys ascend.
use Rattle.std.proofs.Common.{◌≡◌, ℕ, zero, suc, ◌+◌, ◌<◌, ◌≤◌, Bool, true, false, cond, ◌||◌, List, [], ◌∷◌, length}
use Rattle.std.proofs.Common.{drop, refl, sym, ap, ◌∙◌, subst, true≢false, arith}
use Rattle.std.specs.Prelude.{is_some}
use Rattle.std.specs.List.{AllByRecursion, IsDistinct, list_any}
use Rattle.std.specs.Str.{bytes_eq}
use Rattle.std.specs.declared.cmp.Ordering.{Ordering}
use Rattle.std.specs.declared.cmp.Ordering.TheVariants.{Less, Equal, Greater}
use Rattle.std.specs.Ordering.{nat_cmp, is_eq, is_lt}
use Rattle.std.specs.Cmp.Lexicographic.{slice_cmp, same_text, nat_list_eq_equiv}
use Rattle.std.proofs.lemmas.Cmp.{nat_list_cmp_total, tied_itself}
use Rattle.std.proofs.lemmas.Map.Made.{length-le_from_is_member}
use Rattle.std.proofs.lemmas.Map.Text.{is_eq-slice_cmp}
use Rattle.jt_value.specs.Tree as tree
use Rattle.jt_value.specs.Tree.{Entries, no_entries, entry}
use Rattle.jt_value.specs.Entries.{entry_of, has_key, all_keys, keys, stands_before, ascends}
use Rattle.jt_value.specs.Equality.{equal, equal_at}
use Rattle.jt_value.specs.View.{entries_view}
use Rattle.jt_value.specs.internal.InOrder.{IsInOrder, HasKeyCount}
use Rattle.jt_value.proofs.EntryLaws.{has_key-there, has_key-entry_of}
use Rattle.jt_value.proofs.Lists.{Pair}
use Rattle.jt_value.proofs.Equalities.{reflexive, left_true, right_true, holds_of}

is_less : (o : Ordering) → is_lt o ≡ true → o ≡ Less
is_less Less h = refl
is_less Equal h = absurd (true≢false (sym h))
is_less Greater h = absurd (true≢false (sym h))

-- No key precedes itself.
pub not_itself : {G : Type 0} (k : List ℕ) → slice_cmp nat_cmp k k ≡ Less → G
not_itself k h =
    absurd (let same : slice_cmp nat_cmp k k ≡ Equal = tied_itself nat_list_cmp_total k in apart (sym h ∙ same))
  where
    apart : ◌≡◌ {A = Ordering} Less Equal → ⊥
    apart e = cc

later : (a b : Bool) → b ≡ true → cond a true b ≡ true
later true b p = refl
later false b p = p

-- A text that precedes the first of ascending keys precedes all of them.
pub before_all : (k : List ℕ) (es : Entries) → stands_before k es ≡ true → ascends es ≡ true → (x : List ℕ)
    → has_key x es ≡ true → slice_cmp nat_cmp k x ≡ Less
before_all k no_entries b a x there = absurd (true≢false (sym there))
before_all k (entry l t es) b a x there =
    by (bytes_eq l x) refl there
    (before_all l es (left_true (stands_before l es) (ascends es) a) (right_true (stands_before l es) (ascends es) a) x)
  where
    first : slice_cmp nat_cmp k l ≡ Less
    first = is_less (slice_cmp nat_cmp k l) b

    by : (c : Bool) → bytes_eq l x ≡ c → cond c true (has_key x es) ≡ true
        → (has_key x es ≡ true → slice_cmp nat_cmp l x ≡ Less) → slice_cmp nat_cmp k x ≡ Less
    by true e h rest = subst (λ y. slice_cmp nat_cmp k y ≡ Less) (same_text l x (sym e)) first
    by false e h rest = nat_list_cmp_total.trans k l x first (rest h)

-- If two maps with ascending keys have equal sets of keys, their first keys are equal.
pub firsts_same : (k l : List ℕ) (t u : tree.Tree) (es fs : Entries) → ascends (entry k t es) ≡ true
    → ascends (entry l u fs) ≡ true
    → has_key k (entry l u fs) ≡ true → has_key l (entry k t es) ≡ true → k ≡ l
firsts_same k l t u es fs a b here there = by (bytes_eq k l) refl there
  where
    behind : has_key l es ≡ true → slice_cmp nat_cmp k l ≡ Less
    behind =
        before_all k es (left_true (stands_before k es) (ascends es) a) (right_true (stands_before k es) (ascends es) a)
        l

    ahead : has_key k fs ≡ true → slice_cmp nat_cmp l k ≡ Less
    ahead =
        before_all l fs (left_true (stands_before l fs) (ascends fs) b) (right_true (stands_before l fs) (ascends fs) b)
        k

    through : (c : Bool) → bytes_eq l k ≡ c → cond c true (has_key k fs) ≡ true → slice_cmp nat_cmp k l ≡ Less → k ≡ l
    through true e h less = sym (same_text l k (sym e))
    through false e h less = not_itself k (nat_list_cmp_total.trans k l k less (ahead h))

    by : (c : Bool) → bytes_eq k l ≡ c → cond c true (has_key l es) ≡ true → k ≡ l
    by true e h = same_text k l (sym e)
    by false e h = through (bytes_eq l k) refl here (behind h)

abbrev Covers : Entries → Entries → Type 0
Covers es fs = (x : List ℕ) → has_key x es ≡ true → has_key x fs ≡ true

pub own : (x : List ℕ) (es : Entries) → cond (bytes_eq x x) true (has_key x es) ≡ true
own x es = ap (λ c. cond c true (has_key x es)) (reflexive x)

-- ---- A map whose keys ascend and all occur in another map has at most its number of entries

apart_from_all : (k : List ℕ) (es : Entries) → ((x : List ℕ) → has_key x es ≡ true → slice_cmp nat_cmp k x ≡ Less)
    → AllByRecursion (λ y. bytes_eq k y ≡ false) (keys es)
apart_from_all k no_entries h = tt
apart_from_all k (entry l t es) h = (
  sym (is_eq-slice_cmp k l) ∙ ap is_eq (h l (own l es)),
  apart_from_all k es (λ x there. h x (later (bytes_eq l x) (has_key x es) there)),
)

distinct_keys : (es : Entries) → ascends es ≡ true → IsDistinct bytes_eq (keys es)
unfolding IsDistinct
distinct_keys no_entries a = tt
distinct_keys (entry k t es) a = (
  apart_from_all k es (before_all k es (left_true (stands_before k es) (ascends es) a)
      (right_true (stands_before k es) (ascends es) a)),
  distinct_keys es (right_true (stands_before k es) (ascends es) a),
)

among_keys : (k : List ℕ) (es : Entries) → list_any (bytes_eq k) (keys es) ≡ has_key k es
among_keys k no_entries = refl
among_keys k (entry l t es) =
    ap (λ b. b || list_any (bytes_eq k) (keys es)) (nat_list_eq_equiv.symm k l) ∙ by (bytes_eq l k) (among_keys k es)
  where
    by : (b : Bool) → list_any (bytes_eq k) (keys es) ≡ has_key k es
        → (b || list_any (bytes_eq k) (keys es)) ≡ cond b true (has_key k es)
    by true rest = refl
    by false rest = rest

no_more : (es fs : Entries) → ascends es ≡ true → Covers es fs → length (keys es) ≤ length (keys fs)
no_more es fs a f =
    length-le_from_is_member nat_list_eq_equiv (keys es) (keys fs) (distinct_keys es a)
    (λ q m. among_keys q fs ∙ f q (sym (among_keys q es) ∙ m))

pub as_many : (xs : List Pair) → length (keys (entries_view xs)) ≡ length xs
as_many [] = refl
as_many (x ∷ xs) = ap suc (as_many xs)

-- The keys in order are the keys of the map.
ordered_has : (os es : Entries) → IsInOrder os es → (k : List ℕ) → has_key k os ≡ has_key k es
ordered_has os es i k =
    has_key-entry_of k os ∙ ap is_some (i.1 k) ∙ sym (has_key-entry_of k es)

-- If a map has more different keys than another has entries, the two are unequal.
pub more_unequal : (es : Entries) (n : ℕ) (ys : List Pair) → HasKeyCount n es → length ys < n
    → equal (tree.map es) (tree.map (entries_view ys)) ≡ false
more_unequal es n ys count more = by (equal (tree.map es) (tree.map fs)) refl
  where
    fs : Entries
    fs = entries_view ys

    by : (c : Bool) → equal (tree.map es) (tree.map fs) ≡ c → c ≡ false
    by false h = refl
    by true h =
        let firsts = left_true (all_keys (λ k. equal_at es k (entry_of k fs)) es) (all_keys (λ k. has_key k es) fs) h in
        let few = no_more count.0 fs count.1.0 (λ k there.
        has_key-there es fs k (holds_of (λ n. equal_at es n (entry_of n fs)) es k firsts
        (sym (ordered_has count.0 es count.1 k) ∙ there))) in
        absurd (omega (arith, more, few, count.2, as_many ys))

pub fewer_unequal : (fs : Entries) (n : ℕ) (xs : List Pair) → HasKeyCount n fs → length xs < n
    → equal (tree.map (entries_view xs)) (tree.map fs) ≡ false
fewer_unequal fs n xs count fewer = by (equal (tree.map es) (tree.map fs)) refl
  where
    es : Entries
    es = entries_view xs

    by : (c : Bool) → equal (tree.map es) (tree.map fs) ≡ c → c ≡ false
    by false h = refl
    by true h =
        let covered =
        right_true (all_keys (λ k. equal_at es k (entry_of k fs)) es) (all_keys (λ k. has_key k es) fs) h in
        let few = no_more count.0 es count.1.0 (λ k there.
        holds_of (λ n. has_key n es) fs k covered (sym (ordered_has count.0 fs count.1 k) ∙ there)) in
        absurd (omega (arith, fewer, few, count.2, as_many xs))

-- The last entry alone ascends, and so does an empty list.
pub ascends_end : (xs : List Pair) (i : ℕ) → length xs ≤ i + 1 → ascends (entries_view (drop i xs)) ≡ true
ascends_end [] zero le = refl
ascends_end [] (suc i) le = refl
ascends_end (x ∷ []) zero le = refl
ascends_end (x ∷ y ∷ xs) zero le = absurd (omega (arith, le))
ascends_end (x ∷ xs) (suc i) le = ascends_end xs i (omega (arith, le))
