-- The laws of maps whose entries are visited in the order of their keys.
use Rattle.std.proofs.Common.{Bor, ◌≡◌, ℕ, zero, suc, Bool, true, false, cond, ◌&&◌, List, [], ◌∷◌, length, drop}
use Rattle.std.proofs.Common.{get_or, Option, Some, None, String, Global, string_bytes, string_cmp, refl, sym, ap}
use Rattle.std.proofs.Common.{◌∙◌, subst, true≢false, arith}
use Rattle.std.specs.Prelude.{◌<◌, not, is_some, option_map, IfSome}
use Rattle.std.specs.Slice.{IsItemAt}
use Rattle.std.specs.Str.{bytes_eq}
use Rattle.std.specs.List.{All, AllByRecursion}
use Rattle.std.specs.List.Sorted.{IsStrictlySortedBy}
use Rattle.std.specs.Map.{lookup, keys_of, values_of}
use Rattle.std.specs.BTreeMap.{BTreeMap, get_by_text, is_at, values, IsOrdered}
use Rattle.std.specs.declared.cmp.Ordering.TheVariants.{Less}
use Rattle.std.specs.Ordering.{nat_cmp, is_lt}
use Rattle.std.specs.Cmp.Lexicographic.{slice_cmp, same_text}
use Rattle.std.specs.String.{string_cmp_total}
use Rattle.std.proofs.lemmas.Map.Views.{All-found}
use Rattle.std.proofs.lemmas.Bool.{and_from}
use Rattle.jt_value.specs.Tree as tree
use Rattle.jt_value.specs.Tree.{Tree, Entries, no_entries, entry, size, entries_size}
use Rattle.jt_value.specs.Entries.{entry_of, index_of, has_key, keys, stands_before, ascends}
use Rattle.jt_value.specs.Equality.{equal, agree, AgreeAtEachKey}
use Rattle.jt_value.specs.internal.InOrder.{IsInOrder, HasKeyCount, first_and, entries_at}
use Rattle.jt_value.specs.View.{view, entries_view}
use Rattle.jt_value.proofs.AscendingKeys.{before_all, not_itself, firsts_same, own}
use Rattle.jt_value.proofs.EntryLaws.{has_key-entry_of, entry_of-own, missing, equal-agree, agree-equal}
use Rattle.jt_value.proofs.Equalities.{reflexive, left_true, right_true}
use Rattle.jt_value.proofs.KeyIndices.{has_key-index_of, size_lt}
use Rattle.jt_value.proofs.Lists.{Pair}
use Rattle.jt_value.proofs.ContextLookup.{same_key}

-- True if both lists of entries have equal keys and equal values at each index.
abbrev pub alike : Entries → Entries → Bool
alike no_entries no_entries = true
alike (entry k t es) (entry l u fs) = bytes_eq k l && (equal t u && alike es fs)
alike es fs = false

-- Entries that follow an equal key and an equal value are alike exactly if the whole lists are.
pub alike_behind : {es fs gs hs : Entries} (e f : Pair) → es ≡ entry e.0 (view e.1) gs
    → fs ≡ entry f.0 (view f.1) hs → false ≡ not (bytes_eq e.0 f.0) → true ≡ equal (view e.1) (view f.1)
    → alike gs hs ≡ alike es fs
alike_behind {es} {fs} {gs} {hs} e f first second keys values =
    sym (ap (λ cs. alike cs fs) first ∙ ap (alike (entry e.0 (view e.1) gs)) second
    ∙ ap (λ b. b && (equal (view e.1) (view f.1) && alike gs hs)) (same (bytes_eq e.0 f.0) keys)
    ∙ ap (λ b. b && alike gs hs) (sym values))
  where
    same : (b : Bool) → false ≡ not b → b ≡ true
    same true h = refl
    same false h = absurd (true≢false (sym h))

-- ---- Entries that are alike agree at each key

pub alike-agree : (es fs : Entries) → alike es fs ≡ true → AgreeAtEachKey es fs
alike-agree no_entries no_entries h x = refl
alike-agree no_entries (entry l u fs) h x = absurd (true≢false (sym h))
alike-agree (entry k t es) no_entries h x = absurd (true≢false (sym h))
alike-agree (entry k t es) (entry l u fs) h x =
    let same = same_text k l (sym (left_true (bytes_eq k l) (equal t u && alike es fs) h)) in
    let rest = right_true (bytes_eq k l) (equal t u && alike es fs) h in
    subst (λ n. agree (entry_of x (entry k t es)) (entry_of x (entry n u fs)) ≡ true) same
    (by (bytes_eq k x) (left_true (equal t u) (alike es fs) rest)
    (alike-agree es fs (right_true (equal t u) (alike es fs) rest) x))
  where
    by : (b : Bool) → equal t u ≡ true → agree (entry_of x es) (entry_of x fs) ≡ true
        → agree (cond b (Some t) (entry_of x es)) (cond b (Some u) (entry_of x fs)) ≡ true
    by true e r = e
    by false e r = r

-- ---- If keys ascend, entries that agree at each key are alike

both_there : (o p : Option Tree) → agree o p ≡ true → is_some o ≡ is_some p
both_there None None h = refl
both_there None (Some u) h = absurd (true≢false (sym h))
both_there (Some t) None h = absurd (true≢false (sym h))
both_there (Some t) (Some u) h = refl

same_keys_there : (es fs : Entries) → AgreeAtEachKey es fs → (x : List ℕ) → has_key x es ≡ has_key x fs
same_keys_there es fs h x =
    has_key-entry_of x es ∙ both_there (entry_of x es) (entry_of x fs) (h x) ∙ sym (has_key-entry_of x fs)

-- The first of ascending keys does not occur again.
not_behind : (k : List ℕ) (t : Tree) (es : Entries) → ascends (entry k t es) ≡ true → (x : List ℕ) → bytes_eq k x ≡ true
    → entry_of x es ≡ None
not_behind k t es a x e = missing (entry_of x es) (sym (has_key-entry_of x es) ∙ by (has_key x es) refl)
  where
    by : (b : Bool) → has_key x es ≡ b → b ≡ false
    by true p =
        let less = before_all k es (left_true (stands_before k es) (ascends es) a)
        (right_true (stands_before k es) (ascends es) a) x p in
        not_itself k (subst (λ y. slice_cmp nat_cmp k y ≡ Less) (sym (same_text k x (sym e))) less)
    by false p = refl

one_more : (k : List ℕ) (t u : Tree) (es fs : Entries) → ascends (entry k t es) ≡ true → ascends (entry k u fs) ≡ true
    → AgreeAtEachKey (entry k t es) (entry k u fs)
    → (AgreeAtEachKey es fs → alike es fs ≡ true) → alike (entry k t es) (entry k u fs) ≡ true
one_more k t u es fs a b h rest =
    and_from (bytes_eq k k) (equal t u && alike es fs) (reflexive k)
    (and_from (equal t u) (alike es fs) values (rest behind))
  where
    values : equal t u ≡ true
    values =
        sym (ap (λ o. agree o (entry_of k (entry k u fs))) (entry_of-own k t es)
        ∙ ap (agree (Some t)) (entry_of-own k u fs))
        ∙ h k

    behind : AgreeAtEachKey es fs
    behind x = by (bytes_eq k x) refl (h x)
      where
        by : (c : Bool) → bytes_eq k x ≡ c
            → agree (cond c (Some t) (entry_of x es)) (cond c (Some u) (entry_of x fs)) ≡ true
            → agree (entry_of x es) (entry_of x fs) ≡ true
        by true e g =
            ap (λ o. agree o (entry_of x fs)) (not_behind k t es a x e) ∙ ap (agree None) (not_behind k u fs b x e)
        by false e g = g

pub agree-alike : (es fs : Entries) → ascends es ≡ true → ascends fs ≡ true → AgreeAtEachKey es fs → alike es fs ≡ true
agree-alike no_entries no_entries a b h = refl
agree-alike no_entries (entry l u fs) a b h =
    absurd (true≢false (sym (subst (λ o. agree None o ≡ true) (entry_of-own l u fs) (h l))))
agree-alike (entry k t es) no_entries a b h =
    absurd (true≢false (sym (subst (λ o. agree o None ≡ true) (entry_of-own k t es) (h k))))
agree-alike (entry k t es) (entry l u fs) a b h =
    let there = same_keys_there (entry k t es) (entry l u fs) h in
    let same = firsts_same k l t u es fs a b (sym (there k) ∙ own k es) (there l ∙ own l fs) in
    subst (λ n. alike (entry k t es) (entry n u fs) ≡ true) same
    (one_more k t u es fs a (subst (λ n. ascends (entry n u fs) ≡ true) (sym same) b)
    (subst (λ n. AgreeAtEachKey (entry k t es) (entry n u fs)) (sym same) h)
    (λ g. agree-alike es fs (right_true (stands_before k es) (ascends es) a)
    (right_true (stands_before l fs) (ascends fs) b) g))

-- ---- Two maps are equal exactly if their entries in order are alike

pub alike_equal : (os ps es fs : Entries) → IsInOrder os es → IsInOrder ps fs
    → alike os ps ≡ equal (tree.map es) (tree.map fs)
alike_equal os ps es fs i j = by (alike os ps) refl (equal (tree.map es) (tree.map fs)) refl
  where
    same : (k : List ℕ) → agree (entry_of k os) (entry_of k ps) ≡ agree (entry_of k es) (entry_of k fs)
    same k = ap (λ o. agree o (entry_of k ps)) (i.1 k) ∙ ap (agree (entry_of k es)) (j.1 k)

    by : (a : Bool) → alike os ps ≡ a → (b : Bool) → equal (tree.map es) (tree.map fs) ≡ b → a ≡ b
    by true p true q = refl
    by true p false q = absurd (true≢false (sym (agree-equal es fs (λ k. sym (same k) ∙ alike-agree os ps p k)) ∙ q))
    by false p true q = absurd (true≢false (sym (agree-alike os ps i.0 j.0 (λ k. same k ∙ equal-agree es fs q k)) ∙ p))
    by false p false q = refl

-- ---- The stored indices, in the order of their keys

-- Holds if the entry at the index is the first one of the key.
abbrev IsFirst : List Pair → List ℕ → ℕ → Type 0
IsFirst xs k p =
    (t : Tree) × ((rest : Entries) → first_and (drop p xs) rest ≡ entry k t rest)
    × (entry_of k (entries_view xs) ≡ Some t)

first_at : (xs : List Pair) (k : List ℕ) (p : ℕ) → index_of k (entries_view xs) ≡ Some p → IsFirst xs k p
first_at [] k p h = absurd (true≢false (sym (ap is_some h)))
first_at (x ∷ xs) k p h = by (bytes_eq x.0 k) refl (index_of k (entries_view xs)) h (first_at xs k)
  where
    by : (b : Bool) → bytes_eq x.0 k ≡ b → (o : Option ℕ) → cond b (Some 0) (option_map suc o) ≡ Some p
        → ((q : ℕ) → o ≡ Some q → IsFirst xs k q) → IsFirst (x ∷ xs) k p
    by true e o h rest =
        let zeroth : 0 ≡ p = cc in
        subst (IsFirst (x ∷ xs) k) zeroth (
          view x.1,
          λ r. ap (λ n. entry n (view x.1) r) (same_text x.0 k (sym e)),
          ap (λ b. cond b (Some (view x.1)) (entry_of k (entries_view xs))) e,
        )
    by false e None h rest = absurd (true≢false (sym (ap is_some h)))
    by false e (Some q) h rest =
        let next : suc q ≡ p = cc in
        let there = rest q refl in
        subst (IsFirst (x ∷ xs) k) next
        (there.0, there.1, ap (λ b. cond b (Some (view x.1)) (entry_of k (entries_view xs))) e ∙ there.2)

abbrev Keeps : List Pair → List (String Global × ℕ) → Type 0
Keeps xs ms = All (λ m. index_of (string_bytes m.0) (entries_view xs) ≡ Some m.1) ms

behind : (xs : List Pair) (m : String Global × ℕ) (ms : List (String Global × ℕ)) → Keeps xs (m ∷ ms) → Keeps xs ms
behind xs m ms h i d l = h (suc i) d (omega arith)

first_kept : (xs : List Pair) (m : String Global × ℕ) (ms : List (String Global × ℕ)) → Keeps xs (m ∷ ms)
    → IsFirst xs (string_bytes m.0) m.1
first_kept xs m ms h = first_at xs (string_bytes m.0) m.1 (h zero m (omega arith))

stands_before_kept : (xs : List Pair) (n : String Global) (ms : List (String Global × ℕ)) → Keeps xs ms
    → AllByRecursion (λ y. string_cmp n y ≡ Less) (keys_of ms)
    → stands_before (string_bytes n) (entries_at xs (values_of ms)) ≡ true
stands_before_kept xs n [] h s = refl
stands_before_kept xs n (m ∷ ms) h s =
    ap (stands_before (string_bytes n)) ((first_kept xs m ms h).1 (entries_at xs (values_of ms))) ∙ ap is_lt s.0

kept_ascends : (xs : List Pair) (ms : List (String Global × ℕ)) → Keeps xs ms
    → IsStrictlySortedBy string_cmp (keys_of ms) → ascends (entries_at xs (values_of ms)) ≡ true
unfolding IsStrictlySortedBy
kept_ascends xs [] h s = refl
kept_ascends xs (m ∷ ms) h s =
    ap ascends ((first_kept xs m ms h).1 (entries_at xs (values_of ms)))
    ∙ and_from (stands_before (string_bytes m.0) (entries_at xs (values_of ms)))
    (ascends (entries_at xs (values_of ms)))
    (stands_before_kept xs m.0 ms (behind xs m ms h) s.0) (kept_ascends xs ms (behind xs m ms h) s.1)

-- A key that is stored has its first value at its index.
kept_entry : (xs : List Pair) (ms : List (String Global × ℕ)) → Keeps xs ms → (k : List ℕ)
    → entry_of k (entries_at xs (values_of ms))
    ≡ cond (is_some (lookup (is_at (λ n. slice_cmp nat_cmp k (string_bytes n))) ms)) (entry_of k (entries_view xs)) None
kept_entry xs [] h k = refl
kept_entry xs (m ∷ ms) h k =
    let first = first_kept xs m ms h in
    ap (entry_of k) (first.1 (entries_at xs (values_of ms)))
    ∙ by (bytes_eq (string_bytes m.0) k) refl first.0 first.2 (kept_entry xs ms (behind xs m ms h) k)
    ∙ sym (ap (λ b. cond (is_some (cond b (Some m.1) (lookup (is_at (λ n. slice_cmp nat_cmp k (string_bytes n))) ms)))
    (entry_of k (entries_view xs)) None)
    (same_key k (string_bytes m.0)))
  where
    by : (b : Bool) → bytes_eq (string_bytes m.0) k ≡ b → (t : Tree)
        → entry_of (string_bytes m.0) (entries_view xs) ≡ Some t
        → entry_of k (entries_at xs (values_of ms))
        ≡ cond (is_some (lookup (is_at (λ n. slice_cmp nat_cmp k (string_bytes n))) ms)) (entry_of k (entries_view xs))
        None
        → cond b (Some t) (entry_of k (entries_at xs (values_of ms)))
        ≡ cond (is_some (cond b (Some m.1) (lookup (is_at (λ n. slice_cmp nat_cmp k (string_bytes n))) ms)))
        (entry_of k (entries_view xs)) None
    by true e t is rest = sym is ∙ ap (λ n. entry_of n (entries_view xs)) (same_text (string_bytes m.0) k (sym e))
    by false e t is rest = rest

keeps : (xs : List Pair) (indices : BTreeMap (String Global) ℕ) → IsOrdered string_cmp indices
    → ((k : List ℕ) → get_by_text indices k ≡ index_of k (entries_view xs)) → Keeps xs indices.entries
keeps xs indices s h i d l =
    sym (h (string_bytes (get_or indices.entries i d).0)) ∙ All-found string_cmp_total indices s i d l

pub kept_in_order : (xs : List Pair) (indices : BTreeMap (String Global) ℕ) → IsOrdered string_cmp indices
    → ((k : List ℕ) → get_by_text indices k ≡ index_of k (entries_view xs))
    → IsInOrder (entries_at xs (values indices)) (entries_view xs)
kept_in_order xs indices s h = (
  kept_ascends xs indices.entries (keeps xs indices s h) s,
  λ k. kept_entry xs indices.entries (keeps xs indices s h) k
      ∙ ap (λ b. cond b (entry_of k (entries_view xs)) None)
      (ap is_some (h k) ∙ sym (has_key-index_of k (entries_view xs)) ∙ has_key-entry_of k (entries_view xs))
      ∙ whole (entry_of k (entries_view xs)),
)
  where
    whole : (o : Option Tree) → cond (is_some o) o None ≡ o
    whole None = refl
    whole (Some t) = refl

-- The number of stored indices is that of the different keys.
count_of : (xs : List Pair) (ms : List (String Global × ℕ)) → Keeps xs ms
    → length (keys (entries_at xs (values_of ms))) ≡ length ms
count_of xs [] h = refl
count_of xs (m ∷ ms) h =
    ap (λ es. length (keys es)) ((first_kept xs m ms h).1 (entries_at xs (values_of ms)))
    ∙ ap suc (count_of xs ms (behind xs m ms h))

pub kept_count : (xs : List Pair) (indices : BTreeMap (String Global) ℕ) → IsOrdered string_cmp indices
    → ((k : List ℕ) → get_by_text indices k ≡ index_of k (entries_view xs))
    → HasKeyCount (length indices.entries) (entries_view xs)
kept_count xs indices s h = (
  entries_at xs (values indices),
  kept_in_order xs indices s h,
  count_of xs indices.entries (keeps xs indices s h),
)

-- ---- The value that comes next is smaller than the map

pub smaller : (xs ys : List Pair) (i : ℕ) (r : Option (Bor Pair)) → ys ≡ xs → IsItemAt ys i r
    → IfSome r (λ e. size (view e.now.1) < entries_size (entries_view xs))
smaller xs ys i None same at = tt
smaller xs ys i (Some e) same at =
    subst (λ zs. size (view e.now.1) < entries_size (entries_view zs)) same (size_lt ys i e.now at.3.0 at.1)
