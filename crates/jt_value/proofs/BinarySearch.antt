-- A binary search in entries with ascending keys finds the index of a key.
use Rattle.std.proofs.Common.{◌≡◌, ℕ, zero, suc, ◌<◌, ◌≤◌, Bool, true, false, cond, List, [], ◌∷◌, length, get_or, Some}
use Rattle.std.proofs.Common.{None, refl, sym, ap, ◌∙◌, subst, arith, ⊎_elim}
use Rattle.std.specs.Prelude.{Result, Ok, Err, option_map}
use Rattle.std.specs.Result.{result_ok}
use Rattle.std.specs.Str.{bytes_eq}
use Rattle.std.specs.declared.cmp.Ordering.{Ordering}
use Rattle.std.specs.declared.cmp.Ordering.TheVariants.{Less, Equal, Greater}
use Rattle.std.specs.Ordering.{nat_cmp, is_eq, ordering_index}
use Rattle.std.specs.Cmp.Lexicographic.{slice_cmp, same_text}
use Rattle.std.specs.List.Sorted.{IsNonDecreasingBy, IsBinarySearchResult, IsSearchInRange, IsPartitionPoint}
use Rattle.std.proofs.lemmas.Bool.{cases_order}
use Rattle.std.proofs.lemmas.Cmp.{nat_list_cmp_total}
use Rattle.std.proofs.lemmas.Map.Text.{is_eq-slice_cmp}
use Rattle.jt_value.specs.Entries.{index_of, has_key, stands_before, ascends}
use Rattle.jt_value.specs.View.{entries_view}
use Rattle.jt_value.proofs.Lists.{Pair}
use Rattle.jt_value.proofs.Equalities.{reflexive, left_true, right_true}
use Rattle.jt_value.proofs.AscendingKeys.{before_all}

-- The order of an entry's key and this text.
abbrev pub against : List ℕ → Pair → Ordering
against t e = slice_cmp nat_cmp e.0 t

equal_same : (x y : List ℕ) → slice_cmp nat_cmp x y ≡ Equal → bytes_eq x y ≡ true
equal_same x y e = sym (is_eq-slice_cmp x y) ∙ ap is_eq e

less_apart : (x y : List ℕ) → slice_cmp nat_cmp x y ≡ Less → bytes_eq x y ≡ false
less_apart x y e = sym (is_eq-slice_cmp x y) ∙ ap is_eq e

greater_apart : (x y : List ℕ) → slice_cmp nat_cmp x y ≡ Greater → bytes_eq x y ≡ false
greater_apart x y e = sym (is_eq-slice_cmp x y) ∙ ap is_eq e

-- ---- The orders of ascending keys against a text ascend

rest_ascends : (x : Pair) (xs : List Pair) → ascends (entries_view (x ∷ xs)) ≡ true → ascends (entries_view xs) ≡ true
rest_ascends x xs h = right_true (stands_before x.0 (entries_view xs)) (ascends (entries_view xs)) h

among : (xs : List Pair) (j : ℕ) (d : Pair) → j < length xs
    → has_key (get_or xs j d).0 (entries_view xs) ≡ true
among [] j d l = absurd (omega arith)
among (x ∷ xs) zero d l =
    ap (λ b. cond b true (has_key x.0 (entries_view xs))) (reflexive x.0)
among (x ∷ xs) (suc j) d l =
    by (bytes_eq x.0 (get_or xs j d).0) (among xs j d (omega arith))
  where
    by : (b : Bool) → has_key (get_or xs j d).0 (entries_view xs) ≡ true
        → cond b true (has_key (get_or xs j d).0 (entries_view xs)) ≡ true
    by true h = refl
    by false h = h

-- The first key precedes each later one.
behind : (x : Pair) (xs : List Pair) → ascends (entries_view (x ∷ xs)) ≡ true → (j : ℕ) (d : Pair) → j < length xs
    → slice_cmp nat_cmp x.0 (get_or xs j d).0 ≡ Less
behind x xs h j d l =
    before_all x.0 (entries_view xs)
    (left_true (stands_before x.0 (entries_view xs)) (ascends (entries_view xs)) h) (rest_ascends x xs h)
    (get_or xs j d).0 (among xs j d l)

higher : (t x y : List ℕ) → slice_cmp nat_cmp x y ≡ Less
    → ordering_index (slice_cmp nat_cmp x t) ≤ ordering_index (slice_cmp nat_cmp y t)
higher t x y b = by (slice_cmp nat_cmp y t) refl
  where
    least : slice_cmp nat_cmp x t ≡ Less → (n : ℕ) → ordering_index (slice_cmp nat_cmp x t) ≤ n
    least l n = let zeroth : ordering_index (slice_cmp nat_cmp x t) ≡ 0 = ap ordering_index l in omega (arith, zeroth)

    most : (o : Ordering) → ordering_index o ≤ 2
    most Less = omega arith
    most Equal = omega arith
    most Greater = omega arith

    by : (o : Ordering) → slice_cmp nat_cmp y t ≡ o → ordering_index (slice_cmp nat_cmp x t) ≤ ordering_index o
    by Less e = least (nat_list_cmp_total.trans x y t b e) 0
    by Equal e = least (subst (λ w. slice_cmp nat_cmp x w ≡ Less) (same_text y t (sym (equal_same y t e))) b) 1
    by Greater e = most (slice_cmp nat_cmp x t)

rises : (t : List ℕ) (xs : List Pair) → ascends (entries_view xs) ≡ true
    → IsNonDecreasingBy (λ e. ordering_index (against t e)) xs
rises t [] h i j d le l = absurd (omega arith)
rises t (x ∷ xs) h zero zero d le l = omega arith
rises t (x ∷ xs) h zero (suc j) d le l =
    higher t x.0 (get_or xs j d).0 (behind x xs h j d (omega arith))
rises t (x ∷ xs) h (suc i) zero d le l = absurd (omega arith)
rises t (x ∷ xs) h (suc i) (suc j) d le l = rises t xs (rest_ascends x xs h) i j d (omega arith) (omega arith)

-- ---- The index of the key

found : (t : List ℕ) (xs : List Pair) → ascends (entries_view xs) ≡ true → (i : ℕ) → i < length xs
    → ((d : Pair) → against t (get_or xs i d) ≡ Equal) → Some i ≡ index_of t (entries_view xs)
found t [] h i l e = absurd (omega arith)
found t (x ∷ xs) h zero l e =
    sym
    (ap (λ b. cond b (Some 0) (option_map suc (index_of t (entries_view xs)))) (equal_same x.0 t (e x)))
found t (x ∷ xs) h (suc i) l e =
    let here : (get_or xs i x).0 ≡ t =
    same_text (get_or xs i x).0 t (sym (equal_same (get_or xs i x).0 t (e x))) in
    let before : slice_cmp nat_cmp x.0 t ≡ Less =
    subst (λ w. slice_cmp nat_cmp x.0 w ≡ Less) here (behind x xs h i x (omega arith)) in
    ap (option_map suc) (found t xs (rest_ascends x xs h) i (omega arith) e)
    ∙ sym
    (ap (λ b. cond b (Some 0) (option_map suc (index_of t (entries_view xs)))) (less_apart x.0 t before))

none : (t : List ℕ) (xs : List Pair)
    → ((j : ℕ) (d : Pair) → j < length xs → bytes_eq (get_or xs j d).0 t ≡ false)
    → None ≡ index_of t (entries_view xs)
none t [] h = refl
none t (x ∷ xs) h =
    ap (option_map suc) (none t xs (λ j d l. h (suc j) d (omega arith)))
    ∙ sym (ap (λ b. cond b (Some 0) (option_map suc (index_of t (entries_view xs)))) (h zero x (omega arith)))

pub halved : (t : List ℕ) (xs : List Pair) (r : Result ℕ ℕ) → ascends (entries_view xs) ≡ true
    → IsSearchInRange r (length xs) → IsBinarySearchResult (against t) xs r → result_ok r ≡ index_of t (entries_view xs)
halved t xs (Ok i) h l s = found t xs h i l s
halved t xs (Err i) h l s = none t xs (λ j d m. through j d m)
  where
    parted : IsPartitionPoint (λ e. against t e ≡ Less) (λ e. against t e ≡ Greater) xs i
    parted = s (rises t xs h)

    through : (j : ℕ) (d : Pair) → j < length xs → bytes_eq (get_or xs j d).0 t ≡ false
    through j d m =
        ⊎_elim (λ e. greater_apart (get_or xs j d).0 t (parted.1 j d (omega (arith, e)) m))
        (λ o. ⊎_elim (λ b. less_apart (get_or xs j d).0 t (parted.0 j d (omega arith) b))
        (λ a. greater_apart (get_or xs j d).0 t (parted.1 j d (omega (arith, a)) m)) o)
        (cases_order j i)
