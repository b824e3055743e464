-- A binary search in a strictly ascending list of texts finds the number of texts before one.
use Rattle.std.proofs.Common.{◌≡◌, ℕ, zero, suc, ◌<◌, ◌≤◌, Bool, false, if◌then◌else◌, List, [], ◌∷◌, length, get_or}
use Rattle.std.proofs.Common.{refl, sym, ap, ◌∙◌, subst, arith}
use Rattle.std.specs.Prelude.{Result, Ok, Err}
use Rattle.std.specs.Result.{result_unwrap_or}
use Rattle.std.specs.Str.{bytes_eq}
use Rattle.std.specs.declared.cmp.Ordering.{Ordering}
use Rattle.std.specs.declared.cmp.Ordering.TheVariants.{Less, Equal, Greater}
use Rattle.std.specs.Ordering.{nat_cmp, is_lt, is_eq, ordering_index}
use Rattle.std.specs.Cmp.Lexicographic.{slice_cmp}
use Rattle.std.specs.List.Sorted.{IsNonDecreasingBy, IsBinarySearchResult, IsSearchInRange, IsPartitionPoint}
use Rattle.std.proofs.lemmas.Bool.{cases_order}
use Rattle.std.proofs.lemmas.Map.Text.{is_eq-slice_cmp}
use Rattle.std.proofs.lemmas.Slice.Eq.{bytes_eq-Decides}
use denote.Ref.{Bor}
use Rattle.jt_ast.specs.Expressions.{Text}
use Rattle.jt_ast.specs.Texts.{texts}
use Rattle.jt_semantics.specs.Ascends.{IsBefore, Above, Ascends}
use Rattle.jt_semantics.proofs.NameCounts.{less_is, before_trans}
use Rattle.jt_lower.specs.SourceLocs.{number_of}

-- The order of a name and this text.
abbrev pub against : Text → Bor Text → Ordering
against t k = slice_cmp nat_cmp k.now t

same_as : (x y : Text) (o : Ordering) → slice_cmp nat_cmp x y ≡ o → bytes_eq x y ≡ is_eq o
same_as x y o e = sym (is_eq-slice_cmp x y) ∙ ap is_eq e

-- ---- ascending names are sorted with respect to each text

above_ascends : (z : Text) (ns : List Text) → Above z ns → Ascends ns
above_ascends z [] h = tt
above_ascends z (y ∷ ys) h = h.1

-- A name that is above another one comes after it.
behind : (z : Text) (ks : List (Bor Text)) → Above z (texts ks) → (j : ℕ) (d : Bor Text) → j < length ks
    → IsBefore z (get_or ks j d).now
behind z [] h j d l = absurd (omega arith)
behind z (k ∷ ks) h zero d l = h.0
behind z (k ∷ ks) h (suc j) d l = before_trans z k.now (get_or ks j d).now h.0 (behind k.now ks h.1 j d (omega arith))

higher : (t x y : Text) → IsBefore x y → ordering_index (slice_cmp nat_cmp x t) ≤ ordering_index (slice_cmp nat_cmp y t)
higher t x y b = by (slice_cmp nat_cmp y t) refl
  where
    least : IsBefore x t → (n : ℕ) → ordering_index (slice_cmp nat_cmp x t) ≤ n
    least l n =
        let zeroth : ordering_index (slice_cmp nat_cmp x t) ≡ 0 =
        ap ordering_index (less_is (slice_cmp nat_cmp x t) l) in
        omega (arith, zeroth)

    most : (o : Ordering) → ordering_index o ≤ 2
    most Less = omega arith
    most Equal = omega arith
    most Greater = omega arith

    by : (o : Ordering) → slice_cmp nat_cmp y t ≡ o → ordering_index (slice_cmp nat_cmp x t) ≤ ordering_index o
    by Less e = least (before_trans x y t b (ap is_lt e)) 0
    by Equal e = least (subst (λ w. IsBefore x w) ((bytes_eq-Decides y t).0 (same_as y t Equal e)) b) 1
    by Greater e = most (slice_cmp nat_cmp x t)

rises : (t : Text) (ks : List (Bor Text)) → Ascends (texts ks)
    → IsNonDecreasingBy (λ k. ordering_index (against t k)) ks
rises t [] h i j d le l = absurd (omega arith)
rises t (k ∷ ks) h zero zero d le l = omega arith
rises t (k ∷ ks) h zero (suc j) d le l = higher t k.now (get_or ks j d).now (behind k.now ks h j d (omega arith))
rises t (k ∷ ks) h (suc i) zero d le l = absurd (omega arith)
rises t (k ∷ ks) h (suc i) (suc j) d le l =
    rises t ks (above_ascends k.now (texts ks) h) i j d (omega arith) (omega arith)

-- ---- the number of names before a text

-- If a name is this text, no name before it is.
found : (t : Text) (ks : List (Bor Text)) → Ascends (texts ks) → (i : ℕ) → i < length ks
    → ((d : Bor Text) → against t (get_or ks i d) ≡ Equal) → i ≡ number_of t (texts ks)
found t [] h i l e = absurd (omega arith)
found t (k ∷ ks) h zero l e =
    sym (ap (λ (b : Bool). if b then 0 else suc (number_of t (texts ks))) (same_as k.now t Equal (e k)))
found t (k ∷ ks) h (suc i) l e =
    let here : (get_or ks i k).now ≡ t =
    (bytes_eq-Decides (get_or ks i k).now t).0 (same_as (get_or ks i k).now t Equal (e k)) in
    let before : IsBefore k.now t = subst (λ w. IsBefore k.now w) here (behind k.now ks h i k (omega arith)) in
    ap suc (found t ks (above_ascends k.now (texts ks) h) i (omega arith) e)
    ∙ sym (ap (λ (b : Bool). if b then 0 else suc (number_of t (texts ks)))
    (same_as k.now t Less (less_is (slice_cmp nat_cmp k.now t) before)))

none : (t : Text) (ks : List (Bor Text))
    → ((j : ℕ) (d : Bor Text) → j < length ks → bytes_eq (get_or ks j d).now t ≡ false)
    → length ks ≡ number_of t (texts ks)
none t [] h = refl
none t (k ∷ ks) h =
    ap suc (none t ks (λ j d l. h (suc j) d (omega arith)))
    ∙ sym (ap (λ (b : Bool). if b then 0 else suc (number_of t (texts ks))) (h zero k (omega arith)))

pub searched : (t : Text) (ks : List (Bor Text)) (r : Result ℕ ℕ) → Ascends (texts ks) → IsSearchInRange r (length ks)
    → IsBinarySearchResult (against t) ks r → result_unwrap_or r (length ks) ≡ number_of t (texts ks)
searched t ks (Ok i) h l s = found t ks h i l s
searched t ks (Err i) h l s = none t ks (λ j d m. through j d m)
  where
    parted : IsPartitionPoint (λ k. against t k ≡ Less) (λ k. against t k ≡ Greater) ks i
    parted = s (rises t ks h)

    through : (j : ℕ) (d : Bor Text) → j < length ks → bytes_eq (get_or ks j d).now t ≡ false
    through j d m = grind (arith, same_as, get_or, parted, cases_order)
