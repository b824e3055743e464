-- The set of the numbers of earlier items.
use Rattle.std.proofs.Common.{◌≡◌, ℕ, ℤ, ◌+◌, Bool, true, false, ◌||◌, Some, None, refl, sym, ap, ◌∙◌}
use Rattle.std.proofs.Common.{subst, arith, rules}
use Rattle.std.proofs.lemmas.Cmp.{int_eq_equiv}
use Rattle.std.specs.BTreeMap.{BTreeMap}
use Rattle.std.specs.Ordering.{int_eq}
use Rattle.std.specs.Prelude.{Vec, Result, Ok, Err, IfOk, OnOk}
use Rattle.std.specs.declared.alloc.Global.{Global}
use Rattle.jt_value.specs.Payload.{joined_items}
use Rattle.jt_value.specs.Tree.{Tree, number, Items, no_items, item}
use Rattle.jt_filters.specs.internal.Operands.{tree_of, front}
use Rattle.jt_filter_semantics.specs.Ordering.{alike, has_alike}
use Rattle.jt_filters.specs.internal.Seen.{found, has_number, number_like, KnowsNumbers, KnowsCodes}
use Rattle.jt_filters.specs.declared.operand.Operand.{Operand}
use Rattle.jt_filters.specs.declared.seen_numbers.SeenNumbers.{SeenNumbers}
use Rattle.jt_filters.proofs.DistinctItems.{front_next}
use Rattle.jt_filters.proofs.SeenCodes.{alike_more, still_alike, kept_still}
use Rattle.std.proofs.Math.Bool.{or-false, or_comm}

-- A value that equals a number is like what the number is like.
like_its_number : (t u : Tree) (z : ℤ) → Some z ≡ number_like t → alike t u ≡ alike (number z) u
like_its_number t u z a3 = search (arith, rules)

has_like_its_number : (t : Tree) (z : ℤ) (us : Items) → Some z ≡ number_like t
    → has_alike t us ≡ has_alike (number z) us
has_like_its_number t z no_items is = refl
has_like_its_number t z (item u us) is =
    ap (λ (b : Bool). b || has_alike t us) (like_its_number t u z is)
    ∙ ap (λ (b : Bool). alike (number z) u || b) (has_like_its_number t z us is)

-- A number is like a value that equals a number if the two numbers are equal.
number_to : (y z : ℤ) (t : Tree) → Some z ≡ number_like t → alike (number y) t ≡ int_eq y z
number_to y z t a3 = search (arith, rules)

number_from : (y z : ℤ) (t : Tree) → Some z ≡ number_like t → alike (number y) t ≡ int_eq z y
number_from y z t is = number_to y z t is ∙ int_eq_equiv.symm y z

-- A number is like no value that equals no number.
no_number : (y : ℤ) (t : Tree) → number_like t ≡ None → alike (number y) t ≡ false
no_number y t a2 = search (arith, rules)

no_plain : (u t : Tree) (z : ℤ) → number_like u ≡ None → Some z ≡ number_like t → alike u t ≡ false
no_plain u t z a3 a4 = search (arith, rules)

numbers_number : (s n : SeenNumbers) (ts : Items) (t : Tree) (z : ℤ) → KnowsNumbers s ts → Some z ≡ number_like t
    → ((y : ℤ) → has_number n y ≡ (int_eq z y || has_number s y)) → KnowsNumbers n (joined_items ts (item t no_items))
numbers_number s n ts t z known is step y =
    step y
    ∙ or_comm (int_eq z y) (has_number s y)
    ∙ ap (λ (b : Bool). b || int_eq z y) (known y)
    ∙ ap (λ (b : Bool). has_alike (number y) ts || b) (sym (number_from y z t is))
    ∙ sym (alike_more (number y) t ts)

codes_number : (m : BTreeMap (Vec ℕ Global) Operand) (ts : Items) (t : Tree) (z : ℤ) → KnowsCodes m ts
    → Some z ≡ number_like t → KnowsCodes m (joined_items ts (item t no_items))
codes_number m ts t z known is = record {
  coded =
      λ u plain e. known.coded u plain (sym (or-false (has_alike u ts))
      ∙ ap (λ (b : Bool). has_alike u ts || b) (sym (no_plain u t z plain is)) ∙ sym (alike_more u t ts) ∙ e);
  seen =
      λ c u. kept_still (found m c) (λ o. alike u (tree_of o) ≡ true → has_alike u ts ≡ true)
      (λ o. alike u (tree_of o) ≡ true → has_alike u (joined_items ts (item t no_items)) ≡ true) (known.seen c u)
      (λ o h e. still_alike u t ts (h e));
}

-- The keys know one more item that equals a number once the number is inserted.
know_number : (s n : SeenNumbers) (m : BTreeMap (Vec ℕ Global) Operand) (all : Items) (count : ℕ) (t : Tree) (z : ℤ)
    (rest : Items)
    → KnowsNumbers s (front count all) → KnowsCodes m (front count all) → Some z ≡ number_like t
    → ((y : ℤ) → has_number n y ≡ (int_eq z y || has_number s y))
    → joined_items (front count all) (item t rest) ≡ all
    → KnowsNumbers n (front (count + 1) all) × KnowsCodes m (front (count + 1) all)
know_number s n m all count t z rest numbers codes is step whole =
    let next = sym (front_next all count t rest whole) in (
      subst (λ (ts : Items). KnowsNumbers n ts) next (numbers_number s n (front count all) t z numbers is step),
      subst (λ (ts : Items). KnowsCodes m ts) next (codes_number m (front count all) t z codes is),
    )

-- The numbers know one more item that equals no number.
know_plain : (s : SeenNumbers) (all : Items) (count : ℕ) (t : Tree) (rest : Items) → KnowsNumbers s (front count all)
    → number_like t ≡ None
    → joined_items (front count all) (item t rest) ≡ all → KnowsNumbers s (front (count + 1) all)
know_plain s all count t rest numbers plain whole =
    subst (λ (ts : Items). KnowsNumbers s ts) (sym (front_next all count t rest whole))
    (λ y. numbers y ∙ sym (or-false (has_alike (number y) (front count all)))
    ∙ ap (λ (b : Bool). has_alike (number y) (front count all) || b) (sym (no_number y t plain))
    ∙ sym (alike_more (number y) t (front count all)))

-- The results of a call that looks up an item's number, or its code.
pub like_seen : {E : Type 0} (r : Result Bool E) (s : SeenNumbers) (ts : Items) (t : Tree) (z x : ℤ) → x ≡ z
    → KnowsNumbers s ts → Some z ≡ number_like t → IfOk r (λ b. b ≡ has_number s x)
    → IfOk r (λ b. b ≡ has_alike t ts)
like_seen (Ok b) s ts t z x same known is had =
    had ∙ ap (has_number s) same ∙ known z ∙ sym (has_like_its_number t z ts is)
like_seen (Err e) s ts t z x same known is had = tt

pub known_number : {E : Type 0} (r : Result Bool E) (s n : SeenNumbers) (m : BTreeMap (Vec ℕ Global) Operand)
    (all : Items) (count : ℕ) (t : Tree) (z x : ℤ) → x ≡ z → KnowsNumbers s (front count all)
    → KnowsCodes m (front count all) → Some z ≡ number_like t
    → OnOk r ((y : ℤ) → has_number n y ≡ (int_eq x y || has_number s y))
    → OnOk r ((rest : Items) → joined_items (front count all) (item t rest) ≡ all
    → KnowsNumbers n (front (count + 1) all) × KnowsCodes m (front (count + 1) all))
known_number (Ok b) s n m all count t z x same numbers codes is step = λ rest whole.
    know_number s n m all count t z rest numbers codes is
    (λ y. step y ∙ ap (λ (k : ℤ). int_eq k y || has_number s y) same) whole
known_number (Err e) s n m all count t z x same numbers codes is step = tt

pub known_plain : {E : Type 0} (r : Result Bool E) (s : SeenNumbers) (m : BTreeMap (Vec ℕ Global) Operand)
    (all : Items) (count : ℕ) (t : Tree) → KnowsNumbers s (front count all) → number_like t ≡ None
    → OnOk r ((rest : Items) → joined_items (front count all) (item t rest) ≡ all
    → KnowsCodes m (front (count + 1) all))
    → OnOk r ((rest : Items) → joined_items (front count all) (item t rest) ≡ all
    → KnowsNumbers s (front (count + 1) all) × KnowsCodes m (front (count + 1) all))
known_plain (Ok b) s m all count t numbers plain codes = λ rest whole.
    (know_plain s all count t rest numbers plain whole, codes rest whole)
known_plain (Err e) s m all count t numbers plain codes = tt
