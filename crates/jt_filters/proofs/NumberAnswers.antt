-- Numbers that are looked up in a list: answers that are right, and a place between two neighbours.
use Rattle.std.proofs.Common.{◌≡◌, ℕ, ℤ, ◌+◌, ◌<◌, ◌≤◌, ◌-◌, Bool, true, false, ◌||◌, List, [], ◌∷◌, ◌++◌}
use Rattle.std.proofs.Math.ListN.{replicate, set}
use Rattle.std.proofs.Common.{length, drop, get_or, Some, None, refl, sym, ap, ◌∙◌, ◌⊎◌, inl, inr, subst}
use Rattle.std.proofs.Common.{true≢false, arith}
use Rattle.std.proofs.lemmas.Bool.{cases_lt}
use Rattle.std.proofs.lemmas.Bool.Decides.{Decides-int_eq}
use Rattle.std.proofs.lemmas.Cmp.{int_cmp_total}
use Rattle.std.proofs.lemmas.List.{at_drop_more}
use Rattle.std.proofs.lemmas.List.Elements.{All-get_or, All-replicate, All-set}
use Rattle.std.proofs.lemmas.List.Folds.{list_any-append}
use Rattle.std.proofs.lemmas.List.MinMax.{ranks_by}
use Rattle.std.proofs.lemmas.List.Sorted.{sorted_far, list_any-IsPermutation}
use Rattle.std.specs.Cmp.{int_cmp_is}
use Rattle.std.specs.Int.Signed.{◌<ℤ◌}
use Rattle.std.specs.List.{list_any}
use Rattle.std.specs.List.Sorted.{IsSorted, IsPermutation}
use Rattle.std.specs.Ordering.{int_cmp, int_eq, is_lt}
use Rattle.std.specs.declared.cmp.Ordering.TheVariants.{Less}
use Rattle.jt_value.specs.Equality.{equal, truth_number}
use Rattle.jt_value.specs.Tree as tree
use Rattle.jt_value.specs.Tree.{Tree, Items, item, no_items}
use Rattle.jt_value.specs.View.{view, items_view}
use Rattle.jt_value.specs.declared.value.Value.{Value}
use Rattle.jt_op_semantics.specs.Membership.{has_item}
use Rattle.jt_filters.specs.declared.answers.Answer.{Answer}
use Rattle.jt_filters.specs.internal.Answers.{AreNumbers, IsRight, AreRight}
use Rattle.jt_filters.specs.internal.Seen.{number_like}
use Rattle.jt_filters.proofs.SeenEntries.{any_false, turned}

-- A value that equals a number equals what the number does.
equal_number : (t u : Tree) (z : ℤ) → Some z ≡ number_like t → equal t u ≡ equal (tree.number z) u
equal_number (tree.truth_value b) u z e =
    let same : z ≡ truth_number b = cc in
    by u ∙ ap (λ (y : ℤ). equal (tree.number y) u) (sym same)
  where
    by : (u : Tree) → equal (tree.truth_value b) u ≡ equal (tree.number (truth_number b)) u
    by tree.undefined = refl
    by tree.nothing = refl
    by (tree.truth_value a) = refl
    by (tree.number y) = refl
    by (tree.text s) = refl
    by (tree.markup s) = refl
    by (tree.list ts) = refl
    by (tree.map es) = refl
equal_number (tree.number x) u z e = let same : z ≡ x = cc in ap (λ (y : ℤ). equal (tree.number y) u) (sym same)
equal_number t u z e = absurd (cc)

-- An item that equals a number is looked up as that number.
pub has_as_number : (t : Tree) (ts : Items) (z : ℤ) → Some z ≡ number_like t
    → has_item t ts ≡ has_item (tree.number z) ts
has_as_number t no_items z e = refl
has_as_number t (item u us) z e =
    ap (λ (b : Bool). b || has_item t us) (equal_number t u z e)
    ∙ ap (λ (b : Bool). equal (tree.number z) u || b) (has_as_number t us z e)

-- The answer at an index, for an item that equals its number.
pub right_at : (ts : Items) (xs : List Answer) (i : ℕ) (a : Answer) (t : Tree) (n : ℤ) → AreRight ts xs → i < length xs
    → a ≡ get_or xs i a → a.number ≡ n → number_like t ≡ Some n → a.is_member ≡ has_item t ts
right_at ts xs i a t n known lt at same is =
    subst (λ (x : Answer). IsRight ts x) (sym at) (All-get_or (IsRight ts) xs i a lt known)
    ∙ ap (λ (z : ℤ). has_item (tree.number z) ts) same ∙ sym (has_as_number t ts n (sym is))

equal_to_number : (z n : ℤ) (t : Tree) → Some n ≡ number_like t → equal (tree.number z) t ≡ int_eq z n
equal_to_number z n (tree.truth_value b) e = let same : n ≡ truth_number b = cc in ap (int_eq z) (sym same)
equal_to_number z n (tree.number x) e = let same : n ≡ x = cc in ap (int_eq z) (sym same)
equal_to_number z n t e = absurd (cc)

no_number : (z : ℤ) (t : Tree) → None ≡ number_like t → equal (tree.number z) t ≡ false
no_number z (tree.truth_value b) e = absurd (cc)
no_number z (tree.number x) e = absurd (cc)
no_number z tree.undefined e = refl
no_number z tree.nothing e = refl
no_number z (tree.text s) e = refl
no_number z (tree.markup s) e = refl
no_number z (tree.list ts) e = refl
no_number z (tree.map es) e = refl

-- The numbers after that of an item is appended.
pub number_pushed : (old new : List ℤ) (t : Tree) (n : ℤ) → Some n ≡ number_like t → new ≡ old ++ n ∷ []
    → (z : ℤ) → list_any (int_eq z) new ≡ (equal (tree.number z) t || list_any (int_eq z) old)
number_pushed old new t n e is z =
    ap (list_any (int_eq z)) is ∙ list_any-append (int_eq z) old (n ∷ [])
    ∙ turned (list_any (int_eq z) old) (int_eq z n)
    ∙ ap (λ (b : Bool). b || list_any (int_eq z) old) (sym (equal_to_number z n t e))

pub no_number_pushed : (old : List ℤ) (t : Tree) → None ≡ number_like t → (z : ℤ)
    → list_any (int_eq z) old ≡ (equal (tree.number z) t || list_any (int_eq z) old)
no_number_pushed old t e z = ap (λ (b : Bool). b || list_any (int_eq z) old) (sym (no_number z t e))

-- The numbers of one more item, the one before them.
pub numbers_next : (vs : List Value) (n i : ℕ) (v : Value) (old new : List ℤ) → i + 1 ≡ n → i < length vs
    → v ≡ get_or vs i v
    → ((z : ℤ) → list_any (int_eq z) new ≡ (equal (tree.number z) (view v) || list_any (int_eq z) old))
    → AreNumbers (items_view (drop n vs)) old → AreNumbers (items_view (drop i vs)) new
numbers_next vs n i v old new next inside at step known =
    subst (λ (ts : Items). AreNumbers ts new)
    (ap (λ (x : Value). items_view (x ∷ drop (i + 1) vs)) at
    ∙ sym (at_drop_more (λ (ys : List Value). items_view ys) vs i v inside))
    (λ z. step z ∙ ap (λ (b : Bool). equal (tree.number z) (view v) || b)
    (known z ∙ ap (λ (j : ℕ). has_item (tree.number z) (items_view (drop j vs))) (sym next)))

-- The numbers in another order.
pub numbers_sorted : (ts : Items) (xs ys : List ℤ) → AreNumbers ts xs → IsPermutation xs ys → AreNumbers ts ys
numbers_sorted ts xs ys known same z = sym (list_any-IsPermutation (int_eq z) xs ys same) ∙ known z

is_below : (x y : ℤ) → x <ℤ y → is_lt (int_cmp x y) ≡ true
is_below x y lt = ap is_lt (sym (int_cmp_is x y Less lt))

-- A number between two neighbours of a sorted list is none of its numbers.
pub between : (zs : List ℤ) (n : ℤ) (p : ℕ) → IsSorted int_cmp zs
    → ((k : ℕ) (d : ℤ) → k + 1 ≡ p → (k < length zs) × (get_or zs k d <ℤ n))
    → ((d : ℤ) → p < length zs → n <ℤ get_or zs p d)
    → list_any (int_eq n) zs ≡ false
between zs n p up above below = any_false (int_eq n) zs (λ k d lt. by k d lt _ refl)
  where
    far : (i j : ℕ) (d : ℤ) → i ≤ j → j < length zs → is_lt (int_cmp (get_or zs j d) (get_or zs i d)) ≡ false
    far = sorted_far (λ x y. is_lt (int_cmp x y)) (ranks_by int_cmp_total (λ (x : ℤ). x)) zs up

    not_below : (x : ℤ) → is_lt (int_cmp n x) ≡ false → n <ℤ x → ⊥
    not_below x e lt = true≢false (sym (is_below n x lt) ∙ e)

    not_above : (x : ℤ) → is_lt (int_cmp x n) ≡ false → x <ℤ n → ⊥
    not_above x e lt = true≢false (sym (is_below x n lt) ∙ e)

    apart : (k : ℕ) (d : ℤ) → k < length zs → n ≡ get_or zs k d → (k < p) ⊎ (p ≤ k) → ⊥
    apart k d lt same (inr after) =
        not_below (get_or zs p d)
        (ap (λ (x : ℤ). is_lt (int_cmp x (get_or zs p d))) same ∙ far p k d after lt)
        (below d (omega (arith, after, lt)))
    apart k d lt same (inl before) = at_last (p - 1) (omega (arith, before))
      where
        at_last : (j : ℕ) → j + 1 ≡ p → ⊥
        at_last j next =
            not_above (get_or zs j d)
            (ap (λ (x : ℤ). is_lt (int_cmp (get_or zs j d) x)) same
            ∙ far k j d (omega (arith, before, next)) (above j d next).0)
            (above j d next).1

    by : (k : ℕ) (d : ℤ) → k < length zs → (b : Bool) → int_eq n (get_or zs k d) ≡ b
        → int_eq n (get_or zs k d) ≡ false
    by k d lt false e = e
    by k d lt true e = absurd (apart k d lt ((Decides-int_eq n (get_or zs k d)).0 e) (cases_lt k p))

pub ruleset pushed_numbers = (number_pushed, no_number_pushed)

-- Answers that are all the same one are right if it is.
pub filled : (ts : Items) (a : Answer) (n : ℕ) (xs : List Answer) → IsRight ts a → xs ≡ replicate n a → AreRight ts xs
filled ts a n xs right is = subst (λ (ys : List Answer). AreRight ts ys) (sym is) (All-replicate (IsRight ts) n a right)

-- Right answers stay right if one is replaced by a right one.
pub replaced : (ts : Items) (xs : List Answer) (i : ℕ) (a : Answer) → AreRight ts xs → IsRight ts a
    → AreRight ts (set xs i a)
replaced ts xs i a known right = All-set (IsRight ts) xs i a right known
