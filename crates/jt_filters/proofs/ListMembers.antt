-- The items of a list, found by their indices.
use Rattle.std.proofs.Common.{◌≡◌, ℕ, zero, suc, ℤ, ◌+◌, ◌<◌, Bool, true, false, cond, List, [], ◌∷◌, length}
use Rattle.std.proofs.Common.{drop, get_or, Some, None, refl, sym, ap, ◌∙◌, subst, true≢false, arith}
use Rattle.std.proofs.lemmas.Cmp.{nat_list_cmp_total}
use Rattle.std.proofs.lemmas.List.{at_drop_more}
use Rattle.std.specs.BTreeMap.{BTreeMap, insert_entry, is_at}
use Rattle.std.specs.Map.{lookup}
use Rattle.std.specs.Cmp.{tied_itself, signed_Decides}
use Rattle.std.specs.Cmp.Lexicographic.{slice_cmp}
use Rattle.std.specs.Option.{IsSome, is_some}
use Rattle.std.specs.Ordering.{is_eq, nat_cmp}
use Rattle.std.specs.Prelude.{Option, Vec, Result, Ok, Err, OnOk}
use Rattle.std.specs.declared.alloc.Global.{Global}
use Rattle.jt_ids.specs.declared.test_id.TestId.TheVariants as test
use Rattle.jt_op_semantics.specs.Membership.{has_item}
use Rattle.jt_op_semantics.specs.Testing.{tested}
use Rattle.jt_value.specs.Equality.{equal, truth_number}
use Rattle.jt_value.specs.Tree as tree
use Rattle.jt_value.specs.Tree.{Tree, Items, item}
use Rattle.jt_value.specs.View.{view, items_view}
use Rattle.jt_value.specs.declared.value.Value.{Value}
use Rattle.jt_filters.specs.internal.Codes.{code}
use Rattle.jt_filters.specs.internal.IndicesOf.{at_code, HasIndex, Covers}
use Rattle.jt_filters.specs.internal.Seen.{number_like}
use Rattle.jt_filters.proofs.SameCodes.{same_code}
use Rattle.jt_filters.proofs.SeenCodes.{either}
use Rattle.jt_filters.proofs.SortedInsertion.{cmp, lookup-inserted}
use Rattle.std.proofs.lemmas.Bool.{or_left, or_right}

-- The item at an index is an item of the list.
pub at_index : (vs : List Value) (i : ℕ) (v : Value) (t : Tree) → i < length vs → v ≡ get_or vs i v
    → equal t (view v) ≡ true → has_item t (items_view vs) ≡ true
at_index [] i v t inside is e = absurd (omega arith)
at_index (w ∷ vs) zero v t inside is e =
    or_left (equal t (view w)) (has_item t (items_view vs)) (ap (λ (x : Value). equal t (view x)) (sym is) ∙ e)
at_index (w ∷ vs) (suc i) v t inside is e =
    or_right (equal t (view w)) (has_item t (items_view vs)) (at_index vs i v t (omega arith) is e)

-- Equal values equal the same number, if any.
same_number : (t u : Tree) → equal t u ≡ true → number_like t ≡ number_like u
same_number tree.undefined tree.undefined e = refl
same_number tree.nothing tree.nothing e = refl
same_number (tree.truth_value a) (tree.truth_value b) e =
    ap (λ (z : ℤ). Some z) ((signed_Decides (truth_number a) (truth_number b)).0 e)
same_number (tree.truth_value a) (tree.number y) e = ap (λ (z : ℤ). Some z) ((signed_Decides (truth_number a) y).0 e)
same_number (tree.number x) (tree.truth_value b) e = ap (λ (z : ℤ). Some z) ((signed_Decides x (truth_number b)).0 e)
same_number (tree.number x) (tree.number y) e = ap (λ (z : ℤ). Some z) ((signed_Decides x y).0 e)
same_number (tree.text x) (tree.text y) e = refl
same_number (tree.text x) (tree.markup y) e = refl
same_number (tree.markup x) (tree.text y) e = refl
same_number (tree.markup x) (tree.markup y) e = refl
same_number (tree.list ts) (tree.list us) e = refl
same_number (tree.map es) (tree.map fs) e = refl
same_number t u e = absurd (true≢false (sym e))

same_index : (m : BTreeMap (Vec ℕ Global) ℕ) (t u : Tree) → equal t u ≡ true → HasIndex m u → HasIndex m t
same_index m t u e there none =
    subst (λ (c : List ℕ). IsSome (at_code m c)) (sym (same_code t u e)) (there (sym (same_number t u e) ∙ none))

covers_more : (m n : BTreeMap (Vec ℕ Global) ℕ) (t : Tree) (ts : Items) → HasIndex n t
    → ((u : Tree) → HasIndex m u → HasIndex n u) → Covers m ts → Covers n (item t ts)
covers_more m n t ts there kept known u e =
    either (equal u t) (has_item u ts) e (λ same. same_index n u t same there) (λ old. kept u (known u old))

-- The indices cover one more item, the one before them.
pub covers_next : (vs : List Value) (n i : ℕ) (v : Value) (old new : BTreeMap (Vec ℕ Global) ℕ) → i + 1 ≡ n
    → i < length vs → v ≡ get_or vs i v
    → HasIndex new (view v) → ((u : Tree) → HasIndex old u → HasIndex new u)
    → Covers old (items_view (drop n vs)) → Covers new (items_view (drop i vs))
covers_next vs n i v old new next inside at there kept known =
    subst (λ (ts : Items). Covers new ts)
    (ap (λ (x : Value). items_view (x ∷ drop (i + 1) vs)) at
    ∙ sym (at_drop_more (λ (ys : List Value). items_view ys) vs i v inside))
    (covers_more old new (view v) (items_view (drop (i + 1) vs)) there kept
    (subst (λ (j : ℕ). Covers old (items_view (drop j vs))) (sym next) known))

-- A value that has no index equals none of the items.
pub not_covered : (m : BTreeMap (Vec ℕ Global) ℕ) (t : Tree) (ts : Items) → Covers m ts → number_like t ≡ None
    → None ≡ at_code m (code t) → false ≡ has_item t ts
not_covered m t ts known none missing = by (has_item t ts) refl
  where
    by : (b : Bool) → has_item t ts ≡ b → false ≡ has_item t ts
    by false e = sym e
    by true e = absurd (true≢false (sym (subst (λ (o : Option ℕ). IsSome o) (sym missing) (known t e none))))

-- A value that equals a number needs no index.
pub numbered : (m : BTreeMap (Vec ℕ Global) ℕ) (t : Tree) (z : ℤ) → Some z ≡ number_like t → HasIndex m t
numbered m t z is none = absurd (cc)

-- The index at each code, after a code is stored.
pub code_put : (m n : BTreeMap (Vec ℕ Global) ℕ) (k : Vec ℕ Global) (v : ℕ) (c : List ℕ)
    → n.entries ≡ insert_entry (λ x y. cmp x.items y.items) m.entries k v
    → at_code n c ≡ cond (is_eq (cmp c k.items)) (Some v) (at_code m c)
code_put m n k v c put =
    ap (λ (es : List (Vec ℕ Global × ℕ)). lookup (is_at (λ x. cmp c x.items)) es) put
    ∙ lookup-inserted (λ (x : Vec ℕ Global). x.items) k v c m.entries

-- A code that was stored has an index.
code_there : (old new : BTreeMap (Vec ℕ Global) ℕ) (t : Tree) (k : List ℕ) (n : ℕ) → k ≡ code t
    → ((c : List ℕ) → at_code new c ≡ cond (is_eq (slice_cmp nat_cmp c k)) (Some n) (at_code old c))
    → IsSome (at_code new (code t))
code_there old new t k n is put =
    ap is_some (put (code t))
    ∙ ap (λ (c : List ℕ). is_some (cond (is_eq (slice_cmp nat_cmp c k)) (Some n) (at_code old (code t)))) (sym is)
    ∙ ap (λ (b : Bool). is_some (cond b (Some n) (at_code old (code t)))) (ap is_eq (tied_itself nat_list_cmp_total k))

pub code_stored : {A E : Type 0} (r : Result A E) (old new : BTreeMap (Vec ℕ Global) ℕ) (t : Tree) (k : List ℕ) (n : ℕ)
    → k ≡ code t
    → OnOk r ((c : List ℕ) → at_code new c ≡ cond (is_eq (slice_cmp nat_cmp c k)) (Some n) (at_code old c))
    → OnOk r (HasIndex new t)
code_stored (Ok a) old new t k n is put = λ none. code_there old new t k n is put
code_stored (Err e) old new t k n is put = tt

some_still : (b : Bool) (n : ℕ) (o : Option ℕ) → IsSome o → IsSome (cond b (Some n) o)
some_still true n o e = refl
some_still false n o e = e

-- Each index that was there is there after a code is stored.
pub code_kept : {A E : Type 0} (r : Result A E) (old new : BTreeMap (Vec ℕ Global) ℕ) (k : List ℕ) (n : ℕ)
    → OnOk r ((c : List ℕ) → at_code new c ≡ cond (is_eq (slice_cmp nat_cmp c k)) (Some n) (at_code old c))
    → OnOk r ((t : Tree) → HasIndex old t → HasIndex new t)
code_kept (Ok a) old new k n put = λ t there none.
    subst (λ (o : Option ℕ). IsSome o) (sym (put (code t)))
    (some_still (is_eq (slice_cmp nat_cmp (code t) k)) n (at_code old (code t)) (there none))
code_kept (Err e) old new k n put = tt

-- Test `in` with a list finds an equal item.
pub in_list : (t : Tree) (us : Items) → tested test.In (t ∷ tree.list us ∷ []) ≡ Ok (has_item t us)
in_list tree.undefined us = refl
in_list tree.nothing us = refl
in_list (tree.truth_value b) us = refl
in_list (tree.number z) us = refl
in_list (tree.text s) us = refl
in_list (tree.markup s) us = refl
in_list (tree.list ts) us = refl
in_list (tree.map es) us = refl
