-- Entries in the order of their keys, with one more inserted.
use Rattle.std.proofs.Common.{◌≡◌, ℕ, Bool, true, false, cond, List, [], ◌∷◌, map, Option, Some, None, refl, sym, ap}
use Rattle.std.proofs.Common.{◌∙◌, true≢false, arith, rules}
use Rattle.std.proofs.lemmas.Cmp.{nat_list_cmp_total}
use Rattle.std.specs.Cmp.{tied_itself}
use Rattle.std.proofs.lemmas.Map.Lookups.{exact_bytes}
use Rattle.std.specs.BTreeMap.{insert_entry, is_at}
use Rattle.std.specs.Cmp.Lexicographic.{slice_cmp}
use Rattle.std.specs.List.{AllByRecursion}
use Rattle.std.specs.List.Sorted.{IsStrictlySortedBy}
use Rattle.std.specs.Map.{keys_of, lookup}
use Rattle.std.specs.Option.{is_some, unwrap_or}
use Rattle.std.specs.Ordering.{nat_cmp, is_eq, is_gt, match_ordering, ordering_reverse}
use Rattle.std.specs.declared.cmp.Ordering.{Ordering}
use Rattle.std.specs.declared.cmp.Ordering.TheVariants.{Less, Equal, Greater}

abbrev pub cmp : List ℕ → List ℕ → Ordering
cmp = slice_cmp nat_cmp

found_equal : (r : Ordering) → is_eq r ≡ true → r ≡ Equal
found_equal r a1 = search (arith, rules)

below_all : (k l : List ℕ) (ks : List (List ℕ)) → cmp k l ≡ Less → AllByRecursion (λ y. cmp l y ≡ Less) ks
    → AllByRecursion (λ y. cmp k y ≡ Less) ks
below_all k l [] less all = tt
below_all k l (y ∷ ks) less all = (nat_list_cmp_total.trans k l y less all.0, below_all k l ks less all.1)

-- Keys are compared as the texts that a function makes of them.
module _ {K X : Type 0} (f : K → List ℕ) (k : K) (v : X) where
  abbrev by_text : K → K → Ordering
  by_text x y = cmp (f x) (f y)

  abbrev at : List ℕ → List (K × X) → Option X
  at q es = lookup (is_at (λ l. cmp q (f l))) es

  at_key : (a b : Bool) (w : X) (o : Option X) → a ≡ b → cond b (Some v) o ≡ cond a (Some v) (cond b (Some w) o)
  at_key true true w o same = refl
  at_key false false w o same = refl
  at_key true false w o same = absurd (true≢false same)
  at_key false true w o same = absurd (true≢false (sym same))

  at_both : (q : List ℕ) (l : K) → is_eq (cmp q (f k)) ≡ true → is_eq (cmp q (f l)) ≡ true → f k ≡ f l
  at_both q l p r =
      sym (exact_bytes q (f k) (found_equal (cmp q (f k)) p)) ∙ exact_bytes q (f l) (found_equal (cmp q (f l)) r)

  not_greater : (l : K) → by_text k l ≡ Greater → f k ≡ f l → ⊥
  not_greater l is same =
      true≢false (ap is_gt (sym is ∙ ap (λ (s : List ℕ). cmp s (f l)) same ∙ tied_itself nat_list_cmp_total (f l)))

  apart : (q : List ℕ) (e : K × X) (o more : Option X) (a b : Bool) → by_text k e.0 ≡ Greater → is_eq (cmp q (f k)) ≡ a
      → is_eq (cmp q (f e.0)) ≡ b
      → more ≡ cond a (Some v) o → cond b (Some e.1) more ≡ cond a (Some v) (cond b (Some e.1) o)
  apart q e o more true true is p r rest = absurd (not_greater e.0 is (at_both q e.0 p r))
  apart q e o more true false is p r rest = rest
  apart q e o more false true is p r rest = refl
  apart q e o more false false is p r rest = rest

  -- The value at a key, by the order of the new key and the first one.
  lookup_at : (q : List ℕ) (e : K × X) (es : List (K × X)) (o : Ordering) → by_text k e.0 ≡ o
      → at q (insert_entry by_text es k v) ≡ cond (is_eq (cmp q (f k))) (Some v) (at q es)
      → at q (match_ordering o ((k, v) ∷ e ∷ es) ((e.0, v) ∷ es) (e ∷ insert_entry by_text es k v))
      ≡ cond (is_eq (cmp q (f k))) (Some v) (cond (is_eq (cmp q (f e.0))) (Some e.1) (at q es))
  lookup_at q e es Less is rest = refl
  lookup_at q e es Equal is rest =
      at_key (is_eq (cmp q (f k))) (is_eq (cmp q (f e.0))) e.1 (at q es)
      (ap (λ (s : List ℕ). is_eq (cmp q s)) (exact_bytes (f k) (f e.0) is))
  lookup_at q e es Greater is rest =
      apart q e (at q es) (at q (insert_entry by_text es k v)) (is_eq (cmp q (f k))) (is_eq (cmp q (f e.0))) is refl
      refl rest

  -- The new value is found at its key, and each other value at its own.
  pub lookup-inserted : (q : List ℕ) (es : List (K × X))
      → at q (insert_entry by_text es k v) ≡ cond (is_eq (cmp q (f k))) (Some v) (at q es)
  lookup-inserted q [] = refl
  lookup-inserted q (e ∷ es) = lookup_at q e es (by_text k e.0) refl (lookup-inserted q es)

module _ {X : Type 0} (k : List ℕ) (v : X) where
  all_at : (P : List ℕ → Type 0) (e : List ℕ × X) (es : List (List ℕ × X)) (o : Ordering)
      → AllByRecursion P (keys_of (e ∷ es)) → P k → AllByRecursion P (keys_of (insert_entry cmp es k v))
      → AllByRecursion P (keys_of (match_ordering o ((k, v) ∷ e ∷ es) ((e.0, v) ∷ es) (e ∷ insert_entry cmp es k v)))
  all_at P e es Less all new rest = (new, all)
  all_at P e es Equal all new rest = all
  all_at P e es Greater all new rest = (all.0, rest)

  all-inserted : (P : List ℕ → Type 0) (es : List (List ℕ × X)) → AllByRecursion P (keys_of es) → P k
      → AllByRecursion P (keys_of (insert_entry cmp es k v))
  all-inserted P [] all new = (new, tt)
  all-inserted P (e ∷ es) all new = all_at P e es (cmp k e.0) all new (all-inserted P es all.1 new)

  sorted_at : (e : List ℕ × X) (es : List (List ℕ × X)) (o : Ordering) → cmp k e.0 ≡ o
      → IsStrictlySortedBy cmp (keys_of (e ∷ es)) → IsStrictlySortedBy cmp (keys_of (insert_entry cmp es k v))
      → IsStrictlySortedBy cmp
      (keys_of (match_ordering o ((k, v) ∷ e ∷ es) ((e.0, v) ∷ es) (e ∷ insert_entry cmp es k v)))
  unfolding IsStrictlySortedBy
  sorted_at e es Less is sorted rest = ((is, below_all k e.0 (keys_of es) is sorted.0), sorted)
  sorted_at e es Equal is sorted rest = sorted
  sorted_at e es Greater is sorted rest = (
    all-inserted (λ y. cmp e.0 y ≡ Less) es sorted.0 (nat_list_cmp_total.antisymm e.0 k ∙ ap ordering_reverse is),
    rest,
  )

  -- An insertion keeps the keys in order.
  pub sorted-inserted : (es : List (List ℕ × X)) → IsStrictlySortedBy cmp (keys_of es)
      → IsStrictlySortedBy cmp (keys_of (insert_entry cmp es k v))
  unfolding IsStrictlySortedBy
  sorted-inserted [] sorted = (tt, tt)
  sorted-inserted (e ∷ es) sorted = sorted_at e es (cmp k e.0) refl sorted (sorted-inserted es sorted.1)

-- Ordered rows with the same value at each key are the same.
module _ {X : Type 0} where
  abbrev find : List ℕ → List (List ℕ × X) → Option X
  find q es = lookup (is_at (cmp q)) es

  none_above : (q : List ℕ) (es : List (List ℕ × X)) → AllByRecursion (λ y. cmp q y ≡ Less) (keys_of es)
      → find q es ≡ None
  none_above q [] all = refl
  none_above q (e ∷ es) all = ap (λ (o : Ordering). cond (is_eq o) (Some e.1) (find q es)) all.0 ∙ none_above q es all.1

  head_found : (x : List ℕ × X) (xs : List (List ℕ × X)) → find x.0 (x ∷ xs) ≡ Some x.1
  head_found x xs = ap (λ (o : Ordering). cond (is_eq o) (Some x.1) (find x.0 xs)) (tied_itself nat_list_cmp_total x.0)

  none_some : (v : X) → None ≡ Some v → ⊥
  none_some v e = true≢false (sym (ap is_some e))

  some_some : (v w : X) → Some v ≡ Some w → v ≡ w
  some_some v w e = ap (λ (o : Option X). unwrap_or o v) e

  same_head : (x y : List ℕ × X) (xs ys : List (List ℕ × X)) (o : Ordering) → cmp x.0 y.0 ≡ o
      → AllByRecursion (λ l. cmp x.0 l ≡ Less) (keys_of xs) → AllByRecursion (λ l. cmp y.0 l ≡ Less) (keys_of ys)
      → ((q : List ℕ) → find q (x ∷ xs) ≡ find q (y ∷ ys)) → x.0 ≡ y.0
  same_head x y xs ys Less is s t h =
      absurd (none_some x.1
      (sym (none_above x.0 (y ∷ ys) (is, below_all x.0 y.0 (keys_of ys) is t)) ∙ sym (h x.0) ∙ head_found x xs))
  same_head x y xs ys Equal is s t h = exact_bytes x.0 y.0 is
  same_head x y xs ys Greater is s t h =
      let less : cmp y.0 x.0 ≡ Less = nat_list_cmp_total.antisymm y.0 x.0 ∙ ap ordering_reverse is in
      absurd (none_some y.1
      (sym (none_above y.0 (x ∷ xs) (less, below_all y.0 x.0 (keys_of xs) less s)) ∙ h y.0 ∙ head_found y ys))

  same_tails : (x y : List ℕ × X) (xs ys : List (List ℕ × X)) (q : List ℕ) (b : Bool) → is_eq (cmp q x.0) ≡ b
      → x.0 ≡ y.0 → AllByRecursion (λ l. cmp x.0 l ≡ Less) (keys_of xs)
      → AllByRecursion (λ l. cmp y.0 l ≡ Less) (keys_of ys)
      → find q (x ∷ xs) ≡ find q (y ∷ ys) → find q xs ≡ find q ys
  same_tails x y xs ys q true is k s t h =
      let at_x : q ≡ x.0 = exact_bytes q x.0 (found_equal (cmp q x.0) is) in
      ap (λ (l : List ℕ). find l xs) at_x ∙ none_above x.0 xs s
      ∙ sym (ap (λ (l : List ℕ). find l ys) (at_x ∙ k) ∙ none_above y.0 ys t)
  same_tails x y xs ys q false is k s t h =
      sym (ap (λ (b : Bool). cond b (Some x.1) (find q xs)) is) ∙ h
      ∙ ap (λ (b : Bool). cond b (Some y.1) (find q ys)) (ap (λ (l : List ℕ). is_eq (cmp q l)) (sym k) ∙ is)

  pub same_rows : (es fs : List (List ℕ × X)) → IsStrictlySortedBy cmp (keys_of es)
      → IsStrictlySortedBy cmp (keys_of fs) → ((q : List ℕ) → find q es ≡ find q fs) → es ≡ fs
  unfolding IsStrictlySortedBy
  same_rows [] [] s t h = refl
  same_rows [] (y ∷ ys) s t h = absurd (none_some y.1 (h y.0 ∙ head_found y ys))
  same_rows (x ∷ xs) [] s t h = absurd (none_some x.1 (sym (h x.0) ∙ head_found x xs))
  same_rows (x ∷ xs) (y ∷ ys) s t h =
      let k : x.0 ≡ y.0 = same_head x y xs ys (cmp x.0 y.0) refl s.0 t.0 h in
      let v : x.1 ≡ y.1 =
      some_some x.1 y.1 (sym (head_found x xs) ∙ h x.0 ∙ ap (λ (l : List ℕ). find l (y ∷ ys)) k ∙ head_found y ys) in
      let rest : xs ≡ ys =
      same_rows xs ys s.1 t.1 (λ q. same_tails x y xs ys q (is_eq (cmp q x.0)) refl k s.0 t.0 (h q)) in
      ap (λ (l : List ℕ). (l, x.1) ∷ xs) k ∙ ap (λ (w : X). (y.0, w) ∷ xs) v
      ∙ ap (λ (r : List (List ℕ × X)). y ∷ r) rest

-- Entries whose keys and values are read by functions.
module _ {K X Y : Type 0} (f : K → List ℕ) (g : X → Y) where
  abbrev pub read : List (K × X) → List (List ℕ × Y)
  read es = map (λ e. (f e.0, g e.1)) es

  read-match : (o : Ordering) (a b c : List (K × X))
      → read (match_ordering o a b c) ≡ match_ordering o (read a) (read b) (read c)
  read-match Less a b c = refl
  read-match Equal a b c = refl
  read-match Greater a b c = refl

  pub read-inserted : (es : List (K × X)) (k : K) (v : X)
      → read (insert_entry (λ x y. cmp (f x) (f y)) es k v) ≡ insert_entry cmp (read es) (f k) (g v)
  read-inserted [] k v = refl
  read-inserted (e ∷ es) k v =
      read-match (cmp (f k) (f e.0)) _ _ _
      ∙ ap (λ (r : List (List ℕ × Y)).
      match_ordering (cmp (f k) (f e.0)) ((f k, g v) ∷ read (e ∷ es)) ((f e.0, g v) ∷ read es) ((f e.0, g e.1) ∷ r))
      (read-inserted es k v)
