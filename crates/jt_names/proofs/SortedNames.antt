-- Names that are inserted in order, one at a time.
use Rattle.std.specs.declared.cmp.Ordering.{Ordering}
use Rattle.std.specs.declared.cmp.Ordering.TheVariants.{Less, Equal, Greater}
use Rattle.std.specs.Ordering.{nat_cmp, is_lt, is_eq, match_ordering, ordering_reverse}
use Rattle.std.specs.Cmp.{Equal-is}
use Rattle.std.specs.Cmp.Lexicographic.{slice_cmp}
use Rattle.std.specs.BTreeSet.{insert_key}
use Rattle.std.proofs.lemmas.Cmp.{nat_list_eq_equiv, nat_list_cmp_total}
use Rattle.std.proofs.lemmas.Map.Text.{is_eq-slice_cmp}
use Rattle.std.proofs.lemmas.Slice.Eq.{bytes_eq-Decides}
use Rattle.std.proofs.lemmas.Bool.{or_right}
use denote.Ref.{Bor}
use Rattle.jt_names.proofs.Vocabulary
use Vocabulary.{◌||◌, inserted, among, ◌≡◌, Bool, true, false, if◌then◌else◌, List, [], ◌∷◌, ◌++◌, refl, sym, ap, ◌∙◌}
use Vocabulary.{arith, rules, bytes_eq, Text, all_inserted, ascending, texts}

-- The insertion of a concatenation inserts the names of its first part, then those of its second
-- part.
pub inserted_both : (xs ys ns : List Text) → all_inserted (xs ++ ys) ns ≡ all_inserted ys (all_inserted xs ns)
inserted_both [] ys ns = refl
inserted_both (x ∷ xs) ys ns = inserted_both xs ys (inserted x ns)

abbrev pub name_cmp : Bor Text → Bor Text → Ordering
name_cmp x y = slice_cmp nat_cmp x.now y.now

-- ---- The order of insertions does not matter, and a text that is inserted again changes nothing

abbrev cmp : Text → Text → Ordering
cmp x y = slice_cmp nat_cmp x y

abbrev placed : Ordering → Text → Text → List Text → List Text
placed Less x y ys = x ∷ y ∷ ys
placed Equal x y ys = y ∷ ys
placed Greater x y ys = y ∷ inserted x ys

at_head : (x y : Text) (ys : List Text) (o : Ordering) → cmp x y ≡ o → inserted x (y ∷ ys) ≡ placed o x y ys
at_head x y ys o e =
    let alike : bytes_eq y x ≡ is_eq (cmp x y) = nat_list_eq_equiv.symm y x ∙ sym (is_eq-slice_cmp x y) in
    rw (alike, e) (by o)
  where
    by : (r : Ordering)
        → (if is_eq r then y ∷ ys else if is_lt r then x ∷ y ∷ ys else y ∷ inserted x ys) ≡ placed r x y ys
    by Less = refl
    by r = refl

-- A name that is inserted into a set.
pub key_inserted : (ks : List (Bor Text)) (x : Bor Text) → texts (insert_key name_cmp ks x) ≡ inserted x.now (texts ks)
key_inserted [] x = refl
key_inserted (y ∷ ys) x =
    by (cmp x.now y.now) (key_inserted ys x) ∙ sym (at_head x.now y.now (texts ys) (cmp x.now y.now) refl)
  where
    by : (o : Ordering) → texts (insert_key name_cmp ys x) ≡ inserted x.now (texts ys)
        → texts (match_ordering o (x ∷ y ∷ ys) (y ∷ ys) (y ∷ insert_key name_cmp ys x))
        ≡ placed o x.now y.now (texts ys)
    by o h = search (arith, rules)

turned : (x y : Text) (o : Ordering) → cmp x y ≡ o → cmp y x ≡ ordering_reverse o
turned x y o e = nat_list_cmp_total.antisymm y x ∙ ap ordering_reverse e

same : (x y : Text) → cmp x y ≡ Equal → x ≡ y
same x y e = (bytes_eq-Decides x y).0 (sym (is_eq-slice_cmp x y) ∙ ap is_eq e)

-- Two insertions, of which the first is the smaller one, may be swapped.
ordered : (x y : Text) (ns : List Text) → cmp x y ≡ Less → inserted y (inserted x ns) ≡ inserted x (inserted y ns)
ordered x y [] l = search (arith, rules, turned, at_head)
ordered x y (z ∷ zs) l = by (ordered x y zs l) (cmp x z) (cmp y z) refl refl
  where
    after : cmp y x ≡ Greater
    after = turned x y Less l

    by : inserted y (inserted x zs) ≡ inserted x (inserted y zs) → (o r : Ordering) → cmp x z ≡ o → cmp y z ≡ r
        → inserted y (inserted x (z ∷ zs)) ≡ inserted x (inserted y (z ∷ zs))
    by later Less r e f = search (arith, rules, at_head, after)
    by later Equal r e f =
        let g : cmp y z ≡ Greater = ap (cmp y) (sym (same x z e)) ∙ after in search (arith, rules, at_head)
    by later Greater r e f = search (arith, rules, turned, nat_list_cmp_total, at_head)

swapped : (x y : Text) (ns : List Text) → inserted y (inserted x ns) ≡ inserted x (inserted y ns)
swapped x y ns = by (cmp x y) refl
  where
    by : (o : Ordering) → cmp x y ≡ o → inserted y (inserted x ns) ≡ inserted x (inserted y ns)
    by Less e = ordered x y ns e
    by Equal e = rw (same x y e)
    by Greater e = sym (ordered y x ns (turned x y Greater e))

pub past : (y : Text) (xs ns : List Text) → inserted y (all_inserted xs ns) ≡ all_inserted xs (inserted y ns)
past y [] ns = refl
past y (x ∷ xs) ns = past y xs (inserted x ns) ∙ ap (all_inserted xs) (swapped x y ns)

itself : (x : Text) → cmp x x ≡ Equal
itself x = (Equal-is (cmp x x)).0 (is_eq-slice_cmp x x ∙ nat_list_eq_equiv.refl x)

again : (x : Text) (ns : List Text) → inserted x (inserted x ns) ≡ inserted x ns
again x [] = at_head x x [] Equal (itself x)
again x (y ∷ ys) = by (again x ys) (cmp x y) refl
  where
    by : inserted x (inserted x ys) ≡ inserted x ys → (o : Ordering) → cmp x y ≡ o
        → inserted x (inserted x (y ∷ ys)) ≡ inserted x (y ∷ ys)
    by later Less e = search (arith, rules, at_head, itself)
    by later o e = search (arith, rules, at_head, itself)

-- ---- What is inserted depends only on which texts are in a list

pub among_inserted : (q x : Text) (ns : List Text) → among q (inserted x ns) ≡ (bytes_eq x q || among q ns)
among_inserted q x [] = refl
among_inserted q x (y ∷ ys) = search (arith, rules, bytes_eq-Decides, among_inserted q x ys)

pub among_all : (q : Text) (xs ns : List Text) → among q (all_inserted xs ns) ≡ (among q xs || among q ns)
among_all q [] ns = refl
among_all q (x ∷ xs) ns = search (arith, rules, among_all q xs (inserted x ns), among_inserted)

-- A text of the list is inserted with it.
pub absorbed : (x : Text) (xs ns : List Text) → among x xs ≡ true → all_inserted xs (inserted x ns) ≡ all_inserted xs ns
absorbed x [] ns h = absurd (cc)
absorbed x (y ∷ ys) ns h = by (bytes_eq y x) refl (absorbed x ys (inserted y ns)) h
  where
    by : (b : Bool) → bytes_eq y x ≡ b
        → (among x ys ≡ true → all_inserted ys (inserted x (inserted y ns)) ≡ all_inserted ys (inserted y ns))
        → (b || among x ys) ≡ true → all_inserted ys (inserted y (inserted x ns)) ≡ all_inserted ys (inserted y ns)
    by true e later h = search (arith, rules, again, bytes_eq-Decides)
    by false e later h = ap (all_inserted ys) (swapped x y ns) ∙ later h

absorbs : (xs ys ns : List Text) → ((q : Text) → among q xs ≡ true → among q ys ≡ true)
    → all_inserted ys (all_inserted xs ns) ≡ all_inserted ys ns
absorbs [] ys ns h = refl
absorbs (x ∷ xs) ys ns h = search (arith, rules, nat_list_eq_equiv, or_right, absorbs xs ys, absorbed)

crossed : (xs ys ns : List Text) → all_inserted ys (all_inserted xs ns) ≡ all_inserted xs (all_inserted ys ns)
crossed xs [] ns = refl
crossed xs (y ∷ ys) ns = ap (all_inserted ys) (past y xs ns) ∙ crossed xs ys (inserted y ns)

pub inserted_alike : (xs ys ns : List Text) → ((q : Text) → among q xs ≡ among q ys)
    → all_inserted xs ns ≡ all_inserted ys ns
inserted_alike xs ys ns h =
    sym (absorbs ys xs ns (λ q e. h q ∙ e)) ∙ crossed ys xs ns ∙ absorbs xs ys ns (λ q e. sym (h q) ∙ e)

-- The different texts of a list may be inserted in its place.
pub ascending_inserted : (xs ms : List Text) → all_inserted (ascending xs) ms ≡ all_inserted xs ms
ascending_inserted xs ms = inserted_alike (ascending xs) xs ms (λ q. search (arith, rules, among_all))
