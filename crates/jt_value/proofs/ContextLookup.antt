-- The table of a context: look-ups and changes of its entries are those of its pairs.
use Rattle.std.proofs.Common.{◌≡◌, ℕ, zero, suc, ◌+◌, ◌<◌, ◌≤◌, Bool, true, false, cond, ◌&&◌, List, [], ◌∷◌, ◌++◌}
use Rattle.std.proofs.Common.{map, get_or, set, Option, Some, None, String, Global, nat_cmp, is_eq, string_bytes, refl}
use Rattle.std.proofs.Common.{sym, ap, ◌∙◌, subst, true≢false, arith}
use Rattle.std.specs.Prelude.{option_map, is_some, OnOk, Result, Ok, Err}
use Rattle.std.specs.Result.{is_err}
use Rattle.std.specs.Str.{bytes_eq}
use Rattle.std.specs.String.{string_eq}
use Rattle.std.specs.List.{IsDistinct, AllByRecursion}
use Rattle.std.specs.Map.{keys_of}
use Rattle.std.specs.Cmp.Lexicographic.{slice_cmp, nat_list_eq_equiv, same_text}
use Rattle.std.specs.Ordering.{is_lt}
use Rattle.std.proofs.lemmas.List.{map-append}
use Rattle.std.proofs.lemmas.Map.Text.{is_eq-slice_cmp}
use Rattle.jt_value.specs.ContextTable.{room}
use Rattle.jt_value.specs.Tree.{Tree, entry}
use Rattle.jt_value.specs.Entries.{entry_of, index_of, stands_before, ascends}
use Rattle.jt_value.specs.KeySearch.{Finds}
use Rattle.jt_value.specs.View.{view, entries_view, text_keyed}
use Rattle.jt_value.specs.Pairs.{Pairs, pairs, look, put, HasDistinctNames}
use Rattle.jt_value.specs.internal.MoreEntries.{more_entries, IsLinear}
use Rattle.jt_value.specs.declared.key_search.KeySearch.{KeySearch}
use Rattle.jt_value.specs.declared.key_search.KeySearch.TheVariants as search
use Rattle.jt_value.specs.declared.value.Value.{Value}
use Rattle.jt_value.proofs.KeyIndices.{not_indexed}
use Rattle.jt_value.proofs.Lists.{Pair, entries_view-push}

-- A name is found at a key in a tree map exactly if the two are equal.
pub same_key : (n k : List ℕ) → is_eq (slice_cmp nat_cmp n k) ≡ bytes_eq k n
same_key n k = is_eq-slice_cmp n k ∙ nat_list_eq_equiv.symm n k

-- The first value of a name in the entries is its value in the pairs.
pub look-entries : (n : List ℕ) (es : List Pair) → entry_of n (entries_view es) ≡ look n (pairs es)
look-entries n [] = refl
look-entries n (e ∷ es) =
    ap (λ o. cond (bytes_eq e.0 n) (Some (view e.1)) o) (look-entries n es)

-- The index of a name among entries, for an equal name and equal entries.
pub moved : (o : Option ℕ) (k n : List ℕ) (xs es : List Pair) → o ≡ index_of k (entries_view xs) → k ≡ n → xs ≡ es
    → o ≡ index_of n (entries_view es)
moved o k n xs es h name same =
    h ∙ ap (λ m. index_of m (entries_view xs)) name ∙ ap (λ (ys : List Pair). index_of n (entries_view ys)) same

-- ---- The value of a name that exists

-- The index of a key in entries: that of the first entry, or one more than the index in the rest.
at_first : (o : Option ℕ) (i : ℕ) → Some i ≡ cond true (Some 0) (option_map suc o) → 0 ≡ i
at_first o i h = cc

at_later : (o : Option ℕ) (i : ℕ) → Some i ≡ option_map suc o → (p : ℕ) × (Some p ≡ o) × (suc p ≡ i)
at_later None i h = absurd (true≢false (ap is_some h))
at_later (Some p) i h = (p, refl, cc)

-- A value that is written at the index of its name is put at the name.
pub put_at : (n : List ℕ) (es : List Pair) (i : ℕ) (v : Value) (d : Pair) → Some i ≡ index_of n (entries_view es)
    → d ≡ get_or es i d → pairs (set es i (d.0, v)) ≡ put n (view v) (pairs es)
put_at n [] i v d at is = absurd (true≢false (ap is_some at))
put_at n (x ∷ es) i v d at is =
    by (bytes_eq x.0 n) at (λ j. put_at n es j v d)
  where
    by : (b : Bool) → Some i ≡ cond b (Some 0) (option_map suc (index_of n (entries_view es)))
        → ((j : ℕ) → Some j ≡ index_of n (entries_view es) → d ≡ get_or es j d
        → pairs (set es j (d.0, v)) ≡ put n (view v) (pairs es))
        → pairs (set (x ∷ es) i (d.0, v))
        ≡ cond b ((x.0, view v) ∷ pairs es)
        ((x.0, view x.1) ∷ put n (view v) (pairs es))
    by true h rest =
        let zeroth = at_first (index_of n (entries_view es)) i h in
        let first : d ≡ x = subst (λ j. d ≡ get_or (x ∷ es) j d) (sym zeroth) is in
        subst (λ j. pairs (set (x ∷ es) j (d.0, v)) ≡ (x.0, view v) ∷ pairs es) zeroth
        (ap (λ (y : Pair). (y.0, view v) ∷ pairs es) first)
    by false h rest =
        let next = at_later (index_of n (entries_view es)) i h in
        let later : d ≡ get_or es next.0 d = subst (λ j. d ≡ get_or (x ∷ es) j d) (sym next.2) is in
        subst (λ j. pairs (set (x ∷ es) j (d.0, v))
        ≡ (x.0, view x.1) ∷ put n (view v) (pairs es)) next.2
        (ap (λ ps. (x.0, view x.1) ∷ ps) (rest next.0 next.1 later))

-- A written value changes no key, so the search still finds each.
same_indices : (k : List ℕ) (es : List Pair) (i : ℕ) (v : Value) (d : Pair) → d ≡ get_or es i d
    → index_of k (entries_view (set es i (d.0, v))) ≡ index_of k (entries_view es)
same_indices k [] i v d is = refl
same_indices k (x ∷ es) zero v d is =
    ap (λ (y : Pair). cond (bytes_eq y.0 k) (Some 0) (option_map suc (index_of k (entries_view es)))) is
same_indices k (x ∷ es) (suc i) v d is =
    ap (λ o. cond (bytes_eq x.0 k) (Some 0) (option_map suc o)) (same_indices k es i v d is)

same_first : (k : List ℕ) (es : List Pair) (i : ℕ) (v : Value) (d : Pair) → d ≡ get_or es i d
    → stands_before k (entries_view (set es i (d.0, v))) ≡ stands_before k (entries_view es)
same_first k [] i v d is = refl
same_first k (x ∷ es) zero v d is = ap (λ (y : Pair). is_lt (slice_cmp nat_cmp k y.0)) is
same_first k (x ∷ es) (suc i) v d is = refl

same_ascends : (es : List Pair) (i : ℕ) (v : Value) (d : Pair) → d ≡ get_or es i d
    → ascends (entries_view (set es i (d.0, v))) ≡ ascends (entries_view es)
same_ascends [] i v d is = refl
same_ascends (x ∷ es) zero v d is =
    ap (λ (y : Pair). ascends (entry y.0 (view v) (entries_view es))) is
same_ascends (x ∷ es) (suc i) v d is =
    ap (λ b. b && ascends (entries_view (set es i (d.0, v)))) (same_first x.0 es i v d is)
    ∙ ap (λ b. stands_before x.0 (entries_view es) && b) (same_ascends es i v d is)

pub still_finds : (s : KeySearch) (es : List Pair) (i : ℕ) (v : Value) (d : Pair) → d ≡ get_or es i d
    → Finds s (entries_view es) → Finds s (entries_view (set es i (d.0, v)))
still_finds search.Linear es i v d is h = tt
still_finds search.Binary es i v d is h = same_ascends es i v d is ∙ h
still_finds (search.Indexed indices) es i v d is h = λ k. h k ∙ sym (same_indices k es i v d is)

-- ---- A new name

-- A new name is put after all pairs.
put_last : (n : List ℕ) (t : Tree) (es : List Pair) → index_of n (entries_view es) ≡ None
    → put n t (pairs es) ≡ pairs es ++ (n, t) ∷ []
put_last n t [] h = refl
put_last n t (x ∷ es) h = by (bytes_eq x.0 n) (index_of n (entries_view es)) (put_last n t es) refl h
  where
    by : (b : Bool) (o : Option ℕ)
        → (index_of n (entries_view es) ≡ None → put n t (pairs es) ≡ pairs es ++ (n, t) ∷ [])
        → index_of n (entries_view es) ≡ o → cond b (Some 0) (option_map suc o) ≡ None
        → cond b ((x.0, t) ∷ pairs es) ((x.0, view x.1) ∷ put n t (pairs es))
        ≡ (x.0, view x.1) ∷ pairs es ++ (n, t) ∷ []
    by true o rest e h = absurd (true≢false (ap is_some h))
    by false None rest e h = ap (λ ps. (x.0, view x.1) ∷ ps) (rest e)
    by false (Some p) rest e h = absurd (true≢false (ap is_some h))

pub put_new : (k : List ℕ) (v : Value) (es : List Pair) → index_of k (entries_view es) ≡ None
    → pairs (es ++ (k, v) ∷ []) ≡ put k (view v) (pairs es)
put_new k v es h =
    map-append (λ (e : Pair). (e.0, view e.1)) es ((k, v) ∷ [])
    ∙ sym (put_last k (view v) es h)

pub finds_new : (s : KeySearch) (k : List ℕ) (v : Value) (es xs : List Pair) (n : List ℕ) → xs ≡ es
    → n ≡ k → ((t : Tree) → Finds s (more_entries (entries_view xs) n t))
    → Finds s (entries_view (es ++ (k, v) ∷ []))
finds_new s k v es xs n same name h =
    subst (Finds s)
    (ap (λ ys. more_entries (entries_view ys) n (view v)) same
    ∙ ap (λ m. more_entries (entries_view es) m (view v)) name ∙ sym (entries_view-push es (k, v)))
    (h (view v))

-- A name without an index has no value.
pub absent : (n : List ℕ) (es : List Pair) → None ≡ index_of n (entries_view es) → look n (pairs es) ≡ None
absent n es h = sym (look-entries n es) ∙ not_indexed n (entries_view es) h

-- If a call did not fail, the promise of its success holds.
pub unless_failed : {T E : Type 0} (r : Result T E) (P : Type 0) → false ≡ is_err r → OnOk r P → P
unless_failed (Ok x) P e h = h
unless_failed (Err x) P e h = absurd (true≢false (sym e))

-- ---- The laws of put

-- After a put, the name has the new value, and each other name keeps its value.
pub look-put : (n : List ℕ) (t : Tree) (ps : Pairs) (m : List ℕ)
    → look m (put n t ps) ≡ cond (bytes_eq n m) (Some t) (look m ps)
look-put n t [] m = refl
look-put n t (p ∷ ps) m = by (bytes_eq p.0 n) refl (look-put n t ps m)
  where
    there : (b : Bool) → cond b (Some t) (look m ps) ≡ cond b (Some t) (cond b (Some p.1) (look m ps))
    there true = refl
    there false = refl

    other : (b c : Bool) → bytes_eq p.0 m ≡ b → bytes_eq n m ≡ c → bytes_eq p.0 n ≡ false
        → cond b (Some p.1) (cond c (Some t) (look m ps)) ≡ cond c (Some t) (cond b (Some p.1) (look m ps))
    other true true e f apart =
        absurd (true≢false (sym e ∙ ap (bytes_eq p.0) (sym (same_text n m (sym f))) ∙ apart))
    other true false e f apart = refl
    other false true e f apart = refl
    other false false e f apart = refl

    by : (b : Bool) → bytes_eq p.0 n ≡ b → look m (put n t ps) ≡ cond (bytes_eq n m) (Some t) (look m ps)
        → look m (cond b ((p.0, t) ∷ ps) (p ∷ put n t ps))
        ≡ cond (bytes_eq n m) (Some t) (cond (bytes_eq p.0 m) (Some p.1) (look m ps))
    by true e rest =
        there (bytes_eq p.0 m)
        ∙ ap (λ l. cond (bytes_eq l m) (Some t) (cond (bytes_eq p.0 m) (Some p.1) (look m ps)))
        (same_text p.0 n (sym e))
    by false e rest =
        ap (cond (bytes_eq p.0 m) (Some p.1)) rest ∙ other (bytes_eq p.0 m) (bytes_eq n m) refl refl e

all_put : (P : List ℕ → Type 0) (n : List ℕ) (t : Tree) (ps : Pairs) → AllByRecursion P (map (λ p. p.0) ps) → P n
    → AllByRecursion P (map (λ p. p.0) (put n t ps))
all_put P n t [] h new = (new, tt)
all_put P n t (p ∷ ps) h new = by (bytes_eq p.0 n) (all_put P n t ps h.1 new)
  where
    by : (b : Bool) → AllByRecursion P (map (λ q. q.0) (put n t ps))
        → AllByRecursion P (map (λ q. q.0) (cond b ((p.0, t) ∷ ps) (p ∷ put n t ps)))
    by true rest = h
    by false rest = (h.0, rest)

-- The names stay distinct.
pub distinct_put : (n : List ℕ) (t : Tree) (ps : Pairs) → HasDistinctNames ps → HasDistinctNames (put n t ps)
unfolding IsDistinct
distinct_put n t [] h = (tt, tt)
distinct_put n t (p ∷ ps) h = by (bytes_eq p.0 n) refl (distinct_put n t ps h.1)
  where
    by : (b : Bool) → bytes_eq p.0 n ≡ b → HasDistinctNames (put n t ps)
        → HasDistinctNames (cond b ((p.0, t) ∷ ps) (p ∷ put n t ps))
    by true e rest = h
    by false e rest = (all_put (λ m. bytes_eq p.0 m ≡ false) n t ps h.0 e, rest)

pub distinct-none : HasDistinctNames []
unfolding IsDistinct
distinct-none = tt

-- Distinct keys of a map are distinct names.
apart : (k : String Global) (es : List (String Global × Value))
    → AllByRecursion (λ y. string_eq k y ≡ false) (keys_of es)
    → AllByRecursion (λ y. bytes_eq (string_bytes k) y ≡ false) (map (λ p. p.0) (pairs (text_keyed es)))
apart k [] h = h
apart k (e ∷ es) h = (h.0, apart k es h.1)

pub distinct-pairs : (es : List (String Global × Value)) → IsDistinct string_eq (keys_of es)
    → HasDistinctNames (pairs (text_keyed es))
unfolding IsDistinct
distinct-pairs [] h = h
distinct-pairs (e ∷ es) h = (apart e.0 es h.0, distinct-pairs es h.1)

-- ---- Room

-- Where there is room, the names are few and the table is not full.
pub has_room : (s : KeySearch) (n p : ℕ) → 0 < room s n p → IsLinear s × (n < p) × (n < 8)
has_room search.Linear n p h = (tt, omega arith, omega arith)
has_room search.Binary n p h = absurd (omega arith)
has_room (search.Indexed indices) n p h = absurd (omega arith)

none : (m : ℕ) → (0 < m → ⊥) → m ≤ 0 + 1
none zero h = omega arith
none (suc m) h = absurd (h (omega arith))
