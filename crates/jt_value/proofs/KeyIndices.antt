-- The index of a key's first value, and the value there.
use Rattle.std.proofs.Common.{◌≡◌, ℕ, zero, suc, ◌+◌, ◌<◌, Bool, true, false, cond, List, [], ◌∷◌, length, take, drop}
use Rattle.std.proofs.Common.{get_or, Option, Some, None, String, Global, nat_lt, refl, sym, ap}
use Rattle.std.proofs.Common.{◌∙◌, subst, arith}
use Rattle.std.specs.Prelude.{option_map, is_some}
use Rattle.std.specs.Option.{option_map_or}
use Rattle.std.specs.Str.{bytes_eq}
use Rattle.std.specs.Map.{update}
use Rattle.std.specs.BTreeMap.{BTreeMap, get_by_text}
use Rattle.std.proofs.lemmas.List.{drop_more}
use Rattle.std.proofs.lemmas.Bool.Decides.{nat_tests}
use Rattle.jt_value.specs.Tree.{Entries, no_entries, entry, size, entries_size}
use Rattle.jt_value.specs.Entries.{index_of, entry_of, has_key}
use Rattle.jt_value.specs.View.{view, entries_view}
use Rattle.jt_value.proofs.Lists.{Pair}
use Rattle.jt_value.proofs.EntryLaws.{missing, has_key-entry_of}

-- A key occurs exactly if it has an index.
pub has_key-index_of : (k : List ℕ) (es : Entries) → has_key k es ≡ is_some (index_of k es)
has_key-index_of k no_entries = refl
has_key-index_of k (entry l t es) = by (bytes_eq l k) (has_key-index_of k es)
  where
    by : (b : Bool) → has_key k es ≡ is_some (index_of k es)
        → cond b true (has_key k es) ≡ is_some (cond b (Some 0) (option_map suc (index_of k es)))
    by true rest = refl
    by false rest = rest ∙ mapped (index_of k es)
      where
        mapped : (o : Option ℕ) → is_some o ≡ is_some (option_map suc o)
        mapped None = refl
        mapped (Some p) = refl

-- The value at the index of a key is the key's first value.
abbrev At : List Pair → List ℕ → Option ℕ → Type 0
At xs k None = entry_of k (entries_view xs) ≡ None
At xs k (Some i) = (i < length xs) × ((d : Pair) → entry_of k (entries_view xs) ≡ Some (view (get_or xs i d).1))

pub at_index : (xs : List Pair) (k : List ℕ) → At xs k (index_of k (entries_view xs))
at_index [] k = refl
at_index (x ∷ xs) k = by (bytes_eq x.0 k) refl (index_of k (entries_view xs)) (at_index xs k)
  where
    by : (b : Bool) → bytes_eq x.0 k ≡ b → (o : Option ℕ) → At xs k o
        → At (x ∷ xs) k (cond b (Some 0) (option_map suc o))
    by true e o rest = (omega arith, λ d. ap (λ b. cond b (Some (view x.1)) (entry_of k (entries_view xs))) e)
    by false e None rest = ap (λ b. cond b (Some (view x.1)) (entry_of k (entries_view xs))) e ∙ rest
    by false e (Some i) rest =
        (omega (arith, rest.0), λ d. ap (λ b. cond b (Some (view x.1)) (entry_of k (entries_view xs))) e ∙ rest.1 d)

pub indexed : (xs : List Pair) (k : List ℕ) (i : ℕ) → Some i ≡ index_of k (entries_view xs) → At xs k (Some i)
indexed xs k i e = subst (At xs k) (sym e) (at_index xs k)

pub not_indexed : (k : List ℕ) (es : Entries) → None ≡ index_of k es → entry_of k es ≡ None
not_indexed k es e = missing (entry_of k es) (sym (has_key-entry_of k es) ∙ has_key-index_of k es ∙ ap is_some (sym e))

-- A key occurs in the first entries exactly if its index is less than their number.
pub stands_among : (xs : List Pair) (k : List ℕ) (i : ℕ)
    → has_key k (entries_view (take i xs)) ≡ option_map_or (λ p. nat_lt p i) (index_of k (entries_view xs)) false
stands_among [] k zero = refl
stands_among [] k (suc i) = refl
stands_among (x ∷ xs) k zero = none (index_of k (entries_view (x ∷ xs)))
  where
    none : (o : Option ℕ) → false ≡ option_map_or (λ p. nat_lt p 0) o false
    none None = refl
    none (Some p) = grind (arith, nat_tests)
stands_among (x ∷ xs) k (suc i) =
    by (bytes_eq x.0 k) (index_of k (entries_view xs)) (stands_among xs k i)
  where
    by : (b : Bool) (o : Option ℕ) → has_key k (entries_view (take i xs)) ≡ option_map_or (λ p. nat_lt p i) o false
        → cond b true (has_key k (entries_view (take i xs)))
        ≡ option_map_or (λ p. nat_lt p (suc i)) (cond b (Some 0) (option_map suc o)) false
    by true o rest = grind (arith, nat_tests)
    by false None rest = rest
    by false (Some p) rest = rest ∙ grind (arith, nat_tests)

-- `stands_among` in the form that the proof of `has_before` uses.
pub seen : (k m : List ℕ) (xs : List Pair) (es : Entries) → entries_view xs ≡ es → (i j : ℕ) (b : Bool)
    → b ≡ option_map_or (λ p. nat_lt p j) (index_of k es) false → k ≡ m → j ≡ i
    → has_key m (entries_view (take i xs)) ≡ b
seen k m xs es same i j b h p q =
    stands_among xs m i
    ∙ ap (λ fs. option_map_or (λ o. nat_lt o i) (index_of m fs) false) same
    ∙ ap (λ n. option_map_or (λ o. nat_lt o i) (index_of n es) false) (sym p)
    ∙ ap (λ n. option_map_or (λ o. nat_lt o n) (index_of k es) false) (sym q)
    ∙ sym h

-- The value of an entry is smaller than the map of the entries.
pub size_lt : (xs : List Pair) (i : ℕ) (e : Pair) → i < length xs → e ≡ get_or xs i e
    → size (view e.1) < entries_size (entries_view xs)
size_lt [] i e lt is = absurd (omega arith)
size_lt (x ∷ xs) zero e lt is =
    let s : size (view e.1) ≡ size (view x.1) = ap (λ (y : Pair). size (view y.1)) is in omega (arith, s)
size_lt (x ∷ xs) (suc i) e lt is = omega (arith, size_lt xs i e (omega arith) is)

-- ---- The stored indices

-- Holds if the stored index maps each key to its first entry among the entries from i on.
abbrev pub IsKept : List Pair → ℕ → BTreeMap (String Global) ℕ → Type 0
IsKept xs i indices =
    (k : List ℕ) → get_by_text indices k ≡ option_map (λ p. i + p) (index_of k (entries_view (drop i xs)))

pub kept_more : (xs : List Pair) (i j : ℕ) (e : Pair) (n : List ℕ) (old new : BTreeMap (String Global) ℕ) → j ≡ i + 1
    → i < length xs → e ≡ get_or xs i e → n ≡ e.0 → IsKept xs j old
    → ((k : List ℕ) → get_by_text new k ≡ update bytes_eq (get_by_text old) n (Some i) k) → IsKept xs i new
kept_more xs i j e n old new is lt at name before put k =
    put k
    ∙ ap (λ (m : List ℕ). cond (bytes_eq m k) (Some i) (get_by_text old k)) name
    ∙ by (bytes_eq e.0 k) (index_of k (entries_view (drop j xs))) (before k)
    ∙ sym (ap (λ (l : List Pair). option_map (λ p. i + p) (index_of k (entries_view l)))
    (drop_more xs i e lt ∙ ap (λ (y : Pair). y ∷ drop (i + 1) xs) (sym at) ∙ ap (λ m. e ∷ drop m xs) (sym is)))
  where
    by : (b : Bool) (o : Option ℕ) → get_by_text old k ≡ option_map (λ p. j + p) o
        → cond b (Some i) (get_by_text old k) ≡ option_map (λ p. i + p) (cond b (Some 0) (option_map suc o))
    by true o h = ap Some (omega arith)
    by false None h = h
    by false (Some p) h = h ∙ ap Some (omega (arith, is))

pub kept_all : (xs : List Pair) (i : ℕ) (indices : BTreeMap (String Global) ℕ) → i ≡ 0 → IsKept xs i indices
    → (k : List ℕ) → get_by_text indices k ≡ index_of k (entries_view xs)
kept_all xs i indices e h k =
    h k ∙ ap (λ n. option_map (λ p. n + p) (index_of k (entries_view (drop n xs)))) e
    ∙ same (index_of k (entries_view xs))
  where
    same : (o : Option ℕ) → option_map (λ p. 0 + p) o ≡ o
    same None = refl
    same (Some p) = ap Some (omega arith)
