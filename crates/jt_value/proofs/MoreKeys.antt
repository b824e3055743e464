-- One more entry, whose key is new: the indices of keys, and ascending keys.
use Rattle.std.proofs.Common.{◌≡◌, ℕ, zero, suc, ◌+◌, Bool, true, false, cond, List, [], ◌∷◌, length}
use Rattle.std.proofs.Common.{get_or, Option, Some, None, String, Global, nat_cmp, refl, sym, ap, ◌∙◌}
use Rattle.std.proofs.Common.{true≢false, arith}
use Rattle.std.specs.Prelude.{option_map, is_some}
use Rattle.std.specs.Str.{bytes_eq}
use Rattle.std.specs.Ordering.{is_lt}
use Rattle.std.specs.Map.{update}
use Rattle.std.specs.Cmp.Lexicographic.{slice_cmp, same_text}
use Rattle.std.specs.BTreeMap.{BTreeMap, get_by_text}
use Rattle.std.proofs.lemmas.Bool.{and_from}
use Rattle.jt_value.specs.Tree.{Tree}
use Rattle.jt_value.specs.Entries.{index_of, ascends}
use Rattle.jt_value.specs.View.{entries_view}
use Rattle.jt_value.specs.internal.MoreEntries.{more_entries}
use Rattle.jt_value.proofs.Equalities.{left_true, right_true}
use Rattle.jt_value.proofs.Lists.{Pair}

-- A new key has the index after the last one, and every other key keeps its index.
pub index_of-more : (xs : List Pair) (l : List ℕ) (u : Tree) (k : List ℕ) → index_of l (entries_view xs) ≡ None
    → index_of k (more_entries (entries_view xs) l u)
    ≡ cond (bytes_eq l k) (Some (length xs)) (index_of k (entries_view xs))
index_of-more [] l u k new = refl
index_of-more (x ∷ xs) l u k new =
    by (bytes_eq x.0 k) refl (bytes_eq l k) refl (index_of-more xs l u k later)
  where
    other : (b : Bool) (o : Option ℕ) → cond b (Some 0) (option_map suc o) ≡ None → b ≡ false
    other true o h = absurd (true≢false (ap is_some h))
    other false o h = refl

    rest : (b : Bool) (o : Option ℕ) → cond b (Some 0) (option_map suc o) ≡ None → o ≡ None
    rest true o h = absurd (true≢false (ap is_some h))
    rest false None h = refl
    rest false (Some p) h = absurd (true≢false (ap is_some h))

    later : index_of l (entries_view xs) ≡ None
    later = rest (bytes_eq x.0 l) (index_of l (entries_view xs)) new

    by : (b : Bool) → bytes_eq x.0 k ≡ b → (c : Bool) → bytes_eq l k ≡ c
        → index_of k (more_entries (entries_view xs) l u) ≡ cond c (Some (length xs)) (index_of k (entries_view xs))
        → cond b (Some 0) (option_map suc (index_of k (more_entries (entries_view xs) l u)))
        ≡ cond c (Some (suc (length xs))) (cond b (Some 0) (option_map suc (index_of k (entries_view xs))))
    by true e true d h =
        absurd (true≢false (sym e ∙ ap (bytes_eq x.0) (sym (same_text l k (sym d)))
        ∙ other (bytes_eq x.0 l) (index_of l (entries_view xs)) new))
    by true e false d h = refl
    by false e true d h = ap (option_map suc) h
    by false e false d h = ap (option_map suc) h

-- The index of keys with one more key.
pub kept_one_more : (xs : List Pair) (l : List ℕ) (u : Tree) (i : ℕ) (old new : BTreeMap (String Global) ℕ)
    → i ≡ length xs → index_of l (entries_view xs) ≡ None
    → ((k : List ℕ) → get_by_text old k ≡ index_of k (entries_view xs))
    → ((k : List ℕ) → get_by_text new k ≡ update bytes_eq (get_by_text old) l (Some i) k)
    → (k : List ℕ) → get_by_text new k ≡ index_of k (more_entries (entries_view xs) l u)
kept_one_more xs l u i old new at free before put k =
    put k ∙ ap (cond (bytes_eq l k) (Some i)) (before k)
    ∙ ap (λ n. cond (bytes_eq l k) (Some n) (index_of k (entries_view xs))) at
    ∙ sym (index_of-more xs l u k free)

-- If keys ascend, they still ascend with a key at the end that follows the last one.
pub ascends-more : (xs : List Pair) (i : ℕ) (e : Pair) (l : List ℕ) (u : Tree) → length xs ≡ i + 1
    → e ≡ get_or xs i e → is_lt (slice_cmp nat_cmp e.0 l) ≡ true
    → ascends (entries_view xs) ≡ true → ascends (more_entries (entries_view xs) l u) ≡ true
ascends-more [] i e l u last is less up = absurd (omega (arith, last))
ascends-more (x ∷ []) zero e l u last is less up =
    and_from (is_lt (slice_cmp nat_cmp x.0 l)) true
    (ap (λ (y : Pair). is_lt (slice_cmp nat_cmp y.0 l)) (sym is) ∙ less) refl
ascends-more (x ∷ []) (suc i) e l u last is less up = absurd (omega (arith, last))
ascends-more (x ∷ y ∷ xs) zero e l u last is less up = absurd (omega (arith, last))
ascends-more (x ∷ y ∷ xs) (suc i) e l u last is less up =
    and_from (is_lt (slice_cmp nat_cmp x.0 y.0))
    (ascends (more_entries (entries_view (y ∷ xs)) l u))
    (left_true (is_lt (slice_cmp nat_cmp x.0 y.0)) (ascends (entries_view (y ∷ xs))) up)
    (ascends-more (y ∷ xs) i e l u (omega (arith, last)) is less
    (right_true (is_lt (slice_cmp nat_cmp x.0 y.0)) (ascends (entries_view (y ∷ xs)))
    up))
