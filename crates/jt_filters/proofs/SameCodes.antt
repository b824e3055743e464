-- Items that are alike have the same code.
use Rattle.std.proofs.Common.{◌≡◌, ℕ, ℤ, Bool, true, false, cond, ◌&&◌, List, ◌∷◌, ◌++◌, Some, None, refl, sym, ap, ◌∙◌}
use Rattle.std.proofs.Common.{true≢false, arith, rules}
use Rattle.std.proofs.lemmas.Map.Text.{is_eq-slice_cmp}
use Rattle.std.proofs.lemmas.Slice.Eq.{bytes_eq-Decides}
use Rattle.std.specs.BTreeMap.{is_at}
use Rattle.std.specs.Cmp.{signed_Decides}
use Rattle.std.specs.Cmp.Lexicographic.{nat_list_eq_equiv}
use Rattle.std.specs.List.Sorted.{IsStrictlySortedBy}
use Rattle.std.specs.Map.{keys_of, lookup}
use Rattle.std.specs.Option.{option_map_or}
use Rattle.std.specs.Ordering.{int_eq, is_eq}
use Rattle.std.specs.Prelude.{Option, option_map}
use Rattle.std.specs.Str.{bytes_eq}
use Rattle.jt_value.specs.Entries.{entry_of, has_key, all_keys}
use Rattle.jt_value.specs.Equality.{equal, equal_items, equal_at, truth_number}
use Rattle.jt_value.specs.Payload.{text_of}
use Rattle.jt_value.specs.Tree as tree
use Rattle.jt_value.specs.Tree.{Tree, Items, no_items, item, Entries, no_entries, entry}
use Rattle.jt_filters.specs.internal.Codes.{number_code, text_code, Rows, rows_code, code, items_code, rows, item_code}
use Rattle.jt_filter_semantics.specs.Ordering.{fold, alike}
use Rattle.jt_filters.proofs.SortedInsertion.{cmp, lookup-inserted, sorted-inserted, same_rows}
use Rattle.jt_value.proofs.Equalities.{holds_of}
use Rattle.std.proofs.lemmas.Bool.{and_parts}

pub folded_text : (t : Tree) (s : List ℕ) → Some s ≡ text_of t → item_code t ≡ text_code (fold s)
folded_text t s a2 = search (arith, rules)

pub no_text : (t : Tree) → None ≡ text_of t → item_code t ≡ code t
no_text t a1 = search (arith, rules)

-- The rows of a map have ascending keys, and at each key the code of its first value.
sorted_rows : (es : Entries) → IsStrictlySortedBy cmp (keys_of (rows es))
unfolding IsStrictlySortedBy
sorted_rows no_entries = tt
sorted_rows (entry k t es) = sorted-inserted k (code t) (rows es) (sorted_rows es)

row_first : (b : Bool) (t : Tree) (o : Option Tree)
    → cond b (Some (code t)) (option_map code o) ≡ option_map code (cond b (Some t) o)
row_first true t o = refl
row_first false t o = refl

row_of : (q : List ℕ) (es : Entries) → lookup (is_at (cmp q)) (rows es) ≡ option_map code (entry_of q es)
row_of q no_entries = refl
row_of q (entry k t es) =
    lookup-inserted (λ (l : List ℕ). l) k (code t) q (rows es)
    ∙ ap (λ (o : Option (List ℕ)). cond (is_eq (cmp q k)) (Some (code t)) o) (row_of q es)
    ∙ ap (λ (b : Bool). cond b (Some (code t)) (option_map code (entry_of q es)))
    (is_eq-slice_cmp q k ∙ nat_list_eq_equiv.symm q k)
    ∙ row_first (bytes_eq k q) t (entry_of q es)

same_number : (x y : ℤ) → int_eq x y ≡ true → number_code x ≡ number_code y
same_number x y e = ap number_code ((signed_Decides x y).0 e)

same_text : (s t : List ℕ) → bytes_eq s t ≡ true → text_code s ≡ text_code t
same_text s t e = ap text_code ((bytes_eq-Decides s t).0 e)

no_key : (k : List ℕ) (es : Entries) → has_key k es ≡ false → entry_of k es ≡ None
no_key k no_entries e = refl
no_key k (entry l t es) e = by (bytes_eq l k) e (no_key k es)
  where
    by : (b : Bool) → cond b true (has_key k es) ≡ false → (has_key k es ≡ false → entry_of k es ≡ None)
        → cond b (Some t) (entry_of k es) ≡ None
    by true p rest = absurd (true≢false p)
    by false p rest = rest p

-- Equal maps have the same rows, if equal values at a key have the same code.
same_maps : (es fs : Entries)
    → ((k : List ℕ) (o : Option Tree) → equal_at es k o ≡ true → option_map code (entry_of k es) ≡ option_map code o)
    → equal (tree.map es) (tree.map fs) ≡ true → rows es ≡ rows fs
same_maps es fs at e =
    same_rows (rows es) (rows fs) (sorted_rows es) (sorted_rows fs)
    (λ q. row_of q es ∙ by q (has_key q es) refl ∙ sym (row_of q fs))
  where
    firsts : all_keys (λ k. equal_at es k (entry_of k fs)) es ≡ true
    firsts = (and_parts (all_keys (λ k. equal_at es k (entry_of k fs)) es) (all_keys (λ k. has_key k es) fs) e).0

    covered : all_keys (λ k. has_key k es) fs ≡ true
    covered = (and_parts (all_keys (λ k. equal_at es k (entry_of k fs)) es) (all_keys (λ k. has_key k es) fs) e).1

    other : (q : List ℕ) (b : Bool) → has_key q fs ≡ b → has_key q es ≡ false → entry_of q fs ≡ None
    other q true p new = absurd (true≢false (sym (holds_of (λ k. has_key k es) fs q covered p) ∙ new))
    other q false p new = no_key q fs p

    by : (q : List ℕ) (b : Bool) → has_key q es ≡ b → option_map code (entry_of q es) ≡ option_map code (entry_of q fs)
    by q true there = at q (entry_of q fs) (holds_of (λ k. equal_at es k (entry_of k fs)) es q firsts there)
    by q false new = ap (option_map code) (no_key q es new ∙ sym (other q (has_key q fs) refl new))

-- The codes of a key's first value and of a value that equals it, whether or not the key is the
-- first.
at_first : (b : Bool) (t : Tree) (rest : Option Tree) (more : Bool) (o : Option Tree)
    → cond b (option_map_or (equal t) o false) more ≡ true
    → ((u : Tree) → equal t u ≡ true → code t ≡ code u) → (more ≡ true → option_map code rest ≡ option_map code o)
    → option_map code (cond b (Some t) rest) ≡ option_map code o
at_first b t rest more o a5 a6 a7 = search (arith, rules)

mutual
  -- Equal values have the same code.
  pub same_code : (t u : Tree) → equal t u ≡ true → code t ≡ code u
  same_code tree.undefined tree.undefined e = refl
  same_code tree.nothing tree.nothing e = refl
  same_code (tree.truth_value a) (tree.truth_value b) e = same_number (truth_number a) (truth_number b) e
  same_code (tree.truth_value a) (tree.number y) e = same_number (truth_number a) y e
  same_code (tree.number x) (tree.truth_value b) e = same_number x (truth_number b) e
  same_code (tree.number x) (tree.number y) e = same_number x y e
  same_code (tree.text x) (tree.text y) e = same_text x y e
  same_code (tree.text x) (tree.markup y) e = same_text x y e
  same_code (tree.markup x) (tree.text y) e = same_text x y e
  same_code (tree.markup x) (tree.markup y) e = same_text x y e
  same_code (tree.list ts) (tree.list us) e = ap (λ (s : List ℕ). 5 ∷ s) (same_items ts us e)
  same_code (tree.map es) (tree.map fs) e =
      ap (λ (rs : Rows). 6 ∷ rows_code rs) (same_maps es fs (λ k o. same_at es k o) e)
  same_code t u e = absurd (true≢false (sym e))

  same_items : (ts us : Items) → equal_items ts us ≡ true → items_code ts ≡ items_code us
  same_items no_items no_items e = refl
  same_items (item t ts) (item u us) e =
      ap (λ (s : List ℕ). s ++ items_code ts) (same_code t u (and_parts (equal t u) (equal_items ts us) e).0)
      ∙ ap (λ (s : List ℕ). code u ++ s) (same_items ts us (and_parts (equal t u) (equal_items ts us) e).1)
  same_items ts us e = absurd (true≢false (sym e))

  -- The first value of a key and a value that equals it have the same code.
  same_at : (es : Entries) (k : List ℕ) (o : Option Tree) → equal_at es k o ≡ true
      → option_map code (entry_of k es) ≡ option_map code o
  same_at no_entries k o e = absurd (true≢false (sym e))
  same_at (entry l t es) k o e =
      at_first (bytes_eq l k) t (entry_of k es) (equal_at es k o) o e (λ u f. same_code t u f) (λ f. same_at es k o f)

-- Items that are alike have the same code.
pub alike_code : (t u : Tree) → alike t u ≡ true → item_code t ≡ item_code u
alike_code (tree.text x) (tree.text y) e = same_text (fold x) (fold y) e
alike_code (tree.text x) (tree.markup y) e = same_text (fold x) (fold y) e
alike_code (tree.markup x) (tree.text y) e = same_text (fold x) (fold y) e
alike_code (tree.markup x) (tree.markup y) e = same_text (fold x) (fold y) e
alike_code (tree.text x) u e = absurd (true≢false (sym e))
alike_code (tree.markup x) u e = absurd (true≢false (sym e))
alike_code t (tree.text y) e = absurd (true≢false (sym e))
alike_code t (tree.markup y) e = absurd (true≢false (sym e))
alike_code t u e = same_code t u e
