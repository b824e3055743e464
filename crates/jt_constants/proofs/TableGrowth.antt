-- The indices of keys stay correct while a table of constants grows.
use Rattle.std.proofs.Common.{◌≡◌, ℕ, ◌+◌, ◌<◌, ◌≤◌, Bool, true, false, cond, ◌||◌, List, [], ◌∷◌, ◌++◌, length, map}
use Rattle.std.proofs.Common.{fold, drop, get_or, Some, None, refl, sym, ap, ◌∙◌, arith, append_assoc, append-nil}
use Rattle.std.proofs.Common.{◌^◌, length-append, if◌then◌else◌, rules}
use Rattle.std.specs.Ordering.{is_eq, bool_cmp}
use Rattle.std.specs.List.{list_any}
use Rattle.std.specs.Bool.{beq}
use Rattle.std.specs.BTreeMap.{BTreeMap, get}
use Rattle.std.proofs.lemmas.List.{drop_more, at_drop_all}
use Rattle.std.proofs.lemmas.List.Folds.{list_any-append}
use Rattle.std.proofs.lemmas.Map.Text.{is_eq-slice_cmp}
use Rattle.std.proofs.lemmas.Option.{same_Some}
use Rattle.jt_value.specs.View.{view}
use Rattle.jt_value.specs.declared.value.Value.{Value}
use Rattle.jt_image.specs.Code.{Constant}
use Rattle.jt_constants.specs.Merged.{constant_of, same, with_new, each_once, index_in, new_indices}
use Rattle.jt_constants.specs.internal.Keys.{key_view, index_of, key_cmp, Knows, KnowsMore}
use Rattle.jt_constants.specs.declared.table.Key.{Key}
use Rattle.jt_constants.proofs.UniqueConstants.{Has, no_fewer, same_is, same_self, index_kept}

-- ---- keys are equal if and only if their constants are the same

bools : (a b : Bool) → is_eq (bool_cmp a b) ≡ beq a b
bools a b = search (arith, rules)

pub same_key : (x y : Key) → is_eq (key_cmp x y) ≡ same (key_view x) (key_view y)
same_key x y = search (arith, rules, bools, is_eq-slice_cmp)

-- ---- the indices of keys

pub known_there : (now : List Constant) (c : Constant) (p : ℕ) → index_of now c ≡ Some p
    → Has now c × (index_in now c ≡ p)
known_there now c p = search (arith, rules, same_Some)

pub known_absent : (now : List Constant) (c : Constant) → index_of now c ≡ None → list_any (same c) now ≡ false
known_absent now c = search (arith, rules)

pub added_there : (now : List Constant) (c : Constant) → Has now c → with_new now c ≡ now
added_there now c h = ap (λ (b : Bool). if b then now else now ++ c ∷ []) h

pub added_absent : (now : List Constant) (c : Constant) → list_any (same c) now ≡ false → with_new now c ≡ now ++ c ∷ []
added_absent now c h = ap (λ (b : Bool). if b then now else now ++ c ∷ []) h

pub index_last : (now : List Constant) (c : Constant) → list_any (same c) now ≡ false
    → index_in (now ++ c ∷ []) c ≡ length now
index_last [] c h = ap (λ (b : Bool). if b then 0 else 1) (same_self c)
index_last (d ∷ ds) c h = search (arith, rules, index_last ds c)

-- The index of a constant is known after a new one was appended.
of_more : (now : List Constant) (c d : Constant) → list_any (same c) now ≡ false
    → cond (same c d) (Some (length now)) (index_of now d) ≡ index_of (now ++ c ∷ []) d
of_more now c d absent = search (arith, rules, same_is, list_any-append, same_self, index_last, index_kept)

-- A map of indices knows one more constant after a key was added.
pub knows_more : (old new : BTreeMap Key ℕ) (now : List Constant) (k : Key) → Knows old now
    → list_any (same (key_view k)) now ≡ false → KnowsMore old k (length now) new → Knows new (now ++ key_view k ∷ [])
knows_more old new now k knows absent more q =
    more q ∙ ap (λ (b : Bool). cond b (Some (length now)) (get key_cmp old q)) (same_key k q)
    ∙ ap (cond (same (key_view k) (key_view q)) (Some (length now))) (knows q)
    ∙ of_more now (key_view k) (key_view q) absent

-- ---- the table during the loop

abbrev pub seen : List Value → List Constant
seen vs = map constant_of (map view vs)

pub record Holds (pool : List Value) (i : ℕ) (now : List Constant) (indices : List ℕ) : Type 0 where
  pub once : fold with_new now (seen (drop i pool)) ≡ each_once (seen pool)
  pub all : indices ++ map (index_in (each_once (seen pool))) (seen (drop i pool)) ≡ new_indices (seen pool)

pub holds_none : (pool : List Value) → Holds pool 0 [] []
holds_none pool = record { once = refl; all = refl }

index_in_all : (now rest : List Constant) (c : Constant) → Has now c
    → index_in (fold with_new now rest) c ≡ index_in now c
index_in_all now [] c h = refl
index_in_all now (d ∷ ds) c h = by (list_any (same d) now) refl (λ more has. index_in_all more ds c has)
  where
    by : (b : Bool) → list_any (same d) now ≡ b
        → ((more : List Constant) → Has more c → index_in (fold with_new more ds) c ≡ index_in more c)
        → index_in (fold with_new (with_new now d) ds) c ≡ index_in now c
    by b e rest = search (arith, rules, added_there, list_any-append, added_absent, index_kept)

module _ (pool : List Value) (i : ℕ) (value : Value) (now more : List Constant) (indices : List ℕ) (index : ℕ)
    (inside : i < length pool) (is : value ≡ get_or pool i value) (holds : Holds pool i now indices)
    (added : with_new now (constant_of (view value)) ≡ more) (has : Has more (constant_of (view value)))
    (at : index ≡ index_in more (constant_of (view value))) where
  c : Constant
  c = constant_of (view value)

  left : seen (drop i pool) ≡ constant_of (view value) ∷ seen (drop (i + 1) pool)
  left =
      ap seen (drop_more pool i value inside)
      ∙ ap (λ (v : Value). constant_of (view v) ∷ seen (drop (i + 1) pool)) (sym is)

  all_once : fold with_new more (seen (drop (i + 1) pool)) ≡ each_once (seen pool)
  all_once =
      sym (ap (λ (l : List Constant). fold with_new l (seen (drop (i + 1) pool))) added)
      ∙ sym (ap (fold with_new now) left) ∙ holds.once

  indexed : index ≡ index_in (each_once (seen pool)) (constant_of (view value))
  indexed =
      at ∙ sym (index_in_all more (seen (drop (i + 1) pool)) (constant_of (view value)) has)
      ∙ ap (λ (l : List Constant). index_in l (constant_of (view value))) all_once

  pub holds_more : Holds pool (i + 1) more (indices ++ index ∷ [])
  holds_more = search (arith, rules, all_once, append_assoc, indexed, left)

pub holds_all : (pool : List Value) (i : ℕ) (now : List Constant) (indices : List ℕ) → length pool ≤ i
    → Holds pool i now indices → (now ≡ each_once (seen pool)) × (indices ≡ new_indices (seen pool))
holds_all pool i now indices le h = (
  sym (at_drop_all (λ (vs : List Value). fold with_new now (seen vs)) pool i le) ∙ h.once,
  sym (append-nil indices)
      ∙ sym (at_drop_all (λ (vs : List Value). indices ++ map (index_in (each_once (seen pool))) (seen vs)) pool i le)
      ∙ h.all,
)

-- ---- one turn of the loop

module _ (pool : List Value) (i : ℕ) (value : Value) (k : Key) (seen_as : key_view k ≡ constant_of (view value))
    (now : List Constant) (indices : List ℕ) (index : ℕ) (inside : i < length pool) (is : value ≡ get_or pool i value)
    (holds : Holds pool i now indices) where
  -- If the constant exists, the table stays, and the value has its index.
  pub turn_there : index_of now (key_view k) ≡ Some index → Holds pool (i + 1) now (indices ++ index ∷ [])
  turn_there e =
      let h = known_there now (constant_of (view value)) index (sym (ap (index_of now) seen_as) ∙ e) in
      holds_more pool i value now now indices index inside is holds (added_there now (constant_of (view value)) h.0) h.0
      (sym h.1)

  -- If the constant is missing, it is appended, and the value has the last index.
  pub turn_absent : list_any (same (key_view k)) now ≡ false → index ≡ length now
      → Holds pool (i + 1) (now ++ key_view k ∷ []) (indices ++ index ∷ [])
  turn_absent absent e =
      let c = constant_of (view value) in
      let none : list_any (same c) now ≡ false = sym (ap (λ (x : Constant). list_any (same x) now) seen_as) ∙ absent in
      let added : with_new now c ≡ now ++ key_view k ∷ [] =
      added_absent now c none ∙ sym (ap (λ (x : Constant). now ++ x ∷ []) seen_as) in
      let has : Has (now ++ key_view k ∷ []) c = list_any-append (same c) now (key_view k ∷ [])
      ∙ ap (λ (x : Constant). list_any (same c) now || (same c x || false)) seen_as
      ∙ ap (λ (b : Bool). list_any (same c) now || (b || false)) (same_self c) ∙ ap (λ (b : Bool). b || true) none in
      let last : index_in (now ++ key_view k ∷ []) c ≡ length now =
      ap (λ (x : Constant). index_in (now ++ x ∷ []) c) seen_as ∙ index_last now c none in
      holds_more pool i value now (now ++ key_view k ∷ []) indices index inside is holds added has (e ∙ sym last)

-- If a constant is missing from a table of 2^32 constants or more, the pool has more than 2^32.
pub too_many : (pool : List Value) (i : ℕ) (value : Value) (k : Key) → key_view k ≡ constant_of (view value)
    → (now : List Constant) (indices : List ℕ) → i < length pool → value ≡ get_or pool i value
    → Holds pool i now indices → list_any (same (key_view k)) now ≡ false → 2 ^ 32 ≤ length now
    → 2 ^ 32 < length (each_once (seen pool))
too_many pool i value k seen_as now indices inside is holds absent many =
    let more = now ++ key_view k ∷ [] in
    let all = turn_absent pool i value k seen_as now indices (length now) inside is holds absent refl in
    omega (
      arith,
      many,
      length-append now (key_view k ∷ []),
      no_fewer more (seen (drop (i + 1) pool)),
      ap length all.once,
    )

-- The invariants hold for equal maps, tables and indices.
pub left_so : (pool : List Value) (i : ℕ) (m n : BTreeMap Key ℕ) (now more : List Constant) (ps qs : List ℕ) → m ≡ n
    → now ≡ more → ps ≡ qs → Knows n more → Holds pool i more qs → Knows m now × Holds pool i now ps
left_so pool i m n now more ps qs em en ep knows holds = search (arith, rules)
