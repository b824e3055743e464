-- Arguments that fit the parameters of macros and filters, and what the arguments of a filter name.
pub mod Vocabulary
pub use Vocabulary.*
use Rattle.jt_ast.specs.Statements as statements
use Rattle.jt_eval.specs.TheFilters.{filter_of, the_filters}
use Rattle.jt_checks.specs.internal.RuleTests as rules
use Rattle.jt_ids.specs.declared.filter_id.FilterId.TheVariants as filter

-- ---- lists of names

inserted_new : (x : Text) (ns : List Text) → among x ns ≡ false → length (inserted x ns) ≡ suc (length ns)
inserted_new x [] e = refl
inserted_new x (y ∷ ys) e = search (arith, rules, inserted_new x ys)

-- A list has a duplicate exactly if it has fewer distinct names than items.
pub few_distinct : (xs : List Text)
    → (length (ascending xs) ≤ length xs) × (nat_lt (length (ascending xs)) (length xs) ≡ repeated xs)
few_distinct [] = (omega arith, refl)
few_distinct (x ∷ xs) = by (among x xs) refl (few_distinct xs)
  where
    by : (b : Bool) → among x xs ≡ b
        → (length (ascending xs) ≤ length xs) × (nat_lt (length (ascending xs)) (length xs) ≡ repeated xs)
        → (length (ascending (x ∷ xs)) ≤ suc (length xs))
        × (nat_lt (length (ascending (x ∷ xs))) (suc (length xs)) ≡ (b || repeated xs))
    by true e h = grind (arith, nat_tests, absorbed x xs [] e)
    by false e h =
        let new = inserted_new x (ascending xs) (search (arith, rules, among_all)) in
        grind (arith, nat_tests, past x xs [])

pub among_first : (x : Text) (n : ℕ) (ks : List Text) → is_some (first_of x n ks) ≡ among x ks
among_first x n [] = refl
among_first x n (k ∷ ks) = search (arith, rules, among_first x (suc n) ks)

pub all_in : (ps : List statements.Parameter) (ks : List (Bor Text))
    → list_all (λ (k : Bor Text). among k.now (parameter_names ps)) ks ≡ all_known ps (texts ks)
all_in ps [] = refl
all_in ps (k ∷ ks) = search (arith, rules, all_in ps ks)

among_any : (x : Text) (ks : List (Bor Text)) → list_any (λ k. bytes_eq k.now x) ks ≡ among x (texts ks)
among_any x [] = refl
among_any x (k ∷ ks) = search (arith, rules, among_any x ks)

-- ---- arguments and parameters

pub counted : (ts : List Expr) → count (exprs_view ts) ≡ length ts
counted [] = refl
counted (t ∷ ts) = ap suc (counted ts)

pub keyless : (ps : List Entry) → no_keywords (pairs_view ps) ≡ nat_eq (length ps) 0
keyless [] = refl
keyless (p ∷ ps) = search (arith, rules, nat_eq, nat_tests)

module _ (ks : List Text) where
  -- A parameter is reached exactly if it or one after it is named. If none is reached, all are filled.
  some_reached : (ps : List statements.Parameter)
      → (some_given ps ks ≡ nat_lt 0 (rules.reached ps ks))
      × (some_given ps ks ≡ false → rules.is_filled ps 0 ks ≡ true)
  some_reached [] = search (arith, rules)
  some_reached (p ∷ ps) = search (arith, rules, some_reached ps)

  -- Only the parameters after the ones that positional arguments fill are reached and filled.
  left_only : (ps : List statements.Parameter) (n : ℕ)
      → (max n (rules.reached ps ks) ≡ n + rules.reached (drop n ps) ks)
      × (rules.is_filled ps n ks ≡ rules.is_filled (drop n ps) 0 ks)
  left_only [] zero = search (arith, rules)
  left_only [] (suc n) = search (arith, rules)
  left_only (p ∷ ps) zero = search (arith, rules)
  left_only (p ∷ ps) (suc n) = search (arith, rules, left_only ps n, some_reached)

-- One parameter more, from the last one to the first. It is named, or one after it is, if it is reached.
pub reached_more : (names : List (Bor Text)) (ps : List Parameter) (i : ℕ) (p : Parameter) → 0 < i → i ≤ length ps
    → p ≡ get_or ps (i - 1) p → (x : Text) → x ≡ string_bytes p.name
    → (b d : Bool) (n : ℕ) → b ≡ list_any (λ k. bytes_eq k.now x) names
    → n ≡ rules.reached (parameters_view (drop i ps)) (texts names)
    → d ≡ rules.is_filled (parameters_view (drop i ps)) 0 (texts names)
    → ((if b || nat_lt 0 n then n + 1 else n) ≡ rules.reached (parameters_view (drop (i - 1) ps)) (texts names))
    × ((if b || nat_lt 0 n then d && (b || is_some p.default) else d)
    ≡ rules.is_filled (parameters_view (drop (i - 1) ps)) 0 (texts names))
reached_more names ps zero p lt le is x e b d n f g h = absurd (omega arith)
reached_more names ps (suc i) p lt le is x e b d n f g h =
    let its : drop (suc i - 1) ps ≡ p ∷ drop (suc i) ps = search (arith, rules, drop_more) in
    let given = some_reached (texts names) (parameters_view (drop (suc i) ps)) in
    let named = among_any x names in
    rw its (grind (arith, nat_tests))

-- The parameters after the ones that positional arguments fill.
pub dropped : (ps : List Parameter) (n m : ℕ) → m ≡ min n (length ps)
    → parameters_view (take (length ps - m) (drop m ps)) ≡ drop n (parameters_view ps)
dropped ps n m e = search (arith, rules, take_rest, drop_min, drop-map)

pub known_filter : (f : FilterId) → filter_of (filter_id f) ≡ Some f
unfolding filter_of
known_filter filter.Abs = refl
known_filter f = refl

pub without_keywords : (f : FilterId) (ts : List Expr) (ps : List Entry) → nat_eq (length ps) 0 ≡ true
    → rules.filter_fits the_filters (filter_id f) (count (exprs_view ts)) (keywords (pairs_view ps))
    ≡ accepts (Some f) (length ts + 1)
unfolding the_filters
without_keywords f ts [] e = rw (known_filter, counted) (grind (arith, nat_tests))
without_keywords f ts (p ∷ ps) e = grind (arith, nat_tests)

-- A filter takes arguments if the parameters that are left do.
pub fits_left : (f : FilterId) (n : ℕ) (ks : List Text)
    → rules.filter_fits the_filters (filter_id f) n ks
    ≡ (accepts (Some f) (n + rules.reached (drop n (filter_parameters f)) ks + 1)
    && (rules.is_filled (drop n (filter_parameters f)) 0 ks && rules.names_fit (drop n (filter_parameters f)) ks))
unfolding the_filters
fits_left f n ks =
    let parts = left_only ks (filter_parameters f) n in rw (known_filter, parts.0, parts.1, add-one) refl

-- ---- names in the arguments of a filter, one argument at a time

-- Without the name of an only argument, a name means the filter of that name.
pub alone : (o : Option FilterId) → with_only o None ≡ o
alone a0 = search (arith, rules)

pub turned : (m n : ℕ) → (m == n) ≡ (n == m)
turned m n = grind (arith, nat_tests)

-- The remaining arguments at an index are its argument and those after it.
left : (ts : List Expr) (i : ℕ) (t : Expr) → i < length ts → t ≡ get_or ts i t → drop i ts ≡ t ∷ drop (i + 1) ts
left ts i t lt is = search (arith, rules, drop_more)

behind : {A : Type 0} (ts : List A) (i : ℕ) → i < length ts → suc (length (drop (i + 1) ts)) ≡ length ts - i
behind ts i lt = search (arith, length-drop)

module _ (f : FilterId) (ts : List Expr) (i : ℕ) (t : Expr) (lt : i < length ts) (is : t ≡ get_or ts i t) where
  pub turn : row_well f (i + 1) (exprs_view (drop i ts))
      ≡ (argument_well (named_at f (i + 1)) (literal_text (expr_view t)) (length ts - i)
      && row_well f (i + 1 + 1) (exprs_view (drop (i + 1) ts)))
  turn = search (arith, rules, left, counted, behind)
