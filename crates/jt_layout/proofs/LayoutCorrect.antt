-- The layout of a chain or a library is correct, and the names of chains are inserted in order.
pub mod FirstOccurrences
pub use FirstOccurrences.*
use Rattle.jt_chains.specs.Uses as uses
use Rattle.jt_chains.specs.declared.chain.Namespace as written

-- ---- names that are inserted in order, and the names of chains

-- A missing chain has no templates, and so no names. A library has no globals.
no_source : (cenv : CompileEnv) (hs : List Namespace) (n : Text) → is_some (cenv.sources n) ≡ false
    → names_in cenv hs (a_chain n) ≡ []
no_source cenv [] n e = refl
no_source cenv (k ∷ hs) n e = search (arith, rules, no_source cenv hs n)

module _ (cenv : CompileEnv) (hs : List Namespace) where
  no_names_of : (ns : List Text) → flat_map (names_in cenv hs) (map a_library ns) ≡ []
  no_names_of [] = refl
  no_names_of (n ∷ ns) = search (arith, rules, names_library, no_names_of ns)

  module _ (h : Namespace) (m : BTreeMap (Bor Text) (Vec (Bor Text) Global))
      (are : (x : Text) → names_at m x ≡ names_in cenv hs (a_chain x)) where
    stored : (ns : List Text) → flat_map (names_at m) ns
        ≡ flat_map (names_in cenv hs) (map a_chain (with_source cenv.sources ns))
    stored [] = refl
    stored (n ∷ ns) = search (arith, rules, are, no_source, stored ns)

    pub all_stored : (ks ns : List Text) → ks ≡ flat_map (λ t. needs_in true t.body) (templates cenv.sources h)
        → ns ≡ all_inserted (flat_map (names_at m) ks) (all_inserted (ascending (own_names cenv.sources h)) [])
        → ns ≡ all_names cenv hs h
    all_stored ks ns e f =
        search (
          arith,
          rules,
          flat_map-append,
          stored,
          no_names_of,
          append-nil,
          ascending_inserted,
          inserted_both,
        )

module _ (cenv : CompileEnv) (order : List Namespace) (i : ℕ) (lt : i < length order) where
  abbrev later : List Namespace
  later = drop (i + 1) order

  -- The names of any remaining chain; a library changes none.
  pub names_turn : (n x : Text) (v : Vec (Bor Text) Global) (old new : Option (Vec (Bor Text) Global))
      → namespace_at order i ≡ a_chain n → texts v.items ≡ all_names cenv later (namespace_at order i)
      → new ≡ (if bytes_eq n x then Some v else old) → texts_of old ≡ names_in cenv later (a_chain x)
      → texts_of new ≡ names_in cenv (drop i order) (a_chain x)
  names_turn n x v old new is e f g = rw (namespaces_left order i lt, is, f) (by (bytes_eq n x) refl)
    where
      by : (b : Bool) → bytes_eq n x ≡ b → texts_of (if b then Some v else old)
          ≡ (if b then all_names cenv later (a_chain x) else names_in cenv later (a_chain x))
      by true q = e ∙ ap (all_names cenv later) (is ∙ ap a_chain (same_text n x q))
      by false q = g

  pub names_kept : (old : List Text) (n x : Text) → namespace_at order i ≡ a_library n
      → old ≡ names_in cenv later (a_chain x) → old ≡ names_in cenv (drop i order) (a_chain x)
  names_kept old n x is g = search (arith, rules, namespaces_left)

-- ---- one namespace differs from another one

-- A namespace after another one differs from it.
pub apart : (h : Namespace) (hs : List Namespace) → not (listed h hs) ≡ true → (k : Namespace) → listed k hs ≡ true
    → same_namespace h k ≡ false
apart h hs n k a = search (arith, rules, namespace_same)

-- ---- keys before a key

-- Routines of different namespaces have different keys.
key_apart : (j k : Key) → same_namespace (namespace_of j) (namespace_of k) ≡ false → same_key j k ≡ false
key_apart j k e = search (arith, rules)

past : {A : Type 0} (f : A → Key) (k : Key) → ((x : A) → same_key (f x) k ≡ false) → (xs : List A) (rest : List Key)
    → index_of k (map f xs ++ rest) ≡ length xs + index_of k rest
past f k none [] rest = omega arith
past f k none (x ∷ xs) rest = search (arith, rules, none x, past f k none xs rest)

body_at : (h : Namespace) (n i k : ℕ) (bs : List BlockBody) (rest : List Key) → i < length bs → k ≡ n + i
    → index_of (of_body h k) (map (λ b. of_body h b.0) (counted_from n bs) ++ rest) ≡ i
body_at h n i k [] rest lt e = absurd (omega arith)
body_at h n zero k (b ∷ bs) rest lt e = grind (arith, nat_tests, namespace_is)
body_at h n (suc i) k (b ∷ bs) rest lt e = grind (arith, nat_tests, namespace_is, body_at h (suc n) i k bs rest)

module _ (cenv : CompileEnv) where
  abbrev pub macro_keys : Namespace → List Key
  macro_keys h = map (λ m. of_macro h m.name) (macros cenv.sources h)

  abbrev pub body_keys : Namespace → List Key
  body_keys h = map (λ b. of_body h b.0) (numbered_bodies cenv h)

  -- A key that is not the entry's comes after it.
  after_entry : (h : Namespace) (k : Key) → ((n : Text) → h ≡ a_chain n → same_key (of_chain n) k ≡ false)
      → (rest : List Key)
      → index_of k (chain_keys cenv h ++ rest)
      ≡ length (entry_keys cenv h) + index_of k (macro_keys h ++ (body_keys h ++ rest))
  after_entry (a_chain n) k none rest = search (arith, rules, append_assoc, none n refl)
  after_entry (a_library n) k none rest = search (arith, rules, append_assoc)

  module _ (h : Namespace) where
    abbrev ms : List MacroBody
    ms = macros cenv.sources h

    abbrev bs : List BlockBody
    bs = all_bodies cenv.sources cenv.escaping h

    pub count_keys : length (chain_keys cenv h) ≡ length (entry_keys cenv h) + (length ms + length bs)
    count_keys = search (arith, rules, length-append, length-map, length-counted)

    -- The keys of another namespace come after them.
    pub others : (k : Key) (rest : List Key) → same_namespace h (namespace_of k) ≡ false
        → index_of k (chain_keys cenv h ++ rest) ≡ length (chain_keys cenv h) + index_of k rest
    others k rest e = search (arith, rules, after_entry, key_apart, past, count_keys, length-counted)

    pub macro_key : (x : Text) (j : ℕ) (rest : List Key)
        → ((ks : List Key) → index_of (of_macro h x) (macro_keys h ++ ks) ≡ j)
        → index_of (of_macro h x) (chain_keys cenv h ++ rest) ≡ length (entry_keys cenv h) + j
    macro_key x j rest f = search (arith, rules, after_entry)

    pub body_key : (i : ℕ) (rest : List Key) → i < length bs
        → index_of (of_body h i) (chain_keys cenv h ++ rest) ≡ length (entry_keys cenv h) + (length ms + i)
    body_key i rest lt =
        let bodies = body_at h 0 i i bs rest lt (omega arith) in
        search (arith, rules, after_entry, past)

pub entries : (cenv : CompileEnv) (k : written.Namespace)
    → length (entry_keys cenv (namespace_view k)) ≡ bool_byte (not k.is_library)
entries cenv k = search (arith, rules)

pub chain_key : (cenv : CompileEnv) (n : Text) (rest : List Key)
    → index_of (of_chain n) (chain_keys cenv (a_chain n) ++ rest) ≡ 0
chain_key cenv n rest = search (arith, rules, same_is)

-- ---- the first of the remaining namespaces

module _ {cenv : CompileEnv} {order : List Namespace} {h : Namespace} {rest : List Namespace} {f : FirstFree}
    (s : Stands cenv order (h ∷ rest) f) where
  abbrev behind : List Key
  behind = flat_map (chain_keys cenv) rest

  here : listed h (h ∷ rest) ≡ true
  here = search (arith, rules, namespace_is)

  pub slot_here : first_slot cenv order h ≡ f.slot
  slot_here = search (arith, rules, namespace_is, here)

  pub chain_unit : (n : Text) → h ≡ a_chain n → f.unit ≡ unit cenv order (of_chain n)
  chain_unit n e = search (arith, rules, here, chain_key)

  default_here : (x : Text) → default_index cenv order h x ≡ f.default + first_default x (macros cenv.sources h)
  default_here x = search (arith, rules, namespace_is, here)

  pub is_called : (ts : List Template) (l : NamespaceLayout)
      → map (macro_view ts) l.known.now.macros.items ≡ macros cenv.sources h
      → l.defaults.items ≡ defaults_from f.default (map (macro_view ts) l.known.now.macros.items)
      → l.macro_unit ≡ f.unit + length (entry_keys cenv h) → (x : Text) (o : Option ℕ)
      → o ≡ first_of x 0 (map (λ m. m.name.now) l.known.now.macros.items) → IsCalled cenv order ts h l x o
  is_called ts l all defaults units x None e = search (arith, rules, no_macro)
  is_called ts l all defaults units x (Some k) e =
      let a = first_macro ts x l.known.now.macros.items k e in
      let key = macro_key cenv h x k behind (λ ks. rw (← all) (a.unit h ks)) in
      record {
        code = a.code;
        found = a.found;
        meant = ap (macro_of x) (sym all) ∙ a.meant;
        first_default = rw (a.named, defaults, a.default f.default, all) (ap Some (sym (default_here x)));
        macro_unit = rw a.named (omega (arith, units, s.units (of_macro h x) here, key));
      }

  pub body_units : (ts : List Template) (bs : List Block)
      → map (block_view ts) bs ≡ all_bodies cenv.sources cenv.escaping h → (u k : ℕ)
      → u ≡ f.unit + (length (entry_keys cenv h) + length (macros cenv.sources h)) → k < length bs
      → u + k ≡ unit cenv order (of_body h k)
  body_units ts bs all u k e lt =
      search (arith, rules, length, all_bodies, length-map, block_view, of_body, here, body_key)

  pub scoped_laid : listed h order ≡ true → (x : Text) (p : Option ℕ) (ns : List Text) → is_some p ≡ is_scoped cenv h x
      → ns ≡ uses.scope_names cenv.sources h → block_parameters cenv order h x ≡ (if is_some p then ns else [])
  scoped_laid there x p ns e g = search (arith, rules)

  -- The first free numbers after a chain or a library.
  pub front_turn : not (listed h rest) ≡ true → (g : FirstFree) → g.slot ≡ f.slot + length (names cenv order h)
      → g.unit
      ≡ f.unit + (length (entry_keys cenv h)
      + (length (macros cenv.sources h) + length (all_bodies cenv.sources cenv.escaping h)))
      → g.default ≡ f.default + length (defaults_of (macros cenv.sources h))
      → Stands cenv order rest g
  front_turn new g p q r = search (arith, rules, length, count_keys, apart, or_right, others, length-append)

-- ---- one namespace at a time

-- The namespace at an index is in the list, and the remaining ones are in order.
listed_at : (hs : List Namespace) (i : ℕ) → i < length hs → listed (namespace_at hs i) hs ≡ true
listed_at [] i lt = absurd (omega arith)
listed_at (h ∷ hs) zero lt = search (arith, rules, namespace_is)
listed_at (h ∷ hs) (suc i) lt = search (arith, rules, or_right, listed_at hs i)

order_left : (s : Sources) (hs : List Namespace) (i : ℕ) → InOrder s hs → InOrder s (drop i hs)
order_left s hs zero o = o
order_left s [] (suc i) o = o
order_left s (h ∷ hs) (suc i) o = order_left s hs i o.1.1

module _ (c : Chain) (i : ℕ) (lt : i < length c.namespaces.items) where
  abbrev h : Namespace
  h = namespace_in c i

  abbrev rest : List Namespace
  rest = drop (i + 1) (its_order c)

  inside : i < length (its_order c)
  inside = omega (arith, lt, length-map c.namespaces.items namespace_view)

  pub first_here : (f : FirstFree) → StandsAt c i f → Stands (its_cenv c) (its_order c) (h ∷ rest) f
  first_here f s = rw (namespaces_left (its_order c) i inside) at s

  pub new_here : not (listed h rest) ≡ true
  new_here =
      (rw (namespaces_left (its_order c) i inside) at (order_left (its_cenv c).sources (its_order c) i c.order)).0

  pub known_here : listed h (its_order c) ≡ true
  known_here = listed_at (its_order c) i inside

  pub listed_left : listed h (drop i (its_order c)) ≡ true
  listed_left = search (arith, rules, namespaces_left, inside, namespace_is)

  -- Each namespace after this one differs from it.
  pub left_turn : (x : Namespace) → listed x rest ≡ true
      → (same_namespace h x ≡ false) × (listed x (drop i (its_order c)) ≡ true)
  left_turn x a = search (arith, rules, apart, new_here, namespaces_left, inside, or_right)

-- The names that are taken for a chain or a library.
pub names_handed : (cenv : CompileEnv) (order : List Namespace) (b : Bool) (n : Text) (k : Namespace)
    (old : Text → List Text)
    → k ≡ namespace_named b n
    → ((x : Text) → k ≡ a_chain x → old x ≡ names cenv order (a_chain x))
    → in_globals (namespace_named b n) (old n) ≡ names cenv order k
names_handed cenv order b n k old e f = search (arith, rules, names_library)
