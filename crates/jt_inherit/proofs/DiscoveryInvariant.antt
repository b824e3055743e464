-- One step of the search, and what stays true of followed chains and libraries when more is found.
use Rattle.jt_inherit.proofs.Vocabulary as words
use words.{◌≡◌, Bool, true, false, List, [], ◌∷◌, ◌++◌, map, refl, ap, arith, rules, ℕ, ◌+◌, ◌<◌, ◌≤◌, not}
use words.{◌||◌, length, take, drop, get_or, sym, ◌∙◌, inl, inr, ◌⊎◌, ⊎_elim, Some, length-append, None}
use words.{includes_by, includes_under, flat_map, filter, AllByRecursion, map-append, Text, Body, Branches}
use words.{among, Sources, Namespace, a_chain, a_library, Template, holds_macros, libraries_in, lacks_macros, chosen}
use words.{includes_in, Need, include_need, library_need, needed, and_parts, HasRead, names, KeyedNeed, keyed_needs}
use words.{keyed_view, Options, needed-append, slice_get, bytes_eq, append-nil, append_assoc, repeated}
use words.{SourceTexts, listed, AreNext, TooMany, IsNextFault, IsMet, chains_of, twice, need_namespace, ChainError}
use words.{of_texts, reflexive, chain_among, of_namespaces, among_behind, among_cases, among_front, among_next}
use words.{once_more, only_among, or_from, or_parts, HasPath, HasNeeds, cases_lt}
use words.{slice_get_within, unwrap_or, is_some, AreIndices, templates_at, imports_along}
use words.{needs_along, namespace_name, templates, libraries, sources_in, IsRead, IsFollowed, AreFollowed, AreFound}
use words.{included, namespace_at, Reaches, here, asked, extends_path, IsExtendsPath, by_templates, along_templates}
use words.{next_of, same, indexed_among, filter_agree, AddsNext, known_of, IsLedTo, all_weaker, all_more}
use words.{map_push, slice_get-get_or, string_bytes}
use Rattle.jt_inherit.specs.declared.including.FollowedPath.{FollowedPath}
use Rattle.jt_inherit.proofs.PathsGrow.{at_front, next_at, read_on, indices_grow, names_to_root, templates_grow}
use Rattle.jt_inherit.proofs.PathsGrow.{names_read, templates_read, way_read}
use Rattle.jt_inherit.proofs.PathsGrow.{few_templates, templates_to_root, reach_read, ask_read, reaches_next}
use words.trees
use words.error
use Rattle.jt_inherit.proofs.BodyRules.{take_next, parted}

-- ---- the imports of a template

pub all_imports : (ts : List Template) → flat_map (λ t. map library_need (libraries_in t.body)) ts
    ≡ map library_need (flat_map (λ t. libraries_in t.body) ts)
all_imports [] = refl
all_imports (t ∷ ts) = search (arith, rules, library_need, libraries_in, all_imports ts, map-append, flat_map)

-- Each import needs its library.
pub imports_needed : (all : Bool) (ns : List Text) → needed all (map library_need ns) ≡ ns
imports_needed all [] = refl
imports_needed true (n ∷ ns) = rw (imports_needed true ns)
imports_needed false (n ∷ ns) = rw (imports_needed false ns)

pub imports_chosen : (ks ns : List Text) → chosen ks (map library_need ns) ≡ map a_library (filter (λ n. among n ks) ns)
imports_chosen ks [] = refl
imports_chosen ks (n ∷ ns) = search (arith, rules, imports_chosen ks ns)

-- ---- includes lead to chains, not to libraries

abbrev pub AreIncludes : List Need → Type 0
AreIncludes = AllByRecursion (λ n. n.library ≡ false)

both : (ns ms : List Need) → AreIncludes ns → AreIncludes ms → AreIncludes (ns ++ ms)
both [] ms a b = b
both (n ∷ ns) ms a b = (a.0, both ns ms a.1 b)

mutual
  by_statement : (s : trees.Stmt) → AreIncludes (includes_by include_need s)
  by_statement (trees.choose bs other) = search (arith, rules, both, by_branches bs, by_body other)
  by_statement (trees.for_each line xs e c body other) = search (arith, rules, both, by_body body, by_body other)
  by_statement (trees.set_block line x body) = by_body body
  by_statement (trees.with_values line ps body) = by_body body
  by_statement (trees.filter_block line fs body) = by_body body
  by_statement (trees.autoescape line on body) = by_body body
  by_statement (trees.macro line x ps body) = by_body body
  by_statement (trees.block line x scoped required body) = by_body body
  by_statement a0 = search (arith, rules)

  by_body : (b : Body) → AreIncludes (includes_in include_need b)
  by_body trees.end = tt
  by_body (trees.stmt s rest) = search (arith, rules, both, by_statement s, by_body rest)

  by_branches : (bs : Branches) → AreIncludes (includes_under include_need bs)
  by_branches trees.no_branches = tt
  by_branches (trees.branch line c body rest) = search (arith, rules, both, by_body body, by_branches rest)

pub all_includes : (ts : List Template) → AreIncludes (flat_map (λ t. includes_in include_need t.body) ts)
all_includes [] = tt
all_includes (t ∷ ts) = search (arith, rules, both, includes_in, include_need, flat_map, by_body, all_includes ts)

pub includes_chosen : (ks : List Text) (ns : List Need) → AreIncludes ns
    → chosen ks ns ≡ map a_chain (filter (λ n. among n ks) (needed true ns))
includes_chosen ks [] a = refl
includes_chosen ks (n ∷ ns) a = search (arith, rules, includes_chosen ks ns a.1)

-- ---- libraries import nothing

pub none_imported : (b : Body) → holds_macros b ≡ true → libraries_in b ≡ []
none_imported (trees.stmt (trees.data_of t) rest) h = search (arith, rules, none_imported rest, and_parts)
none_imported (trees.stmt (trees.macro line x ps body) rest) h = none_imported rest h
none_imported a0 h = search (arith, rules)

pub none_lacking : (s : Sources) (b : Body) → holds_macros b ≡ true → lacks_macros s b ≡ false
none_lacking s (trees.stmt (trees.data_of t) rest) h = search (arith, rules, none_lacking s rest, and_parts)
none_lacking s (trees.stmt (trees.macro line x ps body) rest) h = none_lacking s rest h
none_lacking s a1 h = search (arith, rules)

-- ---- known includes and imports

pub known-append : (ks : List Text) (ns ms : List Need) → known_of ks (ns ++ ms) ≡ known_of ks ns ++ known_of ks ms
known-append ks [] ms = refl
known-append ks (n ∷ ns) ms = search (arith, rules, known-append ks ns ms)

pub one_known : (ks : List Text) (n : Need) → among n.name ks ≡ true → chosen ks (n ∷ []) ≡ need_namespace n ∷ []
one_known ks n e = rw e

-- ---- numbers of namespaces

-- A namespace that has a number.
pub next_there : (hs : List Namespace) (x : Namespace) (i : ℕ) → twice hs ≡ false → length (chains_of hs) ≤ 1024
    → slice_get hs i ≡ Some x → AreNext hs hs (x ∷ []) (i ∷ [])
next_there hs x i once few at = search (arith, rules, append-nil)

-- A namespace that is new.
pub next_new : (old new : List Namespace) (x : Namespace) (i : ℕ) → new ≡ old ++ x ∷ [] → twice old ≡ false
    → listed x old ≡ false → length (chains_of new) ≤ 1024 → i ≡ length old → AreNext old new (x ∷ []) (i ∷ [])
next_new old new x i is once h few at =
    search (arith, rules, once_more of_namespaces, among_cases of_namespaces, next_at)

pub numbers_grow : (xs ys : List Namespace) (is : List ℕ) (ns : List Namespace) → map (slice_get xs) is ≡ map Some ns
    → map (slice_get (xs ++ ys)) is ≡ map Some ns
numbers_grow xs ys [] [] e = refl
numbers_grow xs ys (i ∷ is) (n ∷ ns) e = search (arith, rules, at_front, slice_get_within, numbers_grow xs ys is ns)
numbers_grow xs ys is ns e = absurd (cc)

pub next_both : (a b c xs ys : List Namespace) (is js : List ℕ) → AreNext a b xs is → AreNext b c ys js
    → AreNext a c (xs ++ ys) (is ++ js)
next_both a b c xs ys is js p q =
    search (arith, rules, append_assoc, among_front of_namespaces, among_behind of_namespaces, map-append, numbers_grow)

-- Too many chains at a later name are too many at all names.
pub many_later : (a b xs ys zs : List Namespace) (is : List ℕ) (n : Text) → AreNext a b xs is → TooMany b ys n
    → TooMany a (xs ++ (ys ++ zs)) n
many_later a b xs ys zs is n p f =
    let later = λ (h : Namespace) (q : listed h ys ≡ true). among_behind of_namespaces h xs _
    (among_front of_namespaces h ys zs q) in
    record {
      chains = f.chains;
      many = f.many;
      once = f.once;
      from = λ m k. ⊎_elim
          (λ q. ⊎_elim (λ r. inl r) (λ r. inr (among_front of_namespaces _ xs _ r))
          (p.from (a_chain m) q))
          (λ q. inr (later (a_chain m) q))
          (f.from m k);
      this_one = f.this_one;
      led = later (a_chain n) f.led;
    }

pub too_many : (old : List Namespace) (n : Text) → twice old ≡ false → length (chains_of old) ≡ 1024
    → listed (a_chain n) old ≡ false → TooMany old (a_chain n ∷ []) n
too_many old n once len new = record {
  chains = chains_of old ++ n ∷ [];
  many = omega (arith, length-append (chains_of old) (n ∷ []), len);
  once = once_more of_texts n (chains_of old) (chains_once old once) (sym (chain_among n old) ∙ new);
  from = λ m a. ⊎_elim (λ p. inl (chain_among m old ∙ p))
      (λ q. inr (ap (λ b. b || false) (ap (λ z. bytes_eq z m) (only_among of_texts _ _ q) ∙ reflexive m)))
      (among_cases of_texts m _ _ a);
  this_one = among_next of_texts n (chains_of old) [];
  led = rw (reflexive n);
}
  where
    chains_once : (hs : List Namespace) → twice hs ≡ false → repeated (chains_of hs) ≡ false
    chains_once [] o = refl
    chains_once (a_chain m ∷ hs) o =
        let k = or_parts _ _ o in
        or_from (among m (chains_of hs)) (repeated (chains_of hs)) (sym (chain_among m hs) ∙ k.0)
        (chains_once hs k.1)
    chains_once (a_library m ∷ hs) o = chains_once hs (or_parts _ _ o).1

pub put_fault : (old : List Namespace) (x : Namespace) (n : Text) (e : ChainError) → twice old ≡ false
    → listed x old ≡ false
    → (e ≡ error.NoMemory) ⊎ ((e ≡ error.ChainTooLong) × (length (chains_of old) ≡ 1024) × (x ≡ a_chain n))
    → IsNextFault old (x ∷ []) n e
put_fault old x n e once new f = search (arith, rules, too_many)

-- ---- includes and imports, in order

pub chosen-append : (ks : List Text) (ns ms : List Need) → chosen ks (ns ++ ms) ≡ chosen ks ns ++ chosen ks ms
chosen-append ks ns ms = search (arith, rules, map, need_namespace, known-append, map-append, known_of)

-- ---- templates that are met

-- A template that is met stays so when more is read.
pub met_read : {given : SourceTexts} {options : Options} {ts us : List Template} {xs : List Text}
    → HasRead given options ts us xs → (ns : List Need) → AllByRecursion (IsMet given (names ts)) ns
    → AllByRecursion (IsMet given (names us)) ns
met_read r = all_weaker (λ n. ⊎_elim (λ p. inl (names_read r n.name p)) (λ q. inr q))

-- ---- one include or import more

module _ (ns : List KeyedNeed) (k : ℕ) (x : KeyedNeed) (lt : k < length ns) (at : x ≡ get_or ns k x) where
  needs_turn : keyed_needs (take (k + 1) ns) ≡ keyed_needs (take k ns) ++ keyed_view x ∷ []
  needs_turn = ap keyed_needs (take_next ns k x lt at) ∙ map_push keyed_view _ _

  all_needs : keyed_needs ns ≡ keyed_needs (take k ns) ++ keyed_view x ∷ keyed_needs (drop (k + 1) ns)
  all_needs = ap keyed_needs (parted ns k x lt at) ∙ map-append keyed_view (take k ns) _

  pub needed_turn : needed true (keyed_needs (take (k + 1) ns))
      ≡ needed true (keyed_needs (take k ns)) ++ string_bytes x.namespace.name ∷ []
  needed_turn = rw needs_turn (needed-append true _ _)

  pub met_turn : (P : Need → Type 0) → AllByRecursion P (keyed_needs (take k ns)) → P (keyed_view x)
      → AllByRecursion P (keyed_needs (take (k + 1) ns))
  met_turn P a p = rw needs_turn (all_more P _ _ a p)

  -- The template is one that is asked for.
  pub asked_at : (all : Bool) → (all || not x.ignoring) ≡ true
      → among (string_bytes x.namespace.name) (needed all (keyed_needs ns)) ≡ true
  asked_at all e =
      rw (all_needs, needed-append all)
      (among_behind of_texts (string_bytes x.namespace.name) (needed all (keyed_needs (take k ns)))
      (needed all (keyed_view x ∷ keyed_needs (drop (k + 1) ns))) (rw (e, reflexive (string_bytes x.namespace.name))))

  module _ (old mid : List Namespace) (ks : List Text) (is : List ℕ)
      (p : AreNext old mid (chosen ks (keyed_needs (take k ns))) is) where
    pub next_turn : (new : List Namespace) (js : List ℕ) → AddsNext mid new (chosen ks (keyed_view x ∷ [])) is js
        → AreNext old new (chosen ks (keyed_needs (take (k + 1) ns))) js
    next_turn new js q = rw (q.1, needs_turn, chosen-append ks) (next_both _ _ _ _ _ is q.0 p q.2)

    pub many_turn : (n : Text) → TooMany mid (chosen ks (keyed_view x ∷ [])) n
        → TooMany old (chosen ks (keyed_needs ns)) n
    many_turn n f =
        rw (all_needs, chosen-append ks, chosen-append ks (keyed_view x ∷ [])) (many_later old mid _ _ _ is n p f)

-- ---- templates at indices

pub indexed_templates : (ts : List Template) (is : List ℕ) → AreIndices ts is
    → map (slice_get ts) is ≡ map Some (templates_at ts is)
indexed_templates ts [] a = refl
indexed_templates ts (i ∷ is) a =
    rw (slice_get-get_or ts i (record { name = []; body = trees.end }) a.0, indexed_templates ts is a.1)

pub includes_told : (ts : List Template) (is : List ℕ) → AreIndices ts is
    → needs_along ts is ≡ flat_map (λ t. includes_in include_need t.body) (templates_at ts is)
    ++ map library_need (flat_map (λ t. libraries_in t.body) (templates_at ts is))
includes_told ts is a =
    let us = templates_at ts is in
    ap (λ l. l ++ imports_along ts is)
    (along_templates (λ n b. includes_in include_need b) ts is us (indexed_templates ts is a))
    ∙ ap (λ l. flat_map (λ (t : Template). includes_in include_need t.body) us ++ l)
    (along_templates (λ n b. map library_need (libraries_in b)) ts is us (indexed_templates ts is a) ∙ all_imports us)

-- ---- names with a source

pub some_source : (ts : List Template) (m : Text) → is_some (sources_in ts m) ≡ among m (names ts)
some_source [] m = refl
some_source (t ∷ ts) m = search (arith, rules, some_source ts m, names)

pub whole_path : {ts : List Template} {h : Namespace} {is : List ℕ} → IsExtendsPath ts h is None
    → templates (sources_in ts) h ≡ templates_at ts is
whole_path {ts} {h} {is} w = search (arith, rules, templates_to_root, few_templates)

-- The libraries that a namespace imports, by its path.
pub libraries_way : {ts : List Template} {h : Namespace} {is : List ℕ} → IsExtendsPath ts h is None
    → libraries (sources_in ts) h ≡ flat_map (λ t. libraries_in t.body) (templates_at ts is)
libraries_way {ts} {h} {is} w = search (arith, rules, whole_path, append-nil, none_imported)

-- The namespaces that a namespace leads to, by its path.
pub included_is : {ts : List Template} {h : Namespace} {is : List ℕ} → IsExtendsPath ts h is None
    → included (sources_in ts) h ≡ chosen (names ts) (needs_along ts is)
included_is {ts} {h} {is} w =
    search (
      arith,
      rules,
      names,
      whole_path,
      by_templates,
      filter_agree,
      some_source,
      libraries_way,
      includes_told,
      chosen-append,
      includes_chosen,
      all_includes,
      imports_chosen,
    )

-- The path of a chain or a library, and the names that it requests.
module _ {ts : List Template} (e : Bool) {h : Namespace} {is : List ℕ} (w : IsExtendsPath ts h is None) where
  pub few_way : length (templates_at ts is) ≤ 64
  few_way = omega (arith, few_templates ts is, w.few)

  pub way_names : extends_path (sources_in ts) e h ≡ names (templates_at ts is)
  way_names = by h w
    where
      by : (k : Namespace) → IsExtendsPath ts k is None → extends_path (sources_in ts) e k ≡ names (templates_at ts is)
      by (a_chain n) v = names_to_root _ 65 _ _ (omega (arith, few_way)) v.leads
      by (a_library n) v = rw (← v.leads.named) (sym (ap names v.leads.only))

  pub asked_way : (all : Bool)
      → asked (sources_in ts) e all h ≡ names (templates_at ts is) ++ needed all (needs_along ts is)
  asked_way all =
      search (
        arith,
        rules,
        way_names,
        names,
        whole_path,
        libraries_way,
        by_templates,
        imports_needed,
        needed-append,
        includes_told,
      )

  -- Each included or imported template is requested.
  pub asks_needed : (all : Bool) (n : Text) → among n (needed all (needs_along ts is)) ≡ true
      → among n (asked (sources_in ts) e all h) ≡ true
  asks_needed all n a =
      ap (among n) (asked_way all)
      ∙ among_behind of_texts n _ _ a

pub none_read : (given : SourceTexts) (options : Options) (ts : List Template) (n : Text)
    → AllByRecursion (IsRead given options) ts → given n ≡ None → among n (names ts) ≡ false
none_read given options [] n a e = refl
none_read given options (t ∷ ts) n a e =
    search (arith, rules, none_read given options ts n a.1 e, names, same, or_from)

-- ---- followed namespaces, when more is read

module _ {given : SourceTexts} {options : Options} {ts us : List Template} {xs : List Text}
    (r : HasRead given options ts us xs) where
  needs_read : (is : List ℕ) → AreIndices ts is → needs_along us is ≡ needs_along ts is
  needs_read is a = rw r.grown (search (arith, rules, includes_told, templates_grow, indices_grow))

  -- A template that may be missing, and is, stays missing.
  same_chosen : (ns : List Need) → AllByRecursion (IsMet given (names ts)) ns
      → chosen (names us) ns ≡ chosen (names ts) ns
  same_chosen [] a = refl
  same_chosen (n ∷ ns) a =
      let absent : given n.name ≡ None → among n.name (names us) ≡ false =
      none_read given options us n.name r.known.read.each in
      search (arith, rules, names_read r, absent, same_chosen ns a.1)

  module _ {hs : List Namespace} {h : Namespace} {w n : List ℕ} (f : IsFollowed given ts hs h w n) where
    chosen_read : chosen (names us) (needs_along us w) ≡ chosen (names ts) (needs_along ts w)
    chosen_read = rw (needs_read w f.led.indices) (same_chosen _ f.met)

    followed_read : (ms : List Namespace) → IsFollowed given us (hs ++ ms) h w n
    followed_read ms = record {
      led = way_read r f.led;
      met = rw (needs_read w f.led.indices) (met_read r _ f.met);
      numbered = rw chosen_read (numbers_grow hs ms n _ f.numbered);
    }

next_last : (ws : List (List ℕ)) (w : List ℕ) (i : ℕ) → i ≡ length ws → next_of (ws ++ w ∷ []) i ≡ w
next_last ws w i e = ap (next_of (ws ++ w ∷ [])) e ∙ ap (λ o. unwrap_or o []) (next_at ws w [])

pub none_followed : (given : SourceTexts) (ts : List Template) (hs : List Namespace) → AreFollowed given ts hs [] []
none_followed given ts hs = record { few = omega arith; lens = refl; each = λ i lt. absurd (omega arith) }

followed_more : {given : SourceTexts} {options : Options} {ts us : List Template} {xs : List Text}
    → HasRead given options ts us xs → {hs : List Namespace} (ms : List Namespace) → {ws ns : List (List ℕ)}
    → AreFollowed given ts hs ws ns → {h : Namespace} → slice_get hs (length ws) ≡ Some h → (w n : List ℕ)
    → IsFollowed given us (hs ++ ms) h w n → AreFollowed given us (hs ++ ms) (ws ++ w ∷ []) (ns ++ n ∷ [])
followed_more r {hs} ms {ws} {ns} f {h} at w n g = record {
  few = omega (arith, slice_get_within hs (length ws) h at, length-append ws (w ∷ []), length-append hs ms);
  lens = omega (arith, f.lens, length-append ws (w ∷ []), length-append ns (n ∷ []));
  each = λ i lt. ⊎_elim
      (λ (l : i < length ws).
      rw (
        at_front hs ms i (omega (arith, f.few)),
        at_front ws (w ∷ []) i l,
        at_front ns (n ∷ []) i (omega (arith, f.lens)),
      )
      (followed_read r (f.each i l) ms))
      (λ (l : length ws ≤ i).
      let e : i ≡ length ws = omega (arith, lt, length-append ws (w ∷ [])) in
      let there : namespace_at (hs ++ ms) i ≡ h = ap (namespace_at (hs ++ ms)) e
      ∙ ap (λ o. unwrap_or o (a_chain [])) (at_front hs ms _ (slice_get_within hs _ h at) ∙ at) in
      rw (there, next_last ws w i e, next_last ns n i (omega (arith, e, f.lens))) g)
      (cases_lt i (length ws));
}

-- One more namespace is followed.
module _ {given : SourceTexts} {options : Options} {root : Text} {ts0 : List Template} {hs : List Namespace}
    {ws ns : List (List ℕ)} (f : AreFound given options root ts0 hs ws ns) {h : Namespace}
    (at : slice_get hs (length ws) ≡ Some h) {ts1 : List Template} {is : List ℕ}
    (p : HasPath given options ts0 ts1 h is) where
  pub reached_here : Reaches (sources_in ts1) options.autoescape (a_chain root) h
  reached_here =
      reach_read p.read (f.reached h (indexed_among of_namespaces _ (length ws) h at))

  module _ {ts2 : List Template} {needs : List Need} (same_needs : needs ≡ needs_along ts1 is)
      (r : HasRead given options ts1 ts2 (needed true needs)) where
    pub way_there : IsExtendsPath ts2 h is None
    way_there = way_read r p.led

    pub needs_there : needs ≡ needs_along ts2 is
    needs_there = same_needs ∙ sym (needs_read r is p.led.indices)

    pub chosen_there : included (sources_in ts2) h ≡ chosen (names ts2) needs
    chosen_there = included_is way_there ∙ ap (chosen (names ts2)) (sym needs_there)

    -- The templates of the path, and then the included and imported ones, are the requested ones.
    all_read : HasRead given options ts0 ts2 (asked (sources_in ts2) options.autoescape true h)
    all_read =
        let told = asked_way options.autoescape way_there true in
        let same_path = ap names (templates_read r is p.led.indices) in
        read_on p.read r
        (λ n a. ap (among n) told ∙ among_front of_texts n _ _
        (ap (among n) same_path ∙ a))
        (λ n a. ap (among n) told
        ∙ among_behind of_texts n _ _
        (ap (λ l. among n (needed true l)) (sym needs_there) ∙ a))

    pub reached_there : Reaches (sources_in ts2) options.autoescape (a_chain root) h
    reached_there = reach_read r reached_here

    pub reached_from : (x : Namespace) → (listed x hs ≡ true) ⊎ (listed x (chosen (names ts2) needs) ≡ true)
        → Reaches (sources_in ts2) options.autoescape (a_chain root) x
    reached_from x c =
        ⊎_elim (λ q. reach_read all_read (f.reached x q))
        (λ q. reaches_next reached_there (ap (listed x) chosen_there ∙ q)) c

    -- Each new namespace is one that the followed one leads to.
    led_more : {hs2 : List Namespace} {next : List ℕ} → AreNext hs hs2 (chosen (names ts2) needs) next
        → (x : Namespace) → listed x hs2 ≡ true → (x ≡ a_chain root) ⊎ IsLedTo ts2 (ws ++ is ∷ []) x
    led_more n x a =
        ⊎_elim (λ q. ⊎_elim (λ e. inl e) (λ l. inr (old l)) (f.led x q)) (λ q. inr (new q)) (n.from x a)
      where
        old : IsLedTo ts0 ws x → IsLedTo ts2 (ws ++ is ∷ []) x
        old l =
            let i = l.0 in
            let lt : i < length ws = l.1 in (
              i,
              omega (arith, length-append ws (is ∷ [])),
              rw (at_front ws (is ∷ []) i lt) (ap (listed x) (chosen_read all_read (f.followed.each i lt)) ∙ l.2),
            )

        new : listed x (chosen (names ts2) needs) ≡ true → IsLedTo ts2 (ws ++ is ∷ []) x
        new q = (
          length ws,
          omega (arith, length-append ws (is ∷ [])),
          rw (ap (λ o. unwrap_or o []) (next_at ws is []))
              (rw needs_there at q),
        )

    pub found_more : AllByRecursion (IsMet given (names ts2)) needs → {hs2 : List Namespace} {next : List ℕ}
        → AreNext hs hs2 (chosen (names ts2) needs) next
        → AreFound given options root ts2 hs2 (ws ++ is ∷ []) (ns ++ next ∷ [])
    found_more met {hs2} {next} n =
        let here_followed : IsFollowed given ts2 hs2 h is next = (record {
          led = way_there;
          met = rw (← needs_there) met;
          numbered = rw (← needs_there) n.numbered;
        }) in
        record {
          known = r.known;
          asked = λ x a. ⊎_elim
              (λ q. ask_read all_read _ _ x (f.asked x q))
              (λ q. (h, reached_there, q)) (all_read.from x a);
          first =
              rw n.grown (at_front hs n.more 0 (slice_get_within hs 0 _ f.first) ∙ f.first);
          once = n.once;
          few = n.few;
          reached = λ x a. reached_from x (n.from x a);
          led = led_more n;
          followed =
              rw n.grown (followed_more all_read n.more f.followed at is next (rw n.grown at here_followed));
        }

    pub first_same : {hs2 : List Namespace} {next : List ℕ} → AreNext hs hs2 (chosen (names ts2) needs) next
        → namespace_name (namespace_at hs2 0) ≡ root
    first_same n = search (arith, rules, namespace_name, unwrap_or, a_chain, slice_get, at_front, slice_get_within)

-- Only the entry's chain was found.
pub found_first : (given : SourceTexts) (options : Options) (entry root : Text) (ts : List Template)
    (hs : List Namespace) (ws ns : List (List ℕ))
    → hs ≡ a_chain entry ∷ [] → root ≡ entry → ts ≡ [] → ws ≡ [] → ns ≡ []
    → AreFound given options root ts hs ws ns
found_first given options entry root ts hs ws ns eh er et ew en =
    search (arith, rules, a_chain, asked, sources_in, only_among, of_namespaces, here, none_followed)

-- The includes and imports of a path stay what they are when more is read.
pub has_needs : {given : SourceTexts} {options : Options} {ts us : List Template} {xs : List Text} {p : FollowedPath}
    → HasNeeds ts p → HasRead given options ts us xs → HasNeeds us p
has_needs {ts = ts} h r = record {
  indices = rw r.grown (indices_grow ts r.more _ h.indices);
  told = h.told ∙ sym (needs_read r _ h.indices);
}
