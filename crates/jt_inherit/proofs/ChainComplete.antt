-- The chains and libraries that an entry reaches: all of them are followed and checked, and each
-- comes before those that it leads to.
use Rattle.jt_inherit.proofs.Vocabulary as words
use words.{◌≡◌, ◌≢◌, ◌↔◌, ℕ, zero, suc, ◌+◌, ◌*◌, ◌<◌, ◌≤◌, ◌==◌, true, false, not, ◌&&◌, List, [], ◌∷◌, length, map}
use words.{refl, sym, ap, subst, ◌∙◌, arith, inl, inr, ◌⊎◌, ⊎_elim, Some, None, Vec, Global, get_or, rules, names}
use words.{slice_get_within, length-map, map-map, slice_get, AllByRecursion, list_any, is_none, cases_lt, nat_tests}
use words.{Graph, next_of, graph_of, Options, among, repeated, Text, templates_at, needs_along, Namespace, a_chain}
use words.{listed, is_a_library, Template, templates, sources_in, SourceTexts, chains_of, AreFound, IsFound}
use words.{found_templates, found_namespaces, root_of, IsFollowed, AreFollowed, IsMet, found_paths, listed_view}
use words.{included, InOrder, IsName, Need, needed, namespace_at, Asks, Reaches, asked, is_whole, templates_weight}
use words.{chains_weight, templates_len, chains_len, Seen, AreKnown, IsExtendsPath, Discovery, map_at, of_texts, same}
use words.{chain_among, of_namespaces, among_cases, no_more, indexed_among, and_from, and_right, both_ways}
use words.{list_any-append, not-true, or_from, or_right, IsClosed, IsOrder, IsDone, begins_with_chain, namespace_view}
use words.{AreWhole, given_templates, IsLinked, KeepsLinkRules, all_weaker}
use Rattle.jt_inherit.proofs.TreeWeights.{few_chains, all_weigh}
use Rattle.jt_inherit.proofs.DiscoveryInvariant.{none_read, few_way, way_names, asked_way, indexed_templates}
use Rattle.jt_inherit.proofs.DiscoveryInvariant.{included_is, whole_path, some_source}
use Rattle.jt_inherit.proofs.PathsGrow.{few_templates, all_at_indices, too_few, few_names}
use Rattle.jt_inherit.proofs.PathsGrow.{have_sources, all_among, repeated_up, weigh, names_indexed}
use Rattle.jt_inherit.proofs.TopologicalOrder.{namespace_among, number_of, names_in_order, reached_in_order, no_cycle}
use Rattle.jt_inherit.proofs.TopologicalOrder.{first_in_order, named_among}
use words.graph
use Rattle.jt_chains.specs.declared.chain.Namespace as declared

-- ---- chains by their numbers

-- The path at a number, and the number is one of a path.
pub way_at : (vs us : List (Vec ℕ Global)) (i : ℕ) (v : Vec ℕ Global) (is : List ℕ) → us ≡ vs → i < length us
    → v ≡ get_or us i v → is ≡ v.items → (i < length (graph_of vs)) × (next_of (graph_of vs) i ≡ is)
way_at vs us i v is e lt at items = search (arith, rules, length-map, map_at)

all_rows : (P : List ℕ → Type 0) (ws : Graph) → ((i : ℕ) → i < length ws → P (next_of ws i)) → AllByRecursion P ws
all_rows P [] f = tt
all_rows P (w ∷ ws) f = (f 0 (omega arith), all_rows P ws (λ i lt. f (suc i) (omega arith)))

numbers_within : (hs : List Namespace) (js : List ℕ) (ns : List Namespace) → map (slice_get hs) js ≡ map Some ns
    → AllByRecursion (λ j. j < length hs) js
numbers_within hs [] ns e = tt
numbers_within hs (j ∷ js) (n ∷ ns) e = search (arith, rules, slice_get_within, numbers_within hs js ns)
numbers_within hs js ns e = absurd (cc)

next_within : (given : SourceTexts) (ts : List Template) (hs : List Namespace) (ws ns : Graph)
    → AreFollowed given ts hs ws ns → AllByRecursion (λ js. AllByRecursion (λ j. j < length hs) js) ns
next_within given ts hs ws ns f = search (arith, rules, all_rows, numbers_within)

numbered_among : (hs : List Namespace) (j : ℕ) (js : List ℕ) (ns : List Namespace) → map (slice_get hs) js ≡ map Some ns
    → graph.among j js ≡ true → listed (namespace_at hs j) ns ≡ true
numbered_among hs j (k ∷ js) (n ∷ ns) e a =
    search (arith, rules, numbered_among hs j js ns, nat_tests, indexed_among of_namespaces, or_right)
numbered_among hs j js ns e a = absurd (cc)

pub none_next : (ns : Graph) (i j : ℕ) → length ns ≤ i → graph.among j (next_of ns i) ≡ true → ⊥
none_next [] i j le a = cc
none_next (n ∷ ns) zero j le a = omega arith
none_next (n ∷ ns) (suc i) j le a = none_next ns i j (omega arith) a

-- ---- templates that are met

module _ (given : SourceTexts) (ts : List Template) where
  has_source : (n : Text) → among n (names ts) ≡ true → is_none (sources_in ts n) ≡ false
  has_source n a = search (arith, rules, some_source)

  needs_sources : (ns : List Need) → AllByRecursion (IsMet given (names ts)) ns
      → list_any (λ n. is_none (sources_in ts n)) (needed false ns) ≡ false
  needs_sources [] a = refl
  needs_sources (n ∷ ns) a = search (arith, rules, needs_sources ns a.1, names, or_from, has_source, both_ways)

  needs_met : (P : Text → Type 0) → ((n : Need) → IsMet given (names ts) n → P n.name) → (ns : List Need)
      → AllByRecursion (IsMet given (names ts)) ns → (x : Text) → among x (needed true ns) ≡ true → P x
  needs_met P f [] a x h = absurd (cc)
  needs_met P f (n ∷ ns) a x h = search (arith, rules, needs_met P f ns a.1 x, same)

-- ---- a chain that was followed

module _ {given : SourceTexts} {options : Options} {ts : List Template}
    (known : AreKnown given options ts) {h : Namespace} {is : List ℕ} (w : IsExtendsPath ts h is None) where
  held : AllByRecursion (λ t. sources_in ts t.name ≡ Some t.body) (templates_at ts is)
  held = search (arith, rules, sources_in, whole_path, given_templates)

  pub is_one : is_whole (sources_in ts) options.autoescape h ≡ true
  is_one =
      let us = templates_at ts is in
      let s = sources_in ts in
      rw (way_names options.autoescape w) (and_from _ _ (ap not w.once)
      (and_from _ _
      (few_names _
      (omega (arith, few_way options.autoescape w, length-map us (λ (t : Template). t.name))))
      (ap not (have_sources s us held))))

  module _ (met : AllByRecursion (IsMet given (names ts)) (needs_along ts is)) where
    pub none_missing : list_any (λ n. is_none (sources_in ts n)) (asked (sources_in ts) options.autoescape false h)
        ≡ false
    none_missing =
        ap (list_any (λ n. is_none (sources_in ts n))) (asked_way options.autoescape w false)
        ∙ list_any-append (λ n. is_none (sources_in ts n)) (names (templates_at ts is))
        (needed false (needs_along ts is))
        ∙ or_from _ _ (have_sources _ _ held)
        (needs_sources given ts (needs_along ts is) met)

    pub all_asked : (P : Text → Type 0) → AllByRecursion (λ t. P t.name) (templates_at ts is)
        → ((n : Need) → IsMet given (names ts) n → P n.name) → (x : Text)
        → among x (asked (sources_in ts) options.autoescape true h) ≡ true → P x
    all_asked P a f x i = ⊎_elim
        (λ p. all_among P _ x a p)
        (λ q. needs_met given ts P f (needs_along ts is) met x q)
        (among_cases of_texts x _ _
        (rw (asked_way options.autoescape w true) at i))

-- ---- all chains and libraries

module _ {given : SourceTexts} {options : Options} {entry : Text} {ts : List Template}
    {hs : List Namespace} {ws ns : Graph} (f : AreFound given options entry ts hs ws ns)
    (all : length ws ≡ length hs) where
  pub number : (i : ℕ) → i < length hs → IsFollowed given ts hs (namespace_at hs i) (next_of ws i) (next_of ns i)
  number i lt = f.followed.each i (omega (arith, all))

  pub lens : length ns ≡ length hs
  lens = f.followed.lens ∙ all

  pub closed : IsClosed ns
  closed = search (arith, rules, lens, next_within)

  pub reached : (h : Namespace) → listed h hs ≡ true → Reaches (sources_in ts) options.autoescape (a_chain entry) h
  reached = f.reached

  some : 0 < length hs
  some = slice_get_within hs 0 (a_chain entry) f.first

  first_namespace : namespace_at hs 0 ≡ a_chain entry
  first_namespace = rw f.first

  includes_next : (i : ℕ) → i < length hs
      → map (slice_get hs) (next_of ns i) ≡ map Some (included (sources_in ts) (namespace_at hs i))
  includes_next i lt = search (arith, rules, number, map, included_is)

  -- ---- an edge of numbers is one of chains

  pub edge : (i j : ℕ) → graph.among j (next_of ns i) ≡ true
      → (i < length hs) × (listed (namespace_at hs j) (included (sources_in ts) (namespace_at hs i)) ≡ true)
  edge i j a = search (arith, rules, numbered_among, includes_next, none_next, lens, cases_lt)

  -- ---- the order of namespaces

  module _ {is : List ℕ} (o : IsOrder ns is) (namespaces : List declared.Namespace)
      (made : map listed_view namespaces ≡ map (λ i. (namespace_at hs i, next_of ws i)) is) where
    abbrev pub its_order : List Namespace
    its_order = map namespace_view namespaces

    named : its_order ≡ map (namespace_at hs) is
    named =
        sym (map-map (λ q. q.0) listed_view namespaces) ∙ ap (map (λ q. q.0)) made
        ∙ map-map (λ q. q.0) (λ i. (namespace_at hs i, next_of ws i)) is

    within : AllByRecursion (λ i. i < length hs) is
    within = rw (← lens) o.within

    pub in_order : InOrder (sources_in ts) its_order
    in_order = rw named (names_in_order _ hs ns is f.once within includes_next o.ordered)

    entry_in : listed (a_chain entry) its_order ≡ true
    entry_in =
        rw (named, ← first_namespace) (named_among hs 0 is (o.all 0 (omega (arith, lens, some))))

    in_namespaces : (x : Namespace) → listed x its_order ≡ true → listed x hs ≡ true
    in_namespaces x a = from is within (rw named at a)
      where
        from : (js : List ℕ) → AllByRecursion (λ i. i < length hs) js → listed x (map (namespace_at hs) js) ≡ true
            → listed x hs ≡ true
        from [] w a = absurd (cc)
        from (j ∷ js) w a = search (arith, rules, from js w.1, namespace_among)

    ordered : {h : Namespace} → Reaches (sources_in ts) options.autoescape (a_chain entry) h
        → listed h its_order ≡ true
    ordered r = reached_in_order _ _ _ in_order r entry_in

    -- The path of a namespace.
    way_of : (h : Namespace) → listed h hs ≡ true
        → (w : List ℕ) × IsExtendsPath ts h w None × AllByRecursion (IsMet given (names ts)) (needs_along ts w)
    way_of h a = search (arith, rules, number_of, number, next_of)

    way_reached : {h : Namespace} → Reaches (sources_in ts) options.autoescape (a_chain entry) h
        → (w : List ℕ) × IsExtendsPath ts h w None × AllByRecursion (IsMet given (names ts)) (needs_along ts w)
    way_reached {h} r = way_of h (in_namespaces h (ordered r))

    named_met : (n : Need) → IsMet given (names ts) n → IsName n.name
    named_met n m =
        ⊎_elim (λ p. all_among IsName ts n.name (all_weaker (λ t q. q.named) ts f.known.read.each) p) (λ q. q.1) m

    keeps : KeepsLinkRules (sources_in ts) options.autoescape (a_chain entry)
    keeps = record {
      missing = λ x.
          let k = way_reached x.1 in
          both_ways _ (none_missing f.known k.1 k.2) x.2;
      bad_name = λ x.
          let k = way_reached x.1 in
          x.2.2 (all_asked f.known k.1 k.2 IsName
          (all_at_indices _ ts k.0 (all_weaker (λ t q. q.named) ts f.known.read.each)) named_met x.2.0
          x.2.1);
      extends_cycle = λ x.
          let k = way_reached x.1 in
          both_ways _ k.1.once
          (repeated_up _ x.2.2 _ _
          (subst (λ h. IsExtendsPath ts h k.0 None) x.2.1 k.1).leads x.2.3);
      too_long = λ x. ⊎_elim
          (λ y.
          let k = way_reached y.1 in
          let us = templates_at ts k.0 in
          let le : length us ≤ 64 = omega (arith, few_templates ts k.0, k.1.few) in
          both_ways _ (ap (λ xs. (length xs == 65) && not (repeated xs)) (way_names options.autoescape k.1)
          ∙ too_few (length (names us)) (not (repeated (names us)))
          (omega (arith, le, length-map us (λ (t : Template). t.name)))) y.2)
          (λ y.
          let le = no_more of_texts y.0 (chains_of hs) (not-true _ y.2)
          (λ n a. sym (chain_among n hs) ∙ in_namespaces (a_chain n) (ordered (y.3 n a))) in
          let gt : 1024 < length y.0 = y.1 in
          let most = f.few in
          omega (arith, le, gt, most))
          x;
      include_cycle =
          λ x. no_cycle _ _ _ in_order x.0 x.2.0 (ordered x.1)
          x.2.1 x.2.2;
      not_a_library = λ x.
          let k = way_reached x.1 in
          let l = (subst (λ h. IsExtendsPath ts h k.0 None) x.2.1 k.1).leads in
          both_ways _ (and_right _ _
          (ap not (ap is_a_library l.source ∙ l.holds))) x.2.2;
    }

    abbrev pub chain : Seen
    chain =
        record {
          templates = ts;
          order = its_order;
          escaping = options.autoescape;
          strict = options.strict;
        }

    -- A requested name is read, or it has no source.
    complete : (n : Text) → Asks (sources_in ts) options.autoescape (a_chain entry) n
        → (among n (names ts) ≡ true) ⊎ (given n ≡ None)
    complete n x =
        let k = way_reached x.1 in
        all_asked f.known k.1 k.2 (λ x. (among x (names ts) ≡ true) ⊎ (given x ≡ None))
        (all_at_indices _ ts k.0
        (each_known ts (λ x p. p)))
        (λ m p. ⊎_elim (λ q. inl q) (λ q. inr q.2) p) n x.2
      where
        each_known : (us : List Template) → ((x : Text) → among x (names us) ≡ true → among x (names ts) ≡ true)
            → AllByRecursion (λ t. (among t.name (names ts) ≡ true) ⊎ (given t.name ≡ None)) us
        each_known [] g = tt
        each_known (u ∷ us) g = (
          inl (g u.name (indexed_among of_texts (names (u ∷ us)) 0 u.name refl)),
          each_known us (λ x p. g x (or_right _ _ p)),
        )

    -- The templates are the requested ones that the library has.
    templates_asked : (n : Text)
        → (among n (names ts) ≡ true) ↔ (Asks (sources_in ts) options.autoescape (a_chain entry) n × (given n ≢ None))
    templates_asked n = search (arith, rules, none_read, complete)

    pub begins : (rest : List Namespace) × (its_order ≡ a_chain entry ∷ rest)
    begins = from its_order in_order entry_in in_namespaces
      where
        from : (os : List Namespace) → InOrder (sources_in ts) os → listed (a_chain entry) os ≡ true
            → ((x : Namespace) → listed x os ≡ true → listed x hs ≡ true)
            → (rest : List Namespace) × (os ≡ a_chain entry ∷ rest)
        from [] p a w = absurd (cc)
        from (x ∷ os) p a w =
            let here = reached x (w x (indexed_among of_namespaces (x ∷ os) 0 x refl)) in
            (os, rw (first_in_order _ _ x os _ p a here))

    each_listed : {P : Namespace → Type 0} (os : List Namespace) → ((x : Namespace) → listed x os ≡ true → P x)
        → AllByRecursion P os
    each_listed [] w = tt
    each_listed (x ∷ os) w =
        (w x (indexed_among of_namespaces (x ∷ os) 0 x refl), each_listed os (λ z a. w z (or_right _ _ a)))

    pub linked : IsLinked given entry options chain
    linked = record {
      escaping = refl;
      strict = refl;
      read = f.known.read;
      only = f.known.only;
      asked = templates_asked;
      included = begins.0;
      begins = begins.1;
      reached = each_listed its_order (λ x a. reached x (in_namespaces x a));
      order = in_order;
      whole = each_listed its_order (λ x a. is_one f.known (way_of x (in_namespaces x a)).1);
      rules = keeps;
    }

    -- The templates of a namespace weigh no more than their sources.
    one_weighs : (h : Namespace) → listed h hs ≡ true
        → templates_weight (templates (sources_in ts) h) ≤ templates_len given (templates (sources_in ts) h)
    one_weighs h a = search (arith, rules, way_of, whole_path, weigh, all_at_indices, within)

    pub weighs : chains_weight (sources_in ts) its_order ≤ chains_len given (sources_in ts) its_order
    weighs =
        all_weigh given (sources_in ts) options.autoescape entry its_order in_order entry_in
        (λ h a. one_weighs h (in_namespaces h a)) (λ h a. reached h (in_namespaces h a))

    pub few_namespaces : 7 * length its_order ≤ chains_weight (sources_in ts) its_order + 7
    few_namespaces = few_chains _ _ _ its_order in_order entry_in (λ h a. reached h (in_namespaces h a))

    pub some_namespaces : 0 < length namespaces
    some_namespaces = omega (arith, ap length begins.1, length-map namespaces namespace_view)

    pub begins_chain : begins_with_chain its_order ≡ true
    begins_chain = ap begins_with_chain begins.1

    whole_along : (js : List ℕ) (ks : List declared.Namespace) → AllByRecursion (λ i. i < length hs) js
        → map listed_view ks ≡ map (λ i. (namespace_at hs i, next_of ws i)) js → AreWhole ts ks
    whole_along [] [] w a = tt
    whole_along (j ∷ js) (k ∷ ks) w a =
        search (arith, rules, number, names_indexed, indexed_templates, whole_path, whole_along js ks w.1)
    whole_along js ks w a = absurd (cc)

    pub all_whole : AreWhole ts namespaces
    all_whole = whole_along is namespaces within made

-- A search whose paths are those of all chains and libraries is done.
pub search_done : {given : SourceTexts} {options : Options} {entry : Text} (f : Discovery) → root_of f ≡ entry
    → IsFound given options f → length (found_paths f) ≡ length (found_namespaces f) → IsDone given options entry f
search_done {given} {options} {entry} f root is all =
    search (arith, rules, found_templates, found_namespaces, found_paths, graph_of, length-map, lens, closed)

-- A search from an entry that is done, with the chain of an order of its numbers.
module _ {given : SourceTexts} {options : Options} {entry : Text} {f : Discovery}
    (d : IsDone given options entry f) where
  pub all : length (found_paths f) ≡ length (found_namespaces f)
  all = length-map f.extends_paths.items (λ (v : Vec ℕ Global). v.items) ∙ d.all.paths
