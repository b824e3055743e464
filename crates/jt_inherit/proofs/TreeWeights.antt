-- The weights of the trees of chains and libraries: each chain or library but the entry's chain has its own tag, an
-- include or an import, which weighs at least 7; and a tree weighs at most as much as its source has bytes.
use Rattle.jt_inherit.proofs.Vocabulary as words
use words.{◌≡◌, ◌+◌, ◌*◌, ◌≤◌, Bool, true, false, ◌||◌, ◌⊎◌, inl, inr, List, [], ◌∷◌, ◌++◌, length, refl, sym, ◌∙◌}
use words.{arith, length-append, rules, flat_map, filter, length-map, Text, Stmt, choose, for_each, set_block}
use words.{with_values, filter_block, autoescape, Body, end, stmt, Branches, no_branches, branch, Sources, Namespace}
use words.{a_chain, a_library, same_namespace, listed, Template, templates, libraries, libraries_in, needs_by, needs_in}
use words.{needs_under, included, InOrder, Reaches, here, through, templates_weight, chains_weight, twice}
use words.{of_namespaces, among_behind, among_front, no_more, bytes_eq, among, repeated}
use words.{SourceTexts, templates_len, chains_len, of_texts, reflexive, same, not-true, or_from, or_right}
use words.{libraries_len, lighter, total}
use Rattle.jt_ast.specs.Statements.{macro, import_as, import_from, block, stmt_weight, body_weight, branch_weight}
use Rattle.jt_inherit.proofs.TopologicalOrder.{next_in_order}
use Rattle.jt_ast.specs.Texts.{inserted, all_inserted, ascending}
use Rattle.jt_inherit.proofs.PathsGrow.{among_passes, libraries_listed}
use Rattle.jt_inherit.proofs.NamespaceMembership as namespaces

-- ---- tags

mutual
  stmt_needs : (s : Stmt) → 7 * length (needs_by true s) ≤ stmt_weight s
  stmt_needs (choose bs other) =
      omega (arith, length-append (needs_under true bs) (needs_in true other), branch_needs bs, body_needs other)
  stmt_needs (for_each line xs e c body other) =
      search (arith, rules, length-append, needs_in, body_needs body, body_needs other)
  stmt_needs (set_block line x body) = omega (arith, body_needs body)
  stmt_needs (with_values line ps body) = omega (arith, body_needs body)
  stmt_needs (filter_block line fs body) = omega (arith, body_needs body)
  stmt_needs (autoescape line on body) = omega (arith, body_needs body)
  stmt_needs (macro line x ps body) = omega (arith, body_needs body)
  stmt_needs (block line x scoped required body) = omega (arith, body_needs body)
  stmt_needs a0 = omega arith

  body_needs : (b : Body) → 7 * length (needs_in true b) ≤ body_weight b
  body_needs end = omega arith
  body_needs (stmt s rest) = search (arith, rules, length-append, needs_by, needs_in, stmt_needs s, body_needs rest)

  branch_needs : (bs : Branches) → 7 * length (needs_under true bs) ≤ branch_weight bs
  branch_needs no_branches = omega arith
  branch_needs (branch line c body rest) =
      omega (arith, length-append (needs_in true body) (needs_under true rest), body_needs body, branch_needs rest)

-- ---- imports, which are kept apart from includes

body_leads : (b : Body) → 7 * (length (needs_in true b) + length (libraries_in b)) ≤ body_weight b
body_leads end = omega arith
body_leads (stmt (import_as line n x) rest) = omega (arith, body_leads rest)
body_leads (stmt (import_from line n xs) rest) = omega (arith, body_leads rest)
body_leads (stmt s rest) =
    omega (arith, length-append (needs_by true s) (needs_in true rest), stmt_needs s, body_leads rest)

-- ---- chains and libraries

templates_lead : (ts : List Template) → 7
    * (length (flat_map (λ t. needs_in true t.body) ts) + length (flat_map (λ t. libraries_in t.body) ts))
    ≤ templates_weight ts
templates_lead [] = omega arith
templates_lead (t ∷ ts) =
    search (arith, rules, length-append, needs_in, flat_map, libraries_in, body_leads, templates_lead ts)

filtered_le : (p : Text → Bool) (xs : List Text) → length (filter p xs) ≤ length xs
filtered_le p [] = omega arith
filtered_le p (x ∷ xs) = search (arith, rules, filtered_le p xs)

module _ (sources : Sources) where
  abbrev pub needed : Namespace → List Text
  needed h = flat_map (λ t. needs_in true t.body) (templates sources h)

  few_libraries : (h : Namespace)
      → length (libraries sources h) ≤ length (flat_map (λ t. libraries_in t.body) (templates sources h))
  few_libraries (a_chain n) = omega arith
  few_libraries (a_library n) = omega arith

  namespace_weighs : (h : Namespace) → 7 * length (included sources h) ≤ templates_weight (templates sources h)
  namespace_weighs h = search (arith, rules, length-append, length-map, filtered_le, few_libraries, templates_lead)

  includes_weigh : (hs : List Namespace) → 7 * length (flat_map (included sources) hs) ≤ chains_weight sources hs
  includes_weigh [] = omega arith
  includes_weigh (h ∷ hs) =
      search (arith, rules, length-append, included, flat_map, namespace_weighs, includes_weigh hs)

  -- Each reached namespace is the first one, or one of the order leads to it.
  abbrev pub HasTag : List Namespace → Namespace → Type 0
  HasTag order h = (k : Namespace) × (listed k order ≡ true) × (listed h (included sources k) ≡ true)

  pub tagged : (escaping : Bool) (order : List Namespace) → InOrder sources order → {g h : Namespace}
      → Reaches sources escaping g h → listed g order ≡ true → (h ≡ g) ⊎ HasTag order h
  tagged escaping order o here e = inl refl
  tagged escaping order o (through {namespace = g} {next = m} {target = h} i r) e =
      search (arith, rules, tagged escaping order o r (next_in_order sources order g m o e i), next_in_order)

  listed_flat : (h k : Namespace) (order : List Namespace) → listed k order ≡ true
      → listed h (included sources k) ≡ true → listed h (flat_map (included sources) order) ≡ true
  listed_flat h k [] e i = absurd cc
  listed_flat h k (g ∷ gs) e i = by (same_namespace g k) refl e (λ f. listed_flat h k gs f i)
    where
      by : (b : Bool) → same_namespace g k ≡ b → (b || listed k gs) ≡ true
          → (listed k gs ≡ true → listed h (flat_map (included sources) gs) ≡ true)
          → listed h (included sources g ++ flat_map (included sources) gs) ≡ true
      by true is f later =
          among_front of_namespaces h (included sources g) (flat_map (included sources) gs)
          (rw (namespaces.same g k is) i)
      by false is f later = among_behind of_namespaces h _ _ (later f)

-- ---- the whole order

once_in_order : (sources : Sources) (hs : List Namespace) → InOrder sources hs → twice hs ≡ false
once_in_order sources [] o = refl
once_in_order sources (h ∷ hs) o =
    or_from (listed h hs) (twice hs) (not-true _ o.0) (once_in_order sources hs o.1.1)

-- The bound holds if the entry, one of the order, reaches each namespace of the order.
pub few_chains : (sources : Sources) (escaping : Bool) (entry : Namespace) (order : List Namespace)
    → InOrder sources order → listed entry order ≡ true
    → ((h : Namespace) → listed h order ≡ true → Reaches sources escaping entry h)
    → 7 * length order ≤ chains_weight sources order + 7
few_chains sources escaping entry order o there reached =
    let fewer = no_more of_namespaces order (entry ∷ flat_map (included sources) order) (once_in_order sources order o)
    (λ h e. indexed h (tagged sources escaping order o (reached h e) there)) in
    omega (arith, fewer, includes_weigh sources order)
  where
    indexed : (h : Namespace) → (h ≡ entry) ⊎ HasTag sources order h
        → listed h (entry ∷ flat_map (included sources) order) ≡ true
    indexed h (inl is) =
        rw (is, namespaces.reflexive entry)
    indexed h (inr t) = or_right _ _ (listed_flat sources h t.0 order t.1 t.2)

-- ---- the members of an ascending list

here_inserted : (x : Text) (ys : List Text) → among x (inserted x ys) ≡ true
here_inserted x [] = rw (reflexive x)
here_inserted x (y ∷ ys) = search (arith, rules, here_inserted x ys, reflexive, or_right)

kept_inserted : (x z : Text) (ys : List Text) → among z ys ≡ true → among z (inserted x ys) ≡ true
kept_inserted x z [] a = absurd cc
kept_inserted x z (y ∷ ys) a = search (arith, rules, kept_inserted x z ys, or_right)

kept_all : (xs : List Text) (z : Text) (ns : List Text) → among z ns ≡ true → among z (all_inserted xs ns) ≡ true
kept_all [] z ns a = a
kept_all (x ∷ xs) z ns a = kept_all xs z (inserted x ns) (kept_inserted x z ns a)

here_all : (xs : List Text) (z : Text) (ns : List Text) → among z xs ≡ true → among z (all_inserted xs ns) ≡ true
here_all [] z ns a = absurd cc
here_all (x ∷ xs) z ns a = search (arith, rules, here_all xs z (inserted x ns), kept_all, same, here_inserted)

-- ---- the libraries of an order, and those that its chains import

libraries_of : List Namespace → List Text
libraries_of [] = []
libraries_of (a_chain n ∷ hs) = libraries_of hs
libraries_of (a_library n ∷ hs) = n ∷ libraries_of hs

library_among : (n : Text) (hs : List Namespace) → listed (a_library n) hs ≡ among n (libraries_of hs)
unfolding libraries_of
library_among n [] = refl
library_among n (a_chain m ∷ hs) = library_among n hs
library_among n (a_library m ∷ hs) = rw (library_among n hs)

libraries_once : (s : Sources) (hs : List Namespace) → InOrder s hs → repeated (libraries_of hs) ≡ false
unfolding libraries_of
libraries_once s [] o = refl
libraries_once s (a_chain m ∷ hs) o = libraries_once s hs o.1.1
libraries_once s (a_library m ∷ hs) o =
    or_from (among m (libraries_of hs)) (repeated (libraries_of hs))
    (sym (library_among m hs) ∙ not-true _ o.0) (libraries_once s hs o.1.1)

module _ (given : SourceTexts) (s : Sources) where
  imported_by : List Namespace → List Text
  imported_by [] = []
  imported_by (a_chain n ∷ hs) = ascending (libraries s (a_chain n)) ++ imported_by hs
  imported_by (a_library n ∷ hs) = imported_by hs

  is_imported : (n k : Text) (hs : List Namespace) → listed (a_chain k) hs ≡ true
      → among n (libraries s (a_chain k)) ≡ true → among n (imported_by hs) ≡ true
  unfolding imported_by
  is_imported n k [] e a = absurd cc
  is_imported n k (a_library m ∷ hs) e a = is_imported n k hs e a
  is_imported n k (a_chain m ∷ hs) e a = by (bytes_eq m k) refl (λ f. is_imported n k hs f a)
    where
      by : (b : Bool) → bytes_eq m k ≡ b → (listed (a_chain k) hs ≡ true → among n (imported_by hs) ≡ true)
          → among n (ascending (libraries s (a_chain m)) ++ imported_by hs) ≡ true
      by true q r =
          among_front of_texts n (ascending (libraries s (a_chain m))) (imported_by hs)
          (here_all (libraries s (a_chain m)) n [] (rw (same m k q) a))
      by false q r =
          among_behind of_texts n (ascending (libraries s (a_chain m))) (imported_by hs)
          (r (rw q at e))

  len_both : (xs ys : List Text)
      → libraries_len given s (xs ++ ys) ≡ libraries_len given s xs + libraries_len given s ys
  len_both [] ys = omega arith
  len_both (x ∷ xs) ys = omega (arith, len_both xs ys)

  libraries_total : (xs : List Text)
      → libraries_len given s xs ≡ total (λ n. templates_len given (templates s (a_library n))) xs
  libraries_total [] = refl
  libraries_total (x ∷ xs) = rw (libraries_total xs)

  -- A library weighs no more than its source, and so does the own path of a chain.
  balanced : (hs : List Namespace)
      → ((h : Namespace) → listed h hs ≡ true → templates_weight (templates s h) ≤ templates_len given (templates s h))
      → chains_weight s hs + libraries_len given s (imported_by hs)
      ≤ chains_len given s hs + libraries_len given s (libraries_of hs)
  unfolding imported_by libraries_of
  balanced [] each = omega arith
  balanced (a_chain n ∷ hs) each =
      omega (
        arith,
        each (a_chain n) (rw (reflexive n)),
        len_both (ascending (libraries s (a_chain n))) (imported_by hs),
        balanced hs (λ h a. each h (or_right _ _ a)),
      )
  balanced (a_library n ∷ hs) each =
      omega (
        arith,
        each (a_library n) (rw (reflexive n)),
        balanced hs (λ h a. each h (or_right _ _ a)),
      )

  -- Each library of the order is imported by a chain of the order.
  pub all_weigh : (e : Bool) (entry : Text) (order : List Namespace) → InOrder s order
      → listed (a_chain entry) order ≡ true
      → ((h : Namespace) → listed h order ≡ true
      → templates_weight (templates s h) ≤ templates_len given (templates s h))
      → ((h : Namespace) → listed h order ≡ true → Reaches s e (a_chain entry) h)
      → chains_weight s order ≤ chains_len given s order
  all_weigh e entry order o there each reached =
      let less = lighter of_texts (λ n. templates_len given (templates s (a_library n))) (libraries_of order)
      (imported_by order) (libraries_once s order o)
      (λ n a.
      let listed_so : listed (a_library n) order ≡ true = library_among n order ∙ a in
      from n (tagged s e order o (reached (a_library n) listed_so) there)) in
      omega (
        arith,
        balanced order each,
        less,
        libraries_total (libraries_of order),
        libraries_total (imported_by order),
      )
    where
      from : (n : Text) → (a_library n ≡ a_chain entry) ⊎ HasTag s order (a_library n)
          → among n (imported_by order) ≡ true
      from n (inl is) = absurd cc
      from n (inr t) = by t.0 t.1 t.2
        where
          by : (k : Namespace) → listed k order ≡ true → listed (a_library n) (included s k) ≡ true
              → among n (imported_by order) ≡ true
          by (a_chain k) there i =
              is_imported n k order there (among_passes _ n (libraries s (a_chain k)) (rw libraries_listed at i)).0
          by (a_library k) there i = let no = (rw libraries_listed at i) in absurd (cc)
