-- The templates that a chain requests are those that were read and those that are missing.
use Rattle.std.proofs.Common.{◌≡◌, ℕ, ◌+◌, ◌<◌, ◌≤◌, Bool, true, false, ◌||◌, ◌⊎◌, inl, inr, if◌then◌else◌}
use Rattle.std.proofs.Common.{List, [], ◌∷◌, ◌++◌, length, map, drop, Option, Some, None, refl, sym, ap, ◌∙◌, subst}
use Rattle.std.proofs.Common.{append_assoc, arith, rules}
use Rattle.std.specs.Prelude.{◌≢◌, ◌↔◌, IsTrue, filter, flat_map, string_bytes}
use Rattle.std.specs.List.{AllByRecursion, list_any}
use Rattle.std.specs.Option.{is_some, is_none}
use Rattle.std.specs.Str.{bytes_eq}
use Rattle.std.proofs.lemmas.Bool.{or_left, or_right, or_cases}
use Rattle.std.proofs.lemmas.List.{drop_more}
use Rattle.std.proofs.lemmas.Option.{unwrap_or-slice_get}
use Rattle.jt_scan.specs.declared.options.Options.{Options}
use Rattle.jt_image.specs.Code.{Code}
use Rattle.jt_ast.specs.Expressions.{Text}
use Rattle.jt_ast.specs.Statements.{Body}
use Rattle.jt_ast.specs.Texts.{among, ascending}
use Rattle.jt_chains.specs.Chain.{Namespace, a_chain, same_namespace, listed, templates, libraries, Template}
use Rattle.jt_chains.specs.Includes.{needs_in}
use Rattle.jt_chains.specs.Indices.{namespace_at}
use Rattle.jt_chains.specs.Rules.{Reaches, Asks, extends_path, asked}
use Rattle.jt_chains.specs.View.{Seen, sources_of}
use Rattle.jt_names.proofs.SortedNames.{among_all}
use Rattle.jt_inherit.specs.Chains.{SourceTexts, IsChain}
use Rattle.jt_inherit.proofs.DiscoveryInvariant.{some_source}
use Rattle.jt_inherit.proofs.Membership.{same, of_texts, among_front, among_behind, among_cases}
use Rattle.jt_inherit.proofs.NamespaceMembership as namespaces
use Rattle.jt_inherit.proofs.RulesCarryOver.{any_at}
use Rattle.jt_inherit.proofs.TopologicalOrder.{reached_in_order}
use Rattle.jt_rules.specs.CompileEnv.{CompileEnv, cenv_of}
use Rattle.jt_semantics.specs.Ascends.{Ascends}
use Rattle.jt_semantics.proofs.NameCounts.{ascending_ascends}
use Rattle.jt_codegen.specs.Compiled.{IsOnlyChain, IsCompiled}
use Rattle.jt_codegen.specs.Depends.{ChainAsks}
use Rattle.jt_codegen.specs.Needs.{texts_in, missing_in, AreNeeds}
use Rattle.jt_codegen.specs.declared.needs.Needs.{Needs}
use Rattle.jt_codegen.proofs.OtherLibraries.{alike}

-- ---- chains and libraries, one after the other

-- The chain without its first chains and libraries.
abbrev pub from : Seen → ℕ → Seen
from c i =
    record { templates = c.templates; order = drop i c.order; escaping = c.escaping; strict = c.strict }

-- The missing includes of a chain or a library.
abbrev pub lacks : Seen → Namespace → List Text
lacks c h = filter (λ n. is_none (sources_of c n)) (flat_map (λ t. needs_in true t.body) (templates (sources_of c) h))

namespaces_left : (hs : List Namespace) (i : ℕ) → i < length hs → drop i hs ≡ namespace_at hs i ∷ drop (i + 1) hs
namespaces_left hs i lt = search (arith, rules, drop_more, unwrap_or-slice_get)

pub from_next : (c : Seen) (i : ℕ) → i < length c.order
    → missing_in (from c i) ≡ lacks c (namespace_at c.order i) ++ missing_in (from c (i + 1))
from_next c i lt = ap (flat_map (lacks c)) (namespaces_left c.order i lt)

-- The names that are left after one more chain or library.
pub one_more : (c : Seen) (i : ℕ) (old new includes : List Text) → i < length c.order
    → includes ≡ flat_map (λ t. needs_in true t.body) (templates (sources_of c) (namespace_at c.order i))
    → new ≡ old ++ filter (λ n. is_none (sources_of c n)) includes → old ++ missing_in (from c i) ≡ missing_in c
    → new ++ missing_in (from c (i + 1)) ≡ missing_in c
one_more c i old new includes lt is adds so_far =
    let rest : List Text = missing_in (from c (i + 1)) in
    ap (λ (xs : List Text). xs ++ rest)
    (adds ∙ ap (λ (xs : List Text). old ++ filter (λ n. is_none (sources_of c n)) xs) is)
    ∙ append_assoc old (lacks c (namespace_at c.order i)) rest
    ∙ ap (λ (xs : List Text). old ++ xs) (sym (from_next c i lt)) ∙ so_far

-- ---- members

-- A member of a concatenation stands in one of its parts, and the property holds of that part.
found_in : {A : Type 0} (P : A → Type 0) (f : A → List Text) (hs : List A) (x : Text) → AllByRecursion P hs
    → among x (flat_map f hs) ≡ true → (h : A) × P h × (among x (f h) ≡ true)
found_in P f [] x a e = absurd (cc)
found_in {A} P f (h ∷ hs) x a e =
    by (among_cases of_texts x (f h) (flat_map f hs) e) (λ r. found_in P f hs x a.1 r)
  where
    by : (among x (f h) ≡ true) ⊎ (among x (flat_map f hs) ≡ true)
        → (among x (flat_map f hs) ≡ true → (k : A) × P k × (among x (f k) ≡ true))
        → (k : A) × P k × (among x (f k) ≡ true)
    by (inl i) r = (h, a.0, i)
    by (inr i) r = r i

put_in : (f : Namespace → List Text) (hs : List Namespace) (h : Namespace) (x : Text) → listed h hs ≡ true
    → among x (f h) ≡ true → among x (flat_map f hs) ≡ true
put_in f [] h x l a = absurd (cc)
put_in f (k ∷ ks) h x l a = by (same_namespace k h) refl l (λ m. put_in f ks h x m a)
  where
    by : (b : Bool) → same_namespace k h ≡ b → (b || listed h ks) ≡ true
        → (listed h ks ≡ true → among x (flat_map f ks) ≡ true) → among x (f k ++ flat_map f ks) ≡ true
    by true e m r =
        among_front of_texts x (f k) (flat_map f ks)
        (subst (λ (z : Namespace). among x (f z) ≡ true) (sym (namespaces.same k h e)) a)
    by false e m r = among_behind of_texts x (f k) (flat_map f ks) (r m)

-- A member that passes a test is one of those that pass it.
kept : (p : Text → Bool) (x : Text) (xs : List Text) → among x (filter p xs) ≡ true
    → (p x ≡ true) × (among x xs ≡ true)
kept p x [] e = absurd (cc)
kept p x (y ∷ ys) e = by (p y) refl e (λ r. kept p x ys r)
  where
    more : (p x ≡ true) × (among x ys ≡ true) → (p x ≡ true) × (among x (y ∷ ys) ≡ true)
    more k = (k.0, or_right (bytes_eq y x) (among x ys) k.1)

    first : p y ≡ true → (bytes_eq y x ≡ true) ⊎ (among x (filter p ys) ≡ true)
        → (among x (filter p ys) ≡ true → (p x ≡ true) × (among x ys ≡ true))
        → (p x ≡ true) × (among x (y ∷ ys) ≡ true)
    first q (inl s) r = (subst (λ (z : Text). p z ≡ true) (same y x s) q, or_left (bytes_eq y x) (among x ys) s)
    first q (inr i) r = more (r i)

    by : (b : Bool) → p y ≡ b → among x (if b then y ∷ filter p ys else filter p ys) ≡ true
        → (among x (filter p ys) ≡ true → (p x ≡ true) × (among x ys ≡ true))
        → (p x ≡ true) × (among x (y ∷ ys) ≡ true)
    by true q i r = first q (or_cases (bytes_eq y x) (among x (filter p ys)) i) r
    by false q i r = more (r i)

keep : (p : Text → Bool) (x : Text) (xs : List Text) → p x ≡ true → among x xs ≡ true
    → among x (filter p xs) ≡ true
keep p x [] t a = absurd (cc)
keep p x (y ∷ ys) t a =
    by (p y) refl (or_cases (bytes_eq y x) (among x ys) a) (λ r. keep p x ys t r)
  where
    by : (b : Bool) → p y ≡ b → (bytes_eq y x ≡ true) ⊎ (among x ys ≡ true)
        → (among x ys ≡ true → among x (filter p ys) ≡ true)
        → among x (if b then y ∷ filter p ys else filter p ys) ≡ true
    by true q (inl s) r = or_left (bytes_eq y x) (among x (filter p ys)) s
    by true q (inr i) r = or_right (bytes_eq y x) (among x (filter p ys)) (r i)
    by false q (inl s) r = let e = ap p (same y x s) in absurd (cc)
    by false q (inr i) r = r i

or_false : (b : Bool) → (b || false) ≡ b
or_false true = refl
or_false false = refl

among_ascending : (x : Text) (xs : List Text) → among x (ascending xs) ≡ among x xs
among_ascending x xs = among_all x xs [] ∙ or_false (among x xs)

-- ---- options

some_not_none : (o : Option Body) → is_none o ≡ true → is_some o ≡ true → ⊥
some_not_none None n s = absurd (cc)
some_not_none (Some b) n s = absurd (cc)

none_unless : (o : Option Body) → (is_some o ≡ true → ⊥) → is_none o ≡ true
none_unless None f = refl
none_unless (Some b) f = absurd (f refl)

-- ---- the missing templates of a chain

module _ (given : SourceTexts) (entry : Text) (options : Options) (c : Seen) (is : IsChain given entry options c) where
  -- A name that was read has a tree.
  tree_of : (n : Text) → is_some (sources_of c n) ≡ true → given n ≢ None
  tree_of n s = ((is.asked n).0 (sym (some_source c.templates n) ∙ s)).1

  unread : (n : Text) → given n ≡ None → is_none (sources_of c n) ≡ true
  unread n e = none_unless (sources_of c n) (λ s. tree_of n s e)

  -- A requested name without a tree has no source.
  no_source : (n : Text) → ChainAsks c entry n → is_none (sources_of c n) ≡ true → (o : Option Text) → given n ≡ o
      → given n ≡ None
  no_source n q none None e = e
  no_source n q none (Some s) e =
      let a = (is.asked n).1 (q, λ f. let no : Some s ≡ None = sym e ∙ f in absurd (cc)) in
      absurd (some_not_none (sources_of c n) none (some_source c.templates n ∙ a))

  missing_to : (n : Text) → among n (missing_in c) ≡ true → ChainAsks c entry n × (given n ≡ None)
  missing_to n a =
      let f = found_in (Reaches (sources_of c) c.escaping (a_chain entry)) (lacks c) c.order n is.reached a in
      let k = kept (λ m. is_none (sources_of c m)) n _ f.2 in
      let q : ChainAsks c entry n = (
        f.0,
        f.1,
        among_behind of_texts n (extends_path (sources_of c) c.escaping f.0) _
            (among_front of_texts n _ (libraries (sources_of c) f.0) k.1),
      ) in
      (q, no_source n q k.0 (given n) refl)

  is_listed : (h : Namespace) → Reaches (sources_of c) c.escaping (a_chain entry) h → listed h c.order ≡ true
  is_listed h r =
      reached_in_order (sources_of c) c.escaping c.order is.order r
      (subst (λ (o : List Namespace). listed (a_chain entry) o ≡ true) (sym is.begins)
      (or_left _ _ (namespaces.reflexive (a_chain entry))))

  -- The includes of a chain or a library, those that may be missing too if `all` is true.
  abbrev needed_by : Bool → Namespace → List Text
  needed_by all h = flat_map (λ t. needs_in all t.body) (templates (sources_of c) h)

  module _ (n : Text) (e : given n ≡ None) (h : Namespace)
      (reached : Reaches (sources_of c) c.escaping (a_chain entry) h) where
    -- Only an include may be missing.
    refuted : among n (asked (sources_of c) c.escaping false h) ≡ true → among n (missing_in c) ≡ true
    refuted a = absurd (is.rules.missing (h, reached, any_at (λ m. is_none (sources_of c m)) n _ a (unread n e)))

    later : (among n (needed_by true h) ≡ true) ⊎ (among n (libraries (sources_of c) h) ≡ true)
        → among n (missing_in c) ≡ true
    later (inl i) =
        put_in (lacks c) c.order h n (is_listed h reached)
        (keep (λ m. is_none (sources_of c m)) n (needed_by true h) (unread n e) i)
    later (inr l) =
        refuted (among_behind of_texts n (extends_path (sources_of c) c.escaping h) _
        (among_behind of_texts n (needed_by false h) (libraries (sources_of c) h) l))

    from_asked : (among n (extends_path (sources_of c) c.escaping h) ≡ true)
        ⊎ (among n (needed_by true h ++ libraries (sources_of c) h) ≡ true)
        → among n (missing_in c) ≡ true
    from_asked (inl p) = refuted (among_front of_texts n (extends_path (sources_of c) c.escaping h) _ p)
    from_asked (inr r) = later (among_cases of_texts n (needed_by true h) (libraries (sources_of c) h) r)

  missing_back : (n : Text) → ChainAsks c entry n → given n ≡ None → among n (missing_in c) ≡ true
  missing_back n q e =
      from_asked n e q.0 q.1 (among_cases of_texts n (extends_path (sources_of c) c.escaping q.0) _ q.2)

-- ---- what the entry needs

-- What a compile environment requests.
abbrev Requested : Text → Text → CompileEnv → Type 0
Requested entry n cenv = Asks cenv.sources cenv.escaping (a_chain entry) n

module _ (given : SourceTexts) (entry : Text) (options : Options) (c : Seen)
    (only : IsOnlyChain given entry options c) (code : Code) (compiled : IsCompiled given entry options code)
    (needs : Needs) (found : texts_in needs.templates ≡ ascending (map (λ t. t.name) c.templates))
    (lacking : texts_in needs.missing ≡ ascending (missing_in c)) where
  same_cenv : cenv_of c ≡ cenv_of compiled.chain
  same_cenv = compiled.is.only c only.is

  templates_are : (n : Text) → IsTrue (among n (texts_in needs.templates))
      ↔ (ChainAsks compiled.chain entry n × (given n ≢ None))
  templates_are n = (
    λ a.
        let q = (only.is.asked n).0 (sym (among_ascending n _) ∙ ap (among n) (sym found) ∙ a) in
        (subst (Requested entry n) same_cenv q.0, q.1),
    λ q.
        ap (among n) found ∙ among_ascending n _
        ∙ (only.is.asked n).1
        (subst (Requested entry n) (sym same_cenv) q.0, q.1),
  )

  missing_are : (n : Text) → IsTrue (among n (texts_in needs.missing))
      ↔ (ChainAsks compiled.chain entry n × (given n ≡ None))
  missing_are n = (
    λ a.
        let q = missing_to given entry options c only.is n
        (sym (among_ascending n _) ∙ ap (among n) (sym lacking) ∙ a) in
        (subst (Requested entry n) same_cenv q.0, q.1),
    λ q.
        ap (among n) lacking ∙ among_ascending n _
        ∙ missing_back given entry options c only.is n
        (subst (Requested entry n) (sym same_cenv) q.0) q.1,
  )

  suffices : (other : SourceTexts)
      → ((n : Text) → IsTrue (among n (texts_in needs.templates)) → other n ≡ given n)
      → ((n : Text) → IsTrue (among n (texts_in needs.missing)) → other n ≡ None)
      → IsCompiled other entry options code
  suffices other f g = alike given other entry options code compiled (λ n q. by n q (given n) refl)
    where
      by : (n : Text) → ChainAsks compiled.chain entry n → (o : Option Text) → given n ≡ o → given n ≡ other n
      by n q None e = e ∙ sym (g n ((missing_are n).1 (q, e)))
      by n q (Some s) e =
          sym (f n ((templates_are n).1 (q, λ no. let not : Some s ≡ None = sym e ∙ no in absurd (cc))))

  pub needed : texts_in needs.names ≡ map (λ n. n.text) code.names → Ascends (texts_in needs.names)
      → AreNeeds given entry options needs
  needed names ascend = record {
    code = code;
    compiled = compiled;
    names = names;
    templates = templates_are;
    missing = missing_are;
    suffice = suffices;
    ascend = (
      ascend,
      subst Ascends (sym found) (ascending_ascends (map (λ t. t.name) c.templates)),
      subst Ascends (sym lacking) (ascending_ascends (missing_in c)),
    );
  }
