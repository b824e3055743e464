-- If the sources of chains read or bind few names, each chain has few names.
use Rattle.std.proofs.Common.{◌≡◌, ℕ, zero, suc, ◌≤◌, ◌<◌, Bool, true, false, if◌then◌else◌, List, [], ◌∷◌}
use Rattle.std.proofs.Common.{length, map, Option, refl, sym, ap, subst, arith, inl, inr, rules}
use Rattle.std.specs.Prelude.{◌||◌, flat_map, Contains, slice_index_or}
use Rattle.std.specs.List.{AllByRecursion as Each}
use Rattle.std.specs.declared.cmp.Ordering.{Ordering}
use Rattle.std.specs.declared.cmp.Ordering.TheVariants.{Less}
use Rattle.std.specs.Ordering.{nat_cmp, is_lt}
use Rattle.std.specs.Cmp.Lexicographic.{slice_cmp}
use Rattle.std.specs.Str.{bytes_eq}
use Rattle.std.proofs.lemmas.Cmp.{nat_list_cmp_total}
use Rattle.std.proofs.lemmas.Map.Text.{is_eq-slice_cmp}
use Rattle.std.proofs.lemmas.Bool.{false_from_ne_true, or_parts, or_right}
use Rattle.jt_ast.specs.Texts.{repeated, inserted, all_inserted, ascending}
use Rattle.jt_ast.specs.Expressions.{Text}
use Rattle.jt_ast.specs.Statements.{data_of, print, choose, for_each, set, set_block, with_values}
use Rattle.jt_ast.specs.Statements.{filter_block, autoescape, macro, include, import_as, import_from, extends, block}
use Rattle.jt_ast.specs.Statements.{Body, end, stmt}
use Rattle.jt_chains.specs.Chain.{Namespace, a_library, same_namespace, listed, Template, templates, MacroBody}
use Rattle.jt_chains.specs.Chain.{macros_in, macros}
use Rattle.jt_chains.specs.Includes.{InOrder}
use Rattle.jt_chains.specs.Weights.{NamesFew}
use Rattle.jt_chains.specs.Uses.{stmt_names, body_names, own_names, scope_names}
use Rattle.jt_chains.specs.View.{Seen, sources_of}
use Rattle.jt_eval.specs.TheFilters.{the_filters, with_defaults, defaults}
use Rattle.jt_ids.specs.declared.filter_id.FilterId.{FilterId}
use Rattle.jt_rules.specs.CompileEnv.{CompileEnv, cenv_of}
use Rattle.jt_rules.specs.Rules.{parameter_names, chain_uses}
use Rattle.jt_uses.specs.Uses.{outside, body_uses}
use Rattle.jt_semantics.specs.Ascends.{IsBefore, Above, Ascends}
use Rattle.jt_semantics.specs.Layout.{names_in, names}
use Rattle.jt_semantics.proofs.DefinedNames.{given_all}
use Rattle.jt_semantics.proofs.ChainOrder.{libraries_stand}
use Rattle.jt_semantics.specs.Measure.{HasFewNames, IsFew, AreFew}
use Rattle.jt_semantics.proofs.Among.{Among, AllAmong, among_front, among_back, each_among, all_among, among_both}
use Rattle.jt_semantics.proofs.Among.{among_has}
use Rattle.jt_semantics.proofs.KeptUses.{AllKeep, ChainsKeep, front, back}
use Rattle.jt_semantics.proofs.EnvLookup.{namespace_same, namespace_is, same_text, is_same, no_both, each_listed}
use Rattle.jt_semantics.proofs.Scopes.{ascending_among, templates_bind}
use Rattle.jt_semantics.proofs.EachElement.{each_append}

-- ---- The names in order ascend strictly

behind : (x y : Text) → bytes_eq y x ≡ false → is_lt (slice_cmp nat_cmp x y) ≡ false → IsBefore y x
behind x y e l = search (arith, rules, nat_list_cmp_total, is_eq-slice_cmp y x)

inserted_above : (x z : Text) (ns : List Text) → IsBefore z x → Above z ns → Above z (inserted x ns)
inserted_above x z [] l h = (l, tt)
inserted_above x z (y ∷ ys) l h = search (arith, rules, inserted_above x y ys, behind)

inserted_ascends : (x : Text) (ns : List Text) → Ascends ns → Ascends (inserted x ns)
inserted_ascends x ns h = search (arith, rules, inserted_above, behind)

all_ascend : (xs ns : List Text) → Ascends ns → Ascends (all_inserted xs ns)
all_ascend [] ns h = h
all_ascend (x ∷ xs) ns h = all_ascend xs (inserted x ns) (inserted_ascends x ns h)

pub ascending_ascends : (xs : List Text) → Ascends (ascending xs)
ascending_ascends xs = all_ascend xs [] tt

pub names_ascend : (cenv : CompileEnv) (hs : List Namespace) (h : Namespace) → Ascends (names_in cenv hs h)
names_ascend cenv [] h = tt
names_ascend cenv (k ∷ ks) h = search (arith, rules, names_ascend cenv ks h, ascending_ascends)

-- ---- Distinct texts that are all among other texts are not more than these

abbrev pub Differs : List Text → Type 0
Differs [] = Unit {0}
Differs (x ∷ xs) = (Among x xs → ⊥) × Differs xs

pub less_is : (o : Ordering) → is_lt o ≡ true → o ≡ Less
less_is o e = search (arith, rules)

pub before_trans : (x y z : Text) → IsBefore x y → IsBefore y z → IsBefore x z
before_trans x y z a b = search (arith, rules, nat_list_cmp_total, less_is)

never_before : (x : Text) → IsBefore x x → ⊥
never_before x a = search (arith, rules, less_is, nat_list_cmp_total)

above_all : (z : Text) (ns : List Text) → Above z ns → (x : Text) → Among x ns → IsBefore z x
above_all z [] h x i = absurd i
above_all z (y ∷ ys) h x (inl e) = subst (λ w. IsBefore z w) e h.0
above_all z (y ∷ ys) h x (inr i) = before_trans z y x h.0 (above_all y ys h.1 x i)

above_differs : (z : Text) (ns : List Text) → Above z ns → (Among z ns → ⊥) × Differs ns
above_differs z [] h = (λ i. i, tt)
above_differs z (y ∷ ys) h = (λ i. never_before z (above_all z (y ∷ ys) h z i), above_differs y ys h.1)

pub ascends_differs : (ns : List Text) → Ascends ns → Differs ns
ascends_differs ns h = search (arith, rules, above_differs)

removed : Text → List Text → List Text
removed x [] = []
removed x (y ∷ ys) = if bytes_eq y x then ys else y ∷ removed x ys

removed_len : (x : Text) (ns : List Text) → Among x ns → suc (length (removed x ns)) ≤ length ns
unfolding removed
removed_len x [] i = absurd i
removed_len x (y ∷ ys) i = search (arith, rules, removed_len x ys, removed, no_both, is_same)

removed_keeps : (x z : Text) (ns : List Text) → (x ≡ z → ⊥) → Among z ns → Among z (removed x ns)
unfolding removed
removed_keeps x z [] d i = absurd i
removed_keeps x z (y ∷ ys) d i = search (arith, rules, removed_keeps x z ys d, removed, same_text)

pub no_more : (xs ns : List Text) → Differs xs → AllAmong xs ns → length xs ≤ length ns
no_more [] ns d a = omega arith
no_more (x ∷ xs) ns d a =
    let r = no_more xs (removed x ns) d.1 (all_among xs (removed x ns)
    (λ z i. removed_keeps x z ns (λ e. d.0 (subst (λ w. Among w xs) (sym e) i)) (each_among xs ns a.1 z i))) in
    let l = removed_len x ns a.0 in
    omega (arith, r, l)

-- ---- A contained name is among the names

contained : (ns : List Text) (x : Text) → Contains ns x → Among x ns
contained ns x c = at ns c.0 c.1 c.2
  where
    at : (ns : List Text) (k : ℕ) → k < length ns → slice_index_or ns k x ≡ x → Among x ns
    at [] k l e = absurd (omega (arith, l))
    at (y ∷ ys) zero l e = inl e
    at (y ∷ ys) (suc k) l e = inr (at ys k (omega (arith, l)) e)

all_contained : (ns xs : List Text) → Each (λ x. Contains ns x) xs → AllAmong xs ns
all_contained ns [] h = tt
all_contained ns (x ∷ xs) h = (contained ns x h.0, all_contained ns xs h.1)

-- ---- The names of a chain come from the chains of the order

flat_from : (g : Namespace → List Text) (ms : List Namespace) (ns : List Text) → ((m : Namespace) → AllAmong (g m) ns)
    → AllAmong (flat_map g ms) ns
flat_from g [] ns h = tt
flat_from g (m ∷ ms) ns h = among_both (g m) (flat_map g ms) ns (h m) (flat_from g ms ns h)

pub names_from : (cenv : CompileEnv) (ns : List Text) (hs : List Namespace)
    → Each (λ h. AllAmong (own_names cenv.sources h) ns) hs → (h : Namespace)
    → AllAmong (names_in cenv hs h) ns
names_from cenv ns [] a h = tt
names_from cenv ns (k ∷ ks) a h =
    search (arith, rules, names_from cenv ns ks a.1, ascending_among, among_both, namespace_same, flat_from)

-- ---- The parameters of a macro are distinct

repeated_differs : (xs : List Text) → repeated xs ≡ false → Differs xs
repeated_differs [] e = tt
repeated_differs (x ∷ xs) e = search (arith, rules, or_parts, no_both, among_has, repeated_differs xs)

module _ (cenv : CompileEnv) (h : Namespace) where
  abbrev OneEach : MacroBody → Type 0
  OneEach m = repeated (parameter_names m.parameters) ≡ false

  macros_named : (t : Text) (c : Body) → AllKeep cenv h (body_uses c outside)
      → Each OneEach (macros_in t c)
  macros_named t end k = tt
  macros_named t (stmt (macro line x ps body) rest) k =
      search (arith, rules, front, false_from_ne_true, back, macros_named t rest)
  macros_named t (stmt (data_of d) rest) k = search (arith, rules, macros_named t rest, back)
  macros_named t (stmt (print line x) rest) k = search (arith, rules, macros_named t rest, back)
  macros_named t (stmt (choose bs other) rest) k = search (arith, rules, macros_named t rest, back)
  macros_named t (stmt (for_each line xs x c body other) rest) k = search (arith, rules, back, macros_named t rest)
  macros_named t (stmt (set line xs x) rest) k = search (arith, rules, macros_named t rest, back)
  macros_named t (stmt (set_block line x body) rest) k = search (arith, rules, macros_named t rest, back)
  macros_named t (stmt (with_values line ps body) rest) k = search (arith, rules, back, macros_named t rest)
  macros_named t (stmt (filter_block line fs body) rest) k = search (arith, rules, back, macros_named t rest)
  macros_named t (stmt (autoescape line on body) rest) k = search (arith, rules, back, macros_named t rest)
  macros_named t (stmt (include line n i w) rest) k = search (arith, rules, macros_named t rest, back)
  macros_named t (stmt (import_as line n new) rest) k = search (arith, rules, macros_named t rest, back)
  macros_named t (stmt (import_from line n news) rest) k = search (arith, rules, back, macros_named t rest)
  macros_named t (stmt (extends line n) rest) k = search (arith, rules, macros_named t rest, back)
  macros_named t (stmt (block line x s r body) rest) k = search (arith, rules, macros_named t rest, back)

  abbrev Few : MacroBody → Type 0
  Few m = length m.parameters ≤ 200

  mapped_len : {A B : Type 0} (g : A → B) (xs : List A) → length (map g xs) ≡ length xs
  mapped_len g [] = refl
  mapped_len g (x ∷ xs) = ap suc (mapped_len g xs)

  module _ (ns : List Text) (few : length ns ≤ 200) where
    named_few : (m : MacroBody) → OneEach m → AllAmong (map (λ p. p.name) m.parameters) ns → Few m
    named_few m e a = search (arith, rules, no_more, repeated_differs, mapped_len)

    body_few : (t : Text) (c : Body) → AllAmong (body_names c) ns → Each OneEach (macros_in t c)
        → Each Few (macros_in t c)
    body_few t end a o = tt
    body_few t (stmt (macro line x ps body) rest) a o =
        search (arith, rules, among_front, named_few, body_few t rest, among_back)
    body_few t (stmt s rest) a o = body_few t rest (among_back (stmt_names s) (body_names rest) ns a) o

    macros_few : (ts : List Template) → AllAmong (flat_map (λ t. body_names t.body) ts) ns
        → AllKeep cenv h (flat_map (λ t. body_uses t.body outside) ts)
        → Each Few (flat_map (λ t. macros_in t.name t.body) ts)
    macros_few [] a e = tt
    macros_few (t ∷ ts) a e =
        search (arith, rules, each_append, body_few, among_front, macros_named, front, macros_few ts, among_back, back)

-- ---- Filters

defaults_len : (xs : List Text) (ds : List (Option Rattle.jt_ast.specs.Expressions.Literal))
    → length (with_defaults xs ds) ≤ length ds
defaults_len [] ds = omega arith
defaults_len (x ∷ xs) [] = omega arith
defaults_len (x ∷ xs) (d ∷ ds) = let l = defaults_len xs ds in omega (arith, l)

three : (i : FilterId) → length (defaults i) ≤ 3
three i = search arith

pub filters_few : (n : ℕ) → length (the_filters.parameters n) ≤ 3
unfolding the_filters
filters_few n = search (arith, rules, defaults_len, three)

-- ---- All chains

-- Each macro of these chains and libraries has few parameters.
namespaces_few : (c : Seen) (ns : List Text) → length ns ≤ 200 → (hs : List Namespace)
    → Each (λ h. AllAmong (own_names (sources_of c) h) ns) hs → ChainsKeep (cenv_of c) hs
    → (h : Namespace) → listed h hs ≡ true → Each (λ m. length m.parameters ≤ 200) (macros (sources_of c) h)
namespaces_few c ns l hs a e h i =
    macros_few (cenv_of c) h ns l (templates (sources_of c) h)
    (each_listed (λ k. AllAmong (own_names (sources_of c) k) ns) hs a h i)
    (each_listed (λ k. AllKeep (cenv_of c) k (chain_uses (sources_of c) k)) hs e h i)

chains_few : (c : Seen) → InOrder (sources_of c) c.order
    → ((h : Namespace) → listed h c.order ≡ true
    → Each (λ m. length m.parameters ≤ 200) (macros (sources_of c) h))
    → ((k : Namespace) → HasFewNames (cenv_of c) c.order k)
    → (hs : List Namespace) → ((h : Namespace) → listed h hs ≡ true → listed h c.order ≡ true)
    → Each (IsFew (cenv_of c) c.order) hs
chains_few c o each n [] i = tt
chains_few c o each n (h ∷ hs) i =
    let known = i h (ap (λ b. b || listed h hs) (namespace_is h)) in (
      record {
        names = n;
        macros =
            given_all (sources_of c) (λ m. length m.parameters ≤ 200) h (each h known)
            (λ l j. each (a_library l) (libraries_stand (cenv_of c) c.order o h known l j).known);
        filters = filters_few;
      },
      chains_few c o each n hs (λ g j. i g (or_right (same_namespace h g) (listed g hs) j)),
    )

pub few_by : (c : Seen) → InOrder (sources_of c) c.order → NamesFew c → ChainsKeep (cenv_of c) c.order
    → AreFew (cenv_of c) c.order
few_by c o n e =
    let each = all_own c.order n.all in
    let from = λ (k : Namespace). names_from (cenv_of c) n.names c.order each k in
    chains_few c o (namespaces_few c n.names n.few c.order each e) (λ k. (
      (let l = no_more (names (cenv_of c) c.order k) n.names
          (ascends_differs (names (cenv_of c) c.order k) (names_ascend (cenv_of c) c.order k)) (from k) in
          let f = n.few in omega (arith, l, f)),
      scopes_few k (listed k c.order) refl,
    )) c.order (λ h i. i)
  where
    all_own : (hs : List Namespace)
        → Each (λ h. Each (λ x. Contains n.names x) (own_names (sources_of c) h)) hs
        → Each (λ h. AllAmong (own_names (sources_of c) h) n.names) hs
    all_own [] a = tt
    all_own (h ∷ hs) a = (all_contained n.names (own_names (sources_of c) h) a.0, all_own hs a.1)

    own_of : (k : Namespace) (hs : List Namespace) → listed k hs ≡ true
        → Each (λ h. AllAmong (own_names (sources_of c) h) n.names) hs
        → AllAmong (own_names (sources_of c) k) n.names
    own_of k hs e a = each_listed (λ h. AllAmong (own_names (sources_of c) h) n.names) hs a k e

    scopes_few : (k : Namespace) (b : Bool) → listed k c.order ≡ b
        → length (if b then scope_names (sources_of c) k else []) ≤ 200
    scopes_few k b p =
        grind (arith, ascending_among, templates_bind, own_of, all_own, no_more, ascends_differs, ascending_ascends)
