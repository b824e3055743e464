-- Each library of an order is imported by one of its chains, so the sources of each chain and
-- library are counted.
use Rattle.std.proofs.Common.{◌≡◌, ◌+◌, ◌≤◌, Bool, true, false, ◌||◌, ◌⊎◌, inl, inr, if◌then◌else◌, List, [], ◌∷◌, ◌++◌}
use Rattle.std.proofs.Common.{map, refl, ap, arith}
use Rattle.std.specs.Prelude.{filter}
use Rattle.std.specs.List.{AllByRecursion}
use Rattle.std.specs.Option.{is_some}
use Rattle.std.specs.Str.{bytes_eq}
use Rattle.jt_ast.specs.Texts.{ascending}
use Rattle.jt_ast.specs.Expressions.{Text}
use Rattle.jt_chains.specs.Chain.{Sources, Namespace, a_chain, a_library, same_namespace, listed, templates, libraries}
use Rattle.jt_chains.specs.Includes.{with_source, included, InOrder}
use Rattle.jt_chains.specs.Rules.{Reaches}
use Rattle.jt_inherit.specs.Chains.{SourceTexts}
use Rattle.jt_inherit.specs.Small.{templates_len, libraries_len, chains_len}
use Rattle.jt_inherit.proofs.TreeWeights.{HasTag, needed, tagged}
use Rattle.jt_semantics.proofs.Among.{Among, all_ascending}
use Rattle.jt_semantics.proofs.EnvLookup.{same_text, same_is, namespace_is, no_both, each_among}
use Rattle.std.proofs.lemmas.Bool.{or_right}

-- ---- the libraries that a chain imports

library_in : (n : Text) (xs ys : List Text) → listed (a_library n) (map a_chain xs ++ map a_library ys) ≡ true
    → Among n ys
library_in n [] [] e = absurd (no_both e refl)
library_in n [] (y ∷ ys) e = by (bytes_eq y n) refl e (λ f. library_in n [] ys f)
  where
    by : (b : Bool) → bytes_eq y n ≡ b → (b || listed (a_library n) (map a_library ys)) ≡ true
        → (listed (a_library n) (map a_library ys) ≡ true → Among n ys) → Among n (y ∷ ys)
    by true q e f = inl (same_text y n q)
    by false q e f = inr (f e)
library_in n (x ∷ xs) ys e = library_in n xs ys e

passed : (p : Text → Bool) (n : Text) (xs : List Text) → Among n (filter p xs) → Among n xs
passed p n [] i = absurd i
passed p n (x ∷ xs) i = by (p x) i (λ j. passed p n xs j)
  where
    by : (b : Bool) → Among n (if b then x ∷ filter p xs else filter p xs) → (Among n (filter p xs) → Among n xs)
        → Among n (x ∷ xs)
    by true (inl e) f = inl e
    by true (inr i) f = inr (f i)
    by false i f = inr (f i)

imports_it : (s : Sources) (n : Text) (h : Namespace) → listed (a_library n) (included s h) ≡ true
    → Among n (libraries s h)
imports_it s n h i =
    passed (λ m. is_some (s m)) n (libraries s h)
    (library_in n (with_source s (needed s h)) (with_source s (libraries s h)) i)

-- ---- bytes

module _ (given : SourceTexts) (s : Sources) where
  -- One of these libraries is no longer than all of them.
  one_of : (n : Text) (ns : List Text) → Among n ns
      → templates_len given (templates s (a_library n)) ≤ libraries_len given s ns
  one_of n [] i = absurd i
  one_of n (m ∷ ms) (inl e) =
      let same : templates_len given (templates s (a_library m)) ≡ templates_len given (templates s (a_library n)) =
      ap (λ z. templates_len given (templates s (a_library z))) e in
      omega (arith, same)
  one_of n (m ∷ ms) (inr i) = omega (arith, one_of n ms i)

  -- A chain with the libraries that it imports is no longer than all chains.
  chain_counts : (k : Text) (hs : List Namespace) → listed (a_chain k) hs ≡ true
      → templates_len given (templates s (a_chain k)) + libraries_len given s (ascending (libraries s (a_chain k)))
      ≤ chains_len given s hs
  chain_counts k [] e = absurd (no_both e refl)
  chain_counts k (a_library m ∷ hs) e = chain_counts k hs e
  chain_counts k (a_chain m ∷ hs) e = by (bytes_eq m k) refl e (λ f. chain_counts k hs f)
    where
      by : (b : Bool) → bytes_eq m k ≡ b → (b || listed (a_chain k) hs) ≡ true
          → (listed (a_chain k) hs ≡ true → templates_len given (templates s (a_chain k))
          + libraries_len given s (ascending (libraries s (a_chain k)))
          ≤ chains_len given s hs)
          → templates_len given (templates s (a_chain k)) + libraries_len given s (ascending (libraries s (a_chain k)))
          ≤ templates_len given (templates s (a_chain m)) + libraries_len given s (ascending (libraries s (a_chain m)))
          + chains_len given s hs
      by true q e f =
          let is : m ≡ k = same_text m k q in
          let own : templates_len given (templates s (a_chain m)) ≡ templates_len given (templates s (a_chain k)) =
          ap (λ z. templates_len given (templates s (a_chain z))) is in
          let imported : libraries_len given s (ascending (libraries s (a_chain m)))
          ≡ libraries_len given s (ascending (libraries s (a_chain k))) =
          ap (λ z. libraries_len given s (ascending (libraries s (a_chain z)))) is in
          omega (arith, own, imported)
      by false q e f = omega (arith, f e)

  module _ (escaping : Bool) (entry : Text) (rest : List Namespace) (ordered : InOrder s (a_chain entry ∷ rest)) where
    -- A library that a namespace of the order imports is no longer than all chains.
    led_to : (n : Text) (k : Namespace) → listed k (a_chain entry ∷ rest) ≡ true → Among n (libraries s k)
        → templates_len given (templates s (a_library n)) ≤ chains_len given s (a_chain entry ∷ rest)
    led_to n (a_library k) e i = absurd i
    led_to n (a_chain k) e i =
        let ls = libraries s (a_chain k) in
        omega (
          arith,
          one_of n (ascending ls) (each_among ls (ascending ls) (all_ascending ls) n i),
          chain_counts k (a_chain entry ∷ rest) e,
        )

    counts : (h : Namespace) → listed h (a_chain entry ∷ rest) ≡ true → Reaches s escaping (a_chain entry) h
        → templates_len given (templates s h) ≤ chains_len given s (a_chain entry ∷ rest)
    counts (a_chain k) e r = omega (arith, chain_counts k (a_chain entry ∷ rest) e)
    counts (a_library n) e r =
        by (tagged s escaping (a_chain entry ∷ rest) ordered r
        (ap (λ b. b || listed (a_chain entry) rest) (same_is entry)))
      where
        by : (a_library n ≡ a_chain entry) ⊎ HasTag s (a_chain entry ∷ rest) (a_library n)
            → templates_len given (templates s (a_library n)) ≤ chains_len given s (a_chain entry ∷ rest)
        by (inl q) = absurd cc
        by (inr t) = led_to n t.0 t.1 (imports_it s n t.0 t.2)

    each_counts : (hs : List Namespace)
        → ((h : Namespace) → listed h hs ≡ true → listed h (a_chain entry ∷ rest) ≡ true)
        → AllByRecursion (Reaches s escaping (a_chain entry)) hs
        → AllByRecursion (λ h. templates_len given (templates s h) ≤ chains_len given s (a_chain entry ∷ rest)) hs
    each_counts [] f r = tt
    each_counts (h ∷ hs) f r = (
      counts h (f h (ap (λ b. b || listed h hs) (namespace_is h))) r.0,
      each_counts hs (λ k e. f k (or_right (same_namespace h k) (listed k hs) e)) r.1,
    )

    -- The sources of each chain and library are no longer than all sources together.
    pub all_count : AllByRecursion (Reaches s escaping (a_chain entry)) (a_chain entry ∷ rest)
        → AllByRecursion (λ h. templates_len given (templates s h) ≤ chains_len given s (a_chain entry ∷ rest))
        (a_chain entry ∷ rest)
    all_count r = each_counts (a_chain entry ∷ rest) (λ h e. e) r
