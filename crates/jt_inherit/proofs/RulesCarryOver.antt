-- A rule that the templates read so far break is broken by the whole chain and in each reading of the library. So an
-- entry has one chain, up to the order of its parts, and none if a rule is broken.
use Rattle.jt_inherit.proofs.Vocabulary as words
use words.{◌≡◌, ℕ, suc, ◌<◌, ◌≤◌, ◌==◌, Bool, true, false, not, ◌&&◌, ◌||◌, List, [], ◌∷◌, ◌++◌, length, map}
use words.{refl, sym, ap, ◌∙◌, arith, inl, inr, ◌⊎◌, ⊎_elim, Option, Some, None, length-append, rules, given}
use words.{imports, flat_map, list_any, is_none, append-nil, cases_lt, nat_tests, among, repeated, Text}
use words.{Body, Sources, Namespace, a_chain, a_library, Template, templates, library_template, is_a_library, parent_of}
use words.{names_up, blocks_in, macros, own, libraries_in, lacks_body, lacks_next, their_blocks, any_double}
use words.{any_lacks_macros, imports_in, all_given_from, public_macro, Asks, Reaches, here, is_whole, extends_path}
use words.{of_texts, reflexive, among_front, and_from, and_parts, flat_map-append, list_any-append}
use words.{not-true, or_from, or_left, or_parts, or_right, or_cases, ◌≢◌, ◌↔◌, string_bytes, sources_of, AllByRecursion}
use words.{is_some, Options, sources_in, SourceTexts, IsRead, IsOnly, IsChain, Breaks, Shows, HasFault, IsUncut}
use words.{IsUnspelled, KeepsRules, Seen, ChainError, same, names, IsMissing}
use Rattle.jt_chains.specs.Chain.{Definition, given_from}
use rules.{InSomeChain, BadName, ExtendsCycle, ChainTooLong, DoubleBlock, RequiredNotGiven, NoSuper, IncludeCycle}
use rules.{MacroTwice, NoMacro, NotALibrary}
use Rattle.jt_inherit.proofs.PathsGrow as paths_grow
use paths_grow.{Keeps, Carries, carries_head, carries_rest, carries_front, carries_behind, continues, up_more, on_path}
use paths_grow.{on_first, on_libraries, way_more, namespace_more, included_more, reaches_more, reaches_next, asked_more}
use paths_grow.{asks_more}
use Rattle.jt_inherit.proofs.StoreLookup.{none_public, nothing_lacks, lacks_same}
use words.trees
use words.error
use Rattle.jt_inherit.specs.Laws.{IsReading, IsLasting, RefusalLaws}
use Rattle.jt_inherit.proofs.DiscoveryInvariant.{some_source}
use Rattle.jt_chains.specs.Rules as rules

-- ---- tests of the first elements

any_front : {A : Type 0} (p : A → Bool) (xs ys : List A) → list_any p xs ≡ true → list_any p (xs ++ ys) ≡ true
any_front p xs ys h = list_any-append p xs ys ∙ or_left _ _ h

or_both : {a b c d : Bool} → (a ≡ true → c ≡ true) → (b ≡ true → d ≡ true) → (a || b) ≡ true → (c || d) ≡ true
or_both f g h = ⊎_elim (λ p. or_left _ _ (f p)) (λ q. or_right _ _ (g q)) (or_cases _ _ h)

none_front : {A : Type 0} (p : A → Bool) (xs ys : List A) → list_any p (xs ++ ys) ≡ false → list_any p xs ≡ false
none_front p xs ys h = (or_parts _ _ (rw list_any-append at h)).0

pub repeated_front : (xs ys : List Text) → repeated xs ≡ true → repeated (xs ++ ys) ≡ true
repeated_front [] ys h = absurd (cc)
repeated_front (x ∷ xs) ys h = search (arith, rules, repeated_front xs ys, among_front of_texts, or_right)

sixty_five : (n : ℕ) → (n == 65) ≡ true → n ≡ 65
sixty_five n q = grind (arith, nat_tests)

below : (n : ℕ) → n ≤ 65 → (n == 65) ≡ false → n < 65
below n le q = grind (arith, nat_tests)

-- ---- names on the path

up_len : (s : Sources) (k : ℕ) (o : Option Text) → length (names_up s k o) ≤ k
up_len s (suc k) (Some n) = omega (arith, up_len s k (parent_of (s n)))
up_len s k o = omega arith

-- A path that ends has no more names.
up_ends : (s : Sources) (m k : ℕ) (o : Option Text) → k ≤ m → length (names_up s k o) < k
    → names_up s m o ≡ names_up s k o
up_ends s (suc m) (suc k) None le lt = refl
up_ends s (suc m) (suc k) (Some n) le lt = search (arith, rules, up_ends s m k, parent_of)
up_ends s m k o le lt = absurd (omega arith)

-- Names with a source keep one.
still_none : (s r : Sources) (xs : List Text) → Carries s r xs → list_any (λ n. is_none (s n)) xs ≡ false
    → list_any (λ n. is_none (r n)) xs ≡ false
still_none s r [] g h = refl
still_none s r (x ∷ xs) g h =
    search (
      arith,
      rules,
      or_parts,
      or_from,
      still_none s r xs (carries_rest x _ g),
      or_right,
      reflexive,
    )

-- ---- sublists, in their order

pub data Within {A : Type 0} : List A → List A → Type 0 where
  none : Within [] []
  keep : {x : A} {xs ys : List A} → Within xs ys → Within (x ∷ xs) (x ∷ ys)
  skip : {y : A} {xs ys : List A} → Within xs ys → Within xs (y ∷ ys)

module _ {A : Type 0} where
  within_same : (xs : List A) → Within xs xs
  within_same [] = none
  within_same (x ∷ xs) = keep (within_same xs)

  within_both : {xs ys us vs : List A} → Within xs ys → Within us vs → Within (xs ++ us) (ys ++ vs)
  within_both none b = b
  within_both (keep a) b = keep (within_both a b)
  within_both (skip a) b = skip (within_both a b)

  within_any : (ys : List A) → Within [] ys
  within_any [] = none
  within_any (y ∷ ys) = skip (within_any ys)

  -- What occurs among the names of a sublist, or twice, does so among the names of the list.
  module _ (f : A → Text) where
    among_within : {xs ys : List A} → Within xs ys → (z : Text) → among z (map f xs) ≡ true → among z (map f ys) ≡ true
    among_within none z a = a
    among_within (keep {x} {xs} {ys} r) z a = search (arith, rules, among_within r z, or_right)
    among_within (skip {y} {xs} {ys} r) z a = or_right _ _ (among_within r z a)

    repeated_within : {xs ys : List A} → Within xs ys → repeated (map f xs) ≡ true → repeated (map f ys) ≡ true
    repeated_within none h = h
    repeated_within (keep {x} {xs} {ys} r) h = search (arith, rules, repeated_within r, among_within, or_right)
    repeated_within (skip {y} {xs} {ys} r) h = or_right _ _ (repeated_within r h)

-- ---- the macros of libraries, if the imported ones keep their source

module _ (s r : Sources) where
  in_from : (n : Text) (xs : List (Text × Text)) → ((b : Body) → s n ≡ Some b → r n ≡ Some b)
      → Within (all_given_from s n xs) (all_given_from r n xs)
  in_from n [] g = none
  in_from n (x ∷ xs) g = within_both (by (s n) refl) (in_from n xs g)
    where
      one : Sources → List (Text × Definition)
      one q = given_from n x.1 (public_macro x.0 (macros q (a_library n)))

      by : (o : Option Body) → s n ≡ o → Within (one s) (one r)
      by None e = rw (e, none_public x.0) (within_any (one r))
      by (Some b) e = rw (e, g b e) (within_same _)

  lacking_from : (n : Text) (xs : List (Text × Text)) → ((b : Body) → s n ≡ Some b → r n ≡ Some b)
      → rules.lacks_one s n xs ≡ true → rules.lacks_one r n xs ≡ true
  lacking_from n xs g h = by (s n) refl
    where
      by : (o : Option Body) → s n ≡ o → rules.lacks_one r n xs ≡ true
      by None e = let no : false ≡ true = sym (nothing_lacks s n xs (ap is_a_library e)) ∙ h in absurd (cc)
      by (Some b) e =
          let kept : r n ≡ s n = g b e ∙ sym e in
          lacks_same r s n xs kept ∙ h

  in_imports : (b : Body) → Carries s r (libraries_in b) → Within (imports_in s b) (imports_in r b)
  in_imports trees.end g = none
  in_imports (trees.stmt (trees.import_as line n x) rest) g =
      keep (in_imports rest (carries_rest n _ g))
  in_imports (trees.stmt (trees.import_from line n xs) rest) g =
      within_both (in_from n xs (carries_head n _ g))
      (in_imports rest (carries_rest n _ g))
  in_imports (trees.stmt t rest) g = in_imports rest g

  lacking : (b : Body) → Carries s r (libraries_in b) → rules.lacks_macros s b ≡ true → rules.lacks_macros r b ≡ true
  lacking trees.end g h = h
  lacking (trees.stmt (trees.import_from line n xs) rest) g h =
      or_both (lacking_from n xs (carries_head n _ g)) (lacking rest (carries_rest n _ g)) h
  lacking (trees.stmt (trees.import_as line n x) rest) g h =
      lacking rest (carries_rest n _ g) h
  lacking (trees.stmt t rest) g h = lacking rest g h

  all_imports : (ts : List Template) → Carries s r (flat_map (λ t. libraries_in t.body) ts)
      → Within (flat_map (λ t. imports_in s t.body) ts) (flat_map (λ t. imports_in r t.body) ts)
  all_imports [] g = none
  all_imports (t ∷ ts) g = within_both
      (in_imports t.body (carries_front (libraries_in t.body) _ g))
      (all_imports ts (carries_behind (libraries_in t.body) _ g))

  all_lacking : (ts : List Template) → Carries s r (flat_map (λ t. libraries_in t.body) ts)
      → any_lacks_macros s ts ≡ true → any_lacks_macros r ts ≡ true
  all_lacking [] g h = h
  all_lacking (t ∷ ts) g h =
      or_both (lacking t.body (carries_front (libraries_in t.body) _ g))
      (all_lacking ts (carries_behind (libraries_in t.body) _ g)) h

-- ---- the rules

module _ (s r : Sources) (e : Bool) (entry : Namespace) (g : Keeps s r e entry) where
  there : {h : Namespace} → Reaches s e entry h → Reaches r e entry h
  there p = reaches_more g here p

  pub bad_name : BadName s e entry → BadName r e entry
  bad_name x = (x.0, there x.1, (x.2.0, asked_more g true x.0 (there x.1) x.2.0 x.2.1, x.2.2))

  -- A path with 65 names is complete.
  full : (h : Namespace) → Reaches r e entry h → length (extends_path s e h) ≡ 65
      → extends_path r e h ≡ extends_path s e h
  full h p len =
      let more = way_more g h p in
      more.1 ∙ ap (λ l. extends_path s e h ++ l)
      (no_more more.0 (omega (arith, len, most h, ap length more.1, length-append (extends_path s e h) more.0)))
      ∙ append-nil (extends_path s e h)
    where
      no_more : (l : List Text) → length l ≤ 0 → l ≡ []
      no_more [] le = refl
      no_more (x ∷ l) le = absurd (omega arith)

      most : (k : Namespace) → length (extends_path r e k) ≤ 65
      most (a_chain n) = up_len r 65 (Some n)
      most (a_library n) = omega arith

  long : (h : Namespace) → Reaches r e entry h
      → ((length (extends_path s e h) == 65) && not (repeated (extends_path s e h))) ≡ true
      → ((length (extends_path r e h) == 65) && not (repeated (extends_path r e h))) ≡ true
  long h p t = search (arith, rules, and_parts, extends_path, repeated, full, sixty_five)

  -- A name that occurs twice on the path does so among the first 65 names, or these differ.
  cycle : (h : Text) (k : ℕ) → Reaches r e entry (a_chain h) → repeated (names_up s k (Some h)) ≡ true
      → ExtendsCycle r e entry ⊎ ChainTooLong r e entry
  cycle h k p again =
      by (repeated (extends_path s e (a_chain h))) refl (length (extends_path s e (a_chain h)) == 65) refl
    where
      first : length (extends_path s e (a_chain h)) < 65 → repeated (extends_path s e (a_chain h)) ≡ true
      first lt = ⊎_elim
          (λ (c : k < 65).
          let more = up_more s 65 k (Some h) (omega (arith, c)) in
          ap repeated more.1 ∙ repeated_front (names_up s k (Some h)) more.0 again)
          (λ (c : 65 ≤ k).
          ap repeated (sym (up_ends s k 65 (Some h) c lt)) ∙ again)
          (cases_lt k 65)

      by : (b : Bool) → repeated (extends_path s e (a_chain h)) ≡ b → (c : Bool)
          → (length (extends_path s e (a_chain h)) == 65) ≡ c → ExtendsCycle r e entry ⊎ ChainTooLong r e entry
      by true q c f =
          let more = way_more g (a_chain h) p in
          inl (a_chain h, p, (h, refl, 65, ap repeated more.1 ∙ repeated_front (extends_path s e (a_chain h)) more.0 q))
      by false q true f =
          inr (inl (
            a_chain h,
            p,
            long (a_chain h) p (and_from _
                _ f (ap not q)),
          ))
      by false q false f = search (arith, rules, first, below, extends_path, a_chain, up_len)

  pub extends_cycle : ExtendsCycle s e entry → ExtendsCycle r e entry ⊎ ChainTooLong r e entry
  extends_cycle x =
      let y = x.2 in
      cycle y.0 y.2 (rw (← y.1) (there x.1)) y.3

  pub too_long : ChainTooLong s e entry → ChainTooLong r e entry
  too_long x = search (arith, rules, there, long)

  pub double_block : DoubleBlock s e entry → DoubleBlock r e entry
  double_block x =
      let p = there x.1 in
      let more = namespace_more g x.0 p in (
        x.0,
        p,
        ap (any_double e) more.1
            ∙ any_front (λ t. repeated (map (λ b. b.name) (blocks_in t.name t.body e))) (templates s x.0) more.0 x.2,
      )

  -- A whole chain or library stays the same.
  whole_same : (h : Namespace) → Reaches r e entry h → is_whole s e h ≡ true
      → (templates r h ≡ templates s h) × (is_whole r e h ≡ true)
  whole_same h p w =
      let w1 = and_parts _
      _ w in
      let w2 = and_parts _
      _ w1.1 in
      let sources : list_any (λ n. is_none (s n)) (extends_path s e h) ≡ false =
      not-true (list_any (λ n. is_none (s n)) (extends_path s e h)) w2.1 in
      let one = same_namespace_way h p sources in
      let still =
      still_none s r (extends_path s e h) (λ n a. on_path g h p n (ap (among n) one.0 ∙ a)) sources in (
        one.1,
        rw one.0 (and_from _
            _ w1.0
            (and_from _
            _ w2.0 (ap not still))),
      )
    where
      same_namespace_way : (k : Namespace) → Reaches r e entry k
          → list_any (λ n. is_none (s n)) (extends_path s e k) ≡ false
          → (extends_path r e k ≡ extends_path s e k) × (templates r k ≡ templates s k)
      same_namespace_way (a_chain n) q sources =
          let more = up_more s 65 64 (Some n) (omega arith) in (
            ((continues s r 65 (Some n) (on_path g (a_chain n) q)).whole sources).0,
            ((continues s r 64 (Some n) (on_first g n q)).whole
                (none_front (λ m. is_none (s m)) (names_up s 64 (Some n)) more.0
                (ap (list_any (λ m. is_none (s m))) (sym more.1) ∙ sources))).1,
          )
      same_namespace_way (a_library n) q sources = (refl, ap (library_template n) (by (s n) refl))
        where
          by : (o : Option Body) → s n ≡ o → r n ≡ s n
          by None f =
              let no : false ≡ true = sym sources ∙ ap (λ o. is_none o || false) f in
              absurd (cc)
          by (Some b) f = on_path g (a_library n) q n (rw (reflexive n)) b f ∙ sym f

  in_chain : (f : List Template → Bool) → InSomeChain s e entry (λ h. f (templates s h))
      → InSomeChain r e entry (λ h. f (templates r h))
  in_chain f x = search (arith, rules, there, and_parts, whole_same, and_from)

  pub required_not_given : RequiredNotGiven s e entry → RequiredNotGiven r e entry
  required_not_given = in_chain (λ us. lacks_body (their_blocks e us))

  pub no_super : NoSuper s e entry → NoSuper r e entry
  no_super = in_chain (λ us. lacks_next (their_blocks e us))

  -- The definitions are among those when more is read.
  given_kept : (h : Namespace) → Reaches r e entry h → templates r h ≡ templates s h → Within (given s h) (given r h)
  given_kept h p same_templates =
      within_both (rw same_templates (within_same (own h (macros s h)))) (by h p same_templates)
    where
      by : (k : Namespace) → Reaches r e entry k → templates r k ≡ templates s k → Within (imports s k) (imports r k)
      by (a_library n) q t = none
      by (a_chain n) q t =
          rw t (all_imports s r (templates s (a_chain n)) (λ m a. on_libraries g (a_chain n) q m
          (ap (λ vs. among m (flat_map (λ (u : Template). libraries_in u.body) vs)) t ∙ a)))

  pub macro_twice : MacroTwice s e entry → MacroTwice r e entry
  macro_twice x =
      let p = there x.1 in
      let k = and_parts _ _ x.2 in
      let w = whole_same x.0 p k.0 in (
        x.0,
        p,
        and_from (is_whole r e x.0) (repeated (map (λ y. y.0) (given r x.0))) w.1
            (repeated_within (λ y. y.0) (given_kept x.0 p w.0) k.1),
      )

  pub no_macro : NoMacro s e entry → NoMacro r e entry
  no_macro x =
      let p = there x.1 in
      (x.0, p, (x.2.0, x.2.1, by x.0 p (x.2.0) x.2.1 x.2.2))
    where
      by : (h : Namespace) → Reaches r e entry h → (n : Text) → h ≡ a_chain n
          → any_lacks_macros s (templates s h) ≡ true → any_lacks_macros r (templates r h) ≡ true
      by (a_library m) p n is t = absurd (cc)
      by (a_chain m) p n is t =
          let h = a_chain m in
          let more = namespace_more g h p in
          let f : Template → List Text = λ u. libraries_in u.body in
          ap (any_lacks_macros r) more.1
          ∙ any_front (λ u. rules.lacks_macros r u.body) (templates s h) more.0
          (all_lacking s r (templates s h) (λ k a. on_libraries g h p k
          (rw more.1 (ap (among k) (flat_map-append f (templates s h) more.0)
          ∙ among_front of_texts k _ _ a))) t)

  pub not_a_library : NotALibrary s e entry → NotALibrary r e entry
  not_a_library x = search (arith, rules, there, on_path, reflexive)

  pub include_cycle : IncludeCycle s e entry → IncludeCycle r e entry
  include_cycle x =
      let p = there x.1 in
      let a = included_more g x.0 p x.2.0 x.2.1 in
      (x.0, p, (x.2.0, a, reaches_more g (reaches_next p a) x.2.2))

-- ---- the trees of names

pub any_at : (p : Text → Bool) (x : Text) (xs : List Text) → among x xs ≡ true → p x ≡ true → list_any p xs ≡ true
any_at p x [] a t = absurd (cc)
any_at p x (y ∷ xs) a t = search (arith, rules, any_at p x xs, same, or_right)

-- The template of a source.
pub source_read : (P : Template → Type 0) (ts : List Template) (n : Text) (b : Body) → AllByRecursion P ts
    → sources_in ts n ≡ Some b → P (record { name = n; body = b })
source_read P [] n b a e = absurd (cc)
source_read P (t ∷ ts) n b a e = search (arith, rules, source_read P ts n b a.1, same)

named_source : (ts : List Template) (n : Text) → among n (names ts) ≡ true → (b : Body) × (sources_in ts n ≡ Some b)
named_source ts n a = by (sources_in ts n) refl (some_source ts n ∙ a)
  where
    by : (o : Option Body) → sources_in ts n ≡ o → is_some o ≡ true → (b : Body) × (sources_in ts n ≡ Some b)
    by None e q = absurd (cc)
    by (Some b) e q = (b, e)

source_named : (ts : List Template) (n : Text) (b : Body) → sources_in ts n ≡ Some b → among n (names ts) ≡ true
source_named ts n b e = sym (some_source ts n) ∙ ap is_some e

-- If the first rule is broken, the second one is when more is read.
abbrev IsCarried : (Sources → Bool → Namespace → Type 0) → (Sources → Bool → Namespace → Type 0) → Type 0
IsCarried Rule Broken =
    (s r : Sources) (e : Bool) (entry : Namespace) → Keeps s r e entry → Rule s e entry → Broken r e entry

module _ (given : SourceTexts) (options : Options) where
  has_source : (ts : List Template) (n : Text) (b : Body) → AllByRecursion (IsRead given options) ts
      → sources_in ts n ≡ Some b → given n ≢ None
  has_source ts n b a e = search (arith, rules, source_read)

  module _ (entry : Text) (d : Seen) (is : IsChain given entry options d) where
    d_asked : (n : Text) → (among n (names d.templates) ≡ true) ↔
        (Asks (sources_of d) options.autoescape (a_chain entry) n × (given n ≢ None))
    d_asked =
        rw (← is.escaping) is.asked

    d_keeps : KeepsRules (sources_of d) options.autoescape (a_chain entry)
    d_keeps = rw (← is.escaping) is.rules

    -- A requested name that was read in the only way has the same tree in the chain.
    module _ (ts : List Template) (read : AllByRecursion (IsRead given options) ts)
        (only : AllByRecursion (IsOnly given options) ts) where
      into : Keeps (sources_in ts) (sources_of d) options.autoescape (a_chain entry)
      into = record {
        kept = λ n b i e.
            let c = named_source _ n ((d_asked n).1 (i, has_source ts n b read e)) in
            let one = source_read _ ts n b only e c.0
            (source_read _ _ n c.0 is.read.each c.1) in
            c.1 ∙ ap (λ (x : Body). Some x) one;
      }

    -- ---- a broken rule

    -- A rule that the templates read so far break is broken by the chain, which keeps its rules.
    refuted : {Rule Broken : Sources → Bool → Namespace → Type 0} → IsCarried Rule Broken
        → (Broken (sources_of d) options.autoescape (a_chain entry) → ⊥)
        → Shows given options (λ s. Rule s options.autoescape (a_chain entry)) → ⊥
    refuted carry kept x = search (arith, rules, into)

    -- A requested name has a tree or no source.
    no_fault : (n : Text) (P : Text → Type 0) → HasFault given entry options n P → ⊥
    no_fault n P x =
        let i = asks_more (into x.reached.templates x.reached.read.each x.reached.only) n x.reached.holds in
        let c = named_source _ n
        ((d_asked n).1 (i, λ missing. let no : None ≡ Some x.source = sym missing ∙ x.found in absurd (cc))) in
        let r = source_read _ _ n c.0 is.read.each c.1 in
        let told : Some r.source ≡ Some x.source = sym r.found ∙ x.found in
        let source : r.source ≡ x.source = cc in
        x.none c.0 (rw source at r.tree)

    pub no_chain : (e : ChainError) → Breaks e given entry options → e ≡ error.NoMemory
    no_chain error.Missing x =
        let g = into x.reached.templates x.reached.read.each x.reached.only in
        let h = x.reached.holds in
        let p = reaches_more g here h.1 in
        absurd (d_keeps.missing (
          h.0,
          p,
          any_at _ x.name _ (asked_more g false h.0 p x.name h.2) (unread x.name x.found),
        ))
      where
        unread : (n : Text) → given n ≡ None → is_none (sources_of d n) ≡ true
        unread n missing = by (sources_of d n) refl
          where
            by : (o : Option Body) → sources_of d n ≡ o → is_none o ≡ true
            by None e = refl
            by (Some b) e = absurd (has_source d.templates n b is.read.each e missing)
    no_chain error.BadName x = absurd (refuted bad_name d_keeps.bad_name x)
    no_chain error.ExtendsCycle x =
        absurd (refuted extends_cycle (⊎_elim d_keeps.extends_cycle d_keeps.too_long) x)
    no_chain error.ChainTooLong x = absurd (refuted too_long d_keeps.too_long x)
    no_chain error.DoubleBlock x = absurd (refuted double_block d_keeps.double_block x)
    no_chain error.RequiredNotGiven x = absurd (refuted required_not_given d_keeps.required_not_given x)
    no_chain error.NoSuper x = absurd (refuted no_super d_keeps.no_super x)
    no_chain error.IncludeCycle x = absurd (refuted include_cycle d_keeps.include_cycle x)
    no_chain error.MacroTwice x = absurd (refuted macro_twice d_keeps.macro_twice x)
    no_chain error.NoMacro x = absurd (refuted no_macro d_keeps.no_macro x)
    no_chain error.NotALibrary x = absurd (refuted not_a_library d_keeps.not_a_library x)
    no_chain error.NoMemory x = refl
    no_chain (error.Scan n e) x = absurd (no_fault (string_bytes n) (IsUncut e options) x)
    no_chain (error.Parse n e) x = absurd (no_fault (string_bytes n) (IsUnspelled e options) x)

  -- ---- one chain only

  module _ (entry : Text) (c d : Seen) (ic : IsChain given entry options c) (id : IsChain given entry options d)
      (only : AllByRecursion (IsOnly given options) c.templates) where
    -- A name that the other chain requests has the same tree in this one.
    back : Keeps (sources_of d) (sources_of c) options.autoescape (a_chain entry)
    back = record {
      kept = λ n b i e.
          let f = named_source _ n ((d_asked entry c ic n).1 (i, has_source d.templates n b id.read.each e)) in
          let one = source_read _ _ n f.0 only f.1 b
          (source_read _ _ n b id.read.each e) in
          f.1 ∙ ap (λ (x : Body). Some x) (sym one);
    }

    pub one_chain : (n : Text) → sources_of c n ≡ sources_of d n
    one_chain n = by (sources_of c n) refl (sources_of d n) refl
      where
        by : (o : Option Body) → sources_of c n ≡ o → (q : Option Body) → sources_of d n ≡ q
            → sources_of c n ≡ sources_of d n
        by (Some b) e q f =
            let g = into entry d id c.templates ic.read.each only in
            let i = asks_more g n ((d_asked entry c ic n).0 (source_named _ n b e)).0 in
            e ∙ sym (g.kept n b i e)
        by None e (Some b) f =
            let i = asks_more back n ((d_asked entry d id n).0 (source_named _ n b f)).0 in
            let no : None ≡ Some b = sym e ∙ back.kept n b i f in
            absurd (cc)
        by None e None f = e ∙ sym f

-- A template that was read in the only way has the same tree in each reading.
same_tree : {given : SourceTexts} {options : Options} {s : Sources} → IsReading given options s
    → {P : Sources → Type 0} (x : Shows given options P)
    → (n : Text) (b : Body) → sources_in x.templates n ≡ Some b → s n ≡ Some b
same_tree is x n b e =
    let other = is.each n b (source_read _ x.templates n b x.read.each e) in
    let one : other.0 ≡ b = source_read _ x.templates n b x.only e other.0 (is.read n other.0 other.1) in
    other.1 ∙ ap (λ (x : Body). Some x) one

lasting : (Breaks : Sources → Bool → Namespace → Type 0) → IsCarried Breaks Breaks → IsLasting Breaks
lasting Breaks carry given options entry s is x = carry _ _ _ _ (record { kept = λ n b i. same_tree is x n b }) x.holds

-- A name that occurs twice on the path does so when more is read.
cycle_lasts : IsLasting rules.ExtendsCycle
cycle_lasts given options entry s is x =
    let r = sources_in x.templates in
    let h = x.holds in
    let y = h.2 in
    let more = continues r s y.2 (Some y.0) (λ n a. same_tree is x n) in (
      h.0,
      reaches_more (record { kept = λ n b i. same_tree is x n b }) here h.1,
      (y.0, y.1, y.2, ap repeated more.longer ∙ repeated_front (names_up r y.2 (Some y.0)) more.more y.3),
    )

missing_lasts : (given : SourceTexts) (options : Options) (entry : Text) (s : Sources) → IsReading given options s
    → IsMissing given entry options → rules.Missing s options.autoescape (a_chain entry)
missing_lasts given options entry s is x =
    let g : Keeps (sources_in x.reached.templates) s options.autoescape (a_chain entry) =
    record { kept = λ n b i. same_tree is x.reached n b } in
    let h = x.reached.holds in
    let p = reaches_more g here h.1 in
    (h.0, p, any_at _ x.name _ (asked_more g false h.0 p x.name h.2) (unread (s x.name) refl))
  where
    unread : (o : Option Body) → s x.name ≡ o → is_none (s x.name) ≡ true
    unread None e = ap is_none e
    unread (Some b) e =
        let r = is.read x.name b e in
        let no : None ≡ Some r.source = sym x.found ∙ r.found in
        absurd (cc)

pub laws_hold : RefusalLaws
laws_hold = record {
  missing = missing_lasts;
  bad_name = lasting _ bad_name;
  extends_cycle = cycle_lasts;
  too_long = lasting _ too_long;
  double_block = lasting _ double_block;
  required_not_given = lasting _ required_not_given;
  no_super = lasting _ no_super;
  include_cycle = lasting _ include_cycle;
  macro_twice = lasting _ macro_twice;
  no_macro = lasting _ no_macro;
  not_a_library = lasting _ not_a_library;
}
