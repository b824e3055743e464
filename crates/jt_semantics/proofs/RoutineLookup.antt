-- A lookup of a key finds the routine of its chain, macro or body.
use Rattle.std.proofs.Common.{◌≡◌, ℕ, suc, ◌≤◌, Bool, true, false, if◌then◌else◌, List, [], ◌∷◌, ◌++◌, map, Option}
use Rattle.std.proofs.Common.{Some, None, refl, sym, ap, ◌∙◌, subst, arith, rules}
use Rattle.std.proofs.lemmas.List.{map-append}
use Rattle.std.specs.Prelude.{◌&&◌, ◌||◌, ◌==◌, flat_map, filter, slice_get}
use Rattle.std.specs.Str.{bytes_eq}
use Rattle.jt_ast.specs.Expressions.{Text}
use Rattle.jt_chains.specs.Chain.{Namespace, a_chain, a_library, same_namespace, listed, BlockBody, all_bodies}
use Rattle.jt_chains.specs.Chain.{MacroBody, macros, macro_of}
use Rattle.jt_rules.specs.CompileEnv.{CompileEnv}
use Rattle.jt_ir.specs.Slots.{Routine}
use Rattle.jt_semantics.specs.Layout.{Key, of_chain, of_macro, of_body, same_key, index_of, counted_from}
use Rattle.jt_semantics.specs.Layout.{numbered_bodies, numbered_of, entry_keys, chain_keys, unit}
use Rattle.jt_ir.specs.Pool.{Constant}
use Rattle.jt_semantics.specs.Resolve.{chain_routine, macro_routine, body_routine}
use Rattle.jt_semantics.specs.Programs.{body_routines, entry_routines, chain_routines, routines}
use Rattle.std.proofs.lemmas.Bool.Decides.{Decides-eqb}
use Rattle.jt_semantics.proofs.EnvLookup.{same_text, namespace_same, namespace_is, no_both, same_is}

abbrev assoc : {A : Type 0} → Key → List (Key × A) → Option A
assoc k [] = None
assoc k (p ∷ ps) = if same_key p.0 k then Some p.1 else assoc k ps

place_finds : {A : Type 0} (k : Key) (ps : List (Key × A))
    → slice_get (map (λ p. p.1) ps) (index_of k (map (λ p. p.0) ps)) ≡ assoc k ps
place_finds k [] = refl
place_finds k (p ∷ ps) = search (arith, rules, place_finds k ps)

-- Holds if a lookup of the key skips the list.
abbrev Passes : {A : Type 0} → Key → List (Key × A) → Type 0
Passes k [] = Unit {0}
Passes k (p ∷ ps) = (same_key p.0 k ≡ false) × Passes k ps

passed : {A : Type 0} (k : Key) (ps qs : List (Key × A)) → Passes k ps → assoc k (ps ++ qs) ≡ assoc k qs
passed k [] qs n = refl
passed k (p ∷ ps) qs n = ap (λ b. if b then Some p.1 else assoc k (ps ++ qs)) n.0 ∙ passed k ps qs n.1

passes_append : {A : Type 0} (k : Key) (ps qs : List (Key × A)) → Passes k ps → Passes k qs → Passes k (ps ++ qs)
passes_append k [] qs m n = n
passes_append k (p ∷ ps) qs m n = (m.0, passes_append k ps qs m.1 n)

found_front : {A : Type 0} (k : Key) (ps qs : List (Key × A)) (a : A) → assoc k ps ≡ Some a
    → assoc k (ps ++ qs) ≡ Some a
found_front k [] qs a e = search (arith, rules)
found_front k (p ∷ ps) qs a e = search (arith, rules, found_front k ps qs a)

module _ (cenv : CompileEnv) (order : List Namespace) where
  abbrev bodies_keyed : Namespace → List (ℕ × BlockBody) → List (Key × Routine Constant)
  bodies_keyed h [] = []
  bodies_keyed h (b ∷ bs) =
      (of_body h b.0, body_routine cenv order h b.1 (filter (λ c. bytes_eq c.1.name b.1.name) bs)) ∷ bodies_keyed h bs

  abbrev macros_keyed : Namespace → List MacroBody → List (Key × Routine Constant)
  macros_keyed h ms = map (λ m. (of_macro h m.name, macro_routine cenv order h m)) ms

  abbrev entry_keyed : Namespace → List (Key × Routine Constant)
  entry_keyed (a_chain n) = (of_chain n, chain_routine cenv order n) ∷ []
  entry_keyed (a_library n) = []

  abbrev keyed : Namespace → List (Key × Routine Constant)
  keyed h = entry_keyed h ++ (macros_keyed h (macros cenv.sources h) ++ bodies_keyed h (numbered_bodies cenv h))

  body_keys : (h : Namespace) (bs : List (ℕ × BlockBody))
      → map (λ p. p.0) (bodies_keyed h bs) ≡ map (λ b. of_body h b.0) bs
  body_keys h [] = refl
  body_keys h (b ∷ bs) = ap (λ ks. of_body h b.0 ∷ ks) (body_keys h bs)

  body_routines_are : (h : Namespace) (bs : List (ℕ × BlockBody))
      → map (λ p. p.1) (bodies_keyed h bs) ≡ body_routines cenv order h bs
  body_routines_are h [] = refl
  body_routines_are h (b ∷ bs) = search (arith, rules, body_routines_are h bs)

  macro_keys : (h : Namespace) (ms : List MacroBody)
      → map (λ p. p.0) (macros_keyed h ms) ≡ map (λ m. of_macro h m.name) ms
  macro_keys h [] = refl
  macro_keys h (m ∷ ms) = ap (λ ks. of_macro h m.name ∷ ks) (macro_keys h ms)

  macro_routines_are : (h : Namespace) (ms : List MacroBody)
      → map (λ p. p.1) (macros_keyed h ms) ≡ map (macro_routine cenv order h) ms
  macro_routines_are h [] = refl
  macro_routines_are h (m ∷ ms) = ap (λ rs. macro_routine cenv order h m ∷ rs) (macro_routines_are h ms)

  entry_keys_are : (h : Namespace) → map (λ p. p.0) (entry_keyed h) ≡ entry_keys cenv h
  entry_keys_are h = search (arith, rules)

  entry_routines_are : (h : Namespace) → map (λ p. p.1) (entry_keyed h) ≡ entry_routines cenv order h
  entry_routines_are h = search (arith, rules)

  chain_keys_are : (h : Namespace) → map (λ p. p.0) (keyed h) ≡ chain_keys cenv h
  chain_keys_are h = search (arith, rules, map-append, entry_keys_are, macro_keys, body_keys)

  chain_routines_are : (h : Namespace) → map (λ p. p.1) (keyed h) ≡ chain_routines cenv order h
  chain_routines_are h = search (arith, rules, map-append, entry_routines_are, macro_routines_are, body_routines_are)

  all_keys_are : (hs : List Namespace) → map (λ p. p.0) (flat_map keyed hs) ≡ flat_map (chain_keys cenv) hs
  all_keys_are [] = refl
  all_keys_are (h ∷ hs) = search (arith, rules, map-append, chain_keys_are, all_keys_are hs)

  all_routines_are : (hs : List Namespace)
      → map (λ p. p.1) (flat_map keyed hs) ≡ flat_map (chain_routines cenv order) hs
  all_routines_are [] = refl
  all_routines_are (h ∷ hs) = search (arith, rules, map-append, chain_routines_are, all_routines_are hs)

  unit_finds : (k : Key) (r : Routine Constant) → assoc k (flat_map keyed order) ≡ Some r
      → slice_get (routines cenv order) (unit cenv order k) ≡ Some r
  unit_finds k r e = search (arith, rules, all_routines_are, all_keys_are, place_finds)

  -- A lookup skips the keys of other chains.
  macros_pass : (h g : Namespace) (x : Text) (ms : List MacroBody) → same_namespace h g ≡ false
      → Passes (of_macro g x) (macros_keyed h ms)
  macros_pass h g x [] e = tt
  macros_pass h g x (m ∷ ms) e = (ap (λ b. b && bytes_eq m.name x) e, macros_pass h g x ms e)

  bodies_pass : (h g : Namespace) (i : ℕ) (bs : List (ℕ × BlockBody)) → same_namespace h g ≡ false
      → Passes (of_body g i) (bodies_keyed h bs)
  bodies_pass h g i [] e = tt
  bodies_pass h g i (b ∷ bs) e = (ap (λ c. c && (b.0 == i)) e, bodies_pass h g i bs e)

  macros_no_chain : (h : Namespace) (g : Text) (ms : List MacroBody) → Passes (of_chain g) (macros_keyed h ms)
  macros_no_chain h g [] = tt
  macros_no_chain h g (m ∷ ms) = (refl, macros_no_chain h g ms)

  bodies_no_chain : (h : Namespace) (g : Text) (bs : List (ℕ × BlockBody)) → Passes (of_chain g) (bodies_keyed h bs)
  bodies_no_chain h g [] = tt
  bodies_no_chain h g (b ∷ bs) = (refl, bodies_no_chain h g bs)

  macros_no_body : (h g : Namespace) (i : ℕ) (ms : List MacroBody) → Passes (of_body g i) (macros_keyed h ms)
  macros_no_body h g i [] = tt
  macros_no_body h g i (m ∷ ms) = (refl, macros_no_body h g i ms)

  bodies_no_macro : (h g : Namespace) (x : Text) (bs : List (ℕ × BlockBody)) → Passes (of_macro g x) (bodies_keyed h bs)
  bodies_no_macro h g x [] = tt
  bodies_no_macro h g x (b ∷ bs) = (refl, bodies_no_macro h g x bs)

  entry_no_macro : (h g : Namespace) (x : Text) → Passes (of_macro g x) (entry_keyed h)
  entry_no_macro h g x = search (arith, rules)

  entry_no_body : (h g : Namespace) (i : ℕ) → Passes (of_body g i) (entry_keyed h)
  entry_no_body h g i = search (arith, rules)

  -- The routine of a namespace is found in every list of namespaces that has it.
  keyed_found : (k : Key) (h : Namespace) (r : Routine Constant)
      → ((g : Namespace) → same_namespace g h ≡ false → Passes k (keyed g)) → assoc k (keyed h) ≡ Some r
      → (hs : List Namespace) → listed h hs ≡ true → assoc k (flat_map keyed hs) ≡ Some r
  keyed_found k h r others here [] e = absurd (no_both e refl)
  keyed_found k h r others here (g ∷ gs) e = through (same_namespace g h) refl e (keyed_found k h r others here gs)
    where
      through : (b : Bool) → same_namespace g h ≡ b → (b || listed h gs) ≡ true
          → (listed h gs ≡ true → assoc k (flat_map keyed gs) ≡ Some r)
          → assoc k (keyed g ++ flat_map keyed gs) ≡ Some r
      through true p f later =
          subst (λ z. assoc k (keyed z ++ flat_map keyed gs) ≡ Some r) (sym (namespace_same g h p))
          (found_front k (keyed h) (flat_map keyed gs) r here)
      through false p f later = passed k (keyed g) (flat_map keyed gs) (others g p) ∙ later f

  entry_no_chain : (n : Text) (g : Namespace) → same_namespace g (a_chain n) ≡ false
      → Passes (of_chain n) (entry_keyed g)
  entry_no_chain n g p = search (arith, rules)

  chain_found : (n : Text) (hs : List Namespace) → listed (a_chain n) hs ≡ true
      → assoc (of_chain n) (flat_map keyed hs) ≡ Some (chain_routine cenv order n)
  chain_found n =
      let own = macros_keyed (a_chain n) (macros cenv.sources (a_chain n))
      ++ bodies_keyed (a_chain n) (numbered_bodies cenv (a_chain n)) in
      keyed_found (of_chain n) (a_chain n) (chain_routine cenv order n)
      (λ g p. search (arith, rules, passes_append, entry_no_chain, macros_no_chain, bodies_no_chain))
      (ap (λ b. if b then Some (chain_routine cenv order n) else assoc (of_chain n) own) (same_is n))

  macro_found_in : (h : Namespace) (x : Text) (b : MacroBody) (ms : List MacroBody) → macro_of x ms ≡ Some b
      → assoc (of_macro h x) (macros_keyed h ms) ≡ Some (macro_routine cenv order h b)
  macro_found_in h x b [] e = search (arith, rules)
  macro_found_in h x b (m ∷ ms) e =
      ap (λ c.
      if c && bytes_eq m.name x then Some (macro_routine cenv order h m) else assoc (of_macro h x) (macros_keyed h ms))
      (namespace_is h)
      ∙ through (bytes_eq m.name x) e (λ f. macro_found_in h x b ms f)
    where
      is_it : Some m ≡ Some b → m ≡ b
      is_it q = cc

      through : (c : Bool) → (if c then Some m else macro_of x ms) ≡ Some b
          → (macro_of x ms ≡ Some b → assoc (of_macro h x) (macros_keyed h ms) ≡ Some (macro_routine cenv order h b))
          → (if c then Some (macro_routine cenv order h m) else assoc (of_macro h x) (macros_keyed h ms))
          ≡ Some (macro_routine cenv order h b)
      through true e f = ap (λ z. Some (macro_routine cenv order h z)) (is_it e)
      through false e f = f e

  macro_found : (h : Namespace) (x : Text) (b : MacroBody) (hs : List Namespace) → listed h hs ≡ true
      → macro_of x (macros cenv.sources h) ≡ Some b
      → assoc (of_macro h x) (flat_map keyed hs) ≡ Some (macro_routine cenv order h b)
  macro_found h x b hs e m =
      let ms = macros_keyed h (macros cenv.sources h) in
      let bs = bodies_keyed h (numbered_bodies cenv h) in
      keyed_found (of_macro h x) h (macro_routine cenv order h b)
      (λ g p. search (arith, rules, passes_append, entry_no_macro, macros_pass, bodies_no_macro))
      (passed (of_macro h x) (entry_keyed h) (ms ++ bs) (entry_no_macro h h x)
      ∙ found_front (of_macro h x) ms bs (macro_routine cenv order h b)
      (macro_found_in h x b (macros cenv.sources h) m)) hs e

  tail_of : {A : Type 0} {x y : A} {xs ys : List A} → x ∷ xs ≡ y ∷ ys → xs ≡ ys
  tail_of q = cc

  head_of : {A : Type 0} {x y : A} {xs ys : List A} → x ∷ xs ≡ y ∷ ys → x ≡ y
  head_of q = cc

  -- Each index of a block's body is at least the first index.
  place_reached : (n : ℕ) (xs : List BlockBody) (pre post : List (ℕ × BlockBody)) (i : ℕ) (c : BlockBody)
      → counted_from n xs ≡ pre ++ ((i, c) ∷ post) → n ≤ i
  place_reached n [] [] post i c e = search (arith, rules)
  place_reached n [] (p ∷ pre) post i c e = search (arith, rules)
  place_reached n (x ∷ xs) [] post i c e = let f : n ≡ i = ap (λ p. p.0) (head_of e) in omega (arith, f)
  place_reached n (x ∷ xs) (p ∷ pre) post i c e =
      let f = place_reached (suc n) xs pre post i c (tail_of e) in omega (arith, f)

  same_number : (n : ℕ) → (n == n) ≡ true
  same_number n = (Decides-eqb n n).1 refl

  differ : (n i : ℕ) → suc n ≤ i → (n == i) ≡ false
  differ n i l = search (arith, rules)

  body_found_in : (h : Namespace) (n : ℕ) (xs : List BlockBody) (pre post : List (ℕ × BlockBody)) (i : ℕ)
      (c : BlockBody)
      → counted_from n xs ≡ pre ++ ((i, c) ∷ post)
      → assoc (of_body h i) (bodies_keyed h (counted_from n xs))
      ≡ Some (body_routine cenv order h c (filter (λ d. bytes_eq d.1.name c.name) post))
  body_found_in h n [] [] post i c e = search (arith, rules)
  body_found_in h n [] (p ∷ pre) post i c e = search (arith, rules)
  body_found_in h n (x ∷ xs) [] post i c e = search (arith, rules, head_of, namespace_is, same_number, tail_of)
  body_found_in h n (x ∷ xs) (p ∷ pre) post i c e =
      search
      (arith, rules, namespace_is, differ, place_reached, tail_of, body_found_in h (suc n) xs pre post i c (tail_of e))

  body_found : (h : Namespace) (pre post : List (ℕ × BlockBody)) (i : ℕ) (c : BlockBody) (hs : List Namespace)
      → listed h hs ≡ true → numbered_bodies cenv h ≡ pre ++ ((i, c) ∷ post)
      → assoc (of_body h i) (flat_map keyed hs)
      ≡ Some (body_routine cenv order h c (filter (λ d. bytes_eq d.1.name c.name) post))
  body_found h pre post i c hs e m =
      let ms = macros_keyed h (macros cenv.sources h) in
      let bs = bodies_keyed h (numbered_bodies cenv h) in
      keyed_found (of_body h i) h (body_routine cenv order h c (filter (λ d. bytes_eq d.1.name c.name) post))
      (λ g p. search (arith, rules, passes_append, entry_no_body, macros_no_body, bodies_pass))
      (passed (of_body h i) (entry_keyed h) (ms ++ bs) (entry_no_body h h i)
      ∙ passed (of_body h i) ms bs (macros_no_body h h i (macros cenv.sources h))
      ∙ body_found_in h 0 (all_bodies cenv.sources cenv.escaping h) pre post i c m) hs e

  -- If a body of a block is found, it splits the bodies into earlier ones and later ones.
  split_by : (p : (ℕ × BlockBody) → Bool) (bs before behind : List (ℕ × BlockBody)) (c : ℕ × BlockBody)
      → filter p bs ≡ before ++ (c ∷ behind)
      → (pre post : List (ℕ × BlockBody)) × (bs ≡ pre ++ (c ∷ post)) × (filter p post ≡ behind) × (p c ≡ true)
  split_by p [] [] behind c e = search (arith, rules)
  split_by p [] (b ∷ before) behind c e = search (arith, rules)
  split_by p (x ∷ xs) before behind c e = through (p x) refl e (λ before' f. split_by p xs before' behind c f)
    where
      more : (pre post : List (ℕ × BlockBody)) × (xs ≡ pre ++ (c ∷ post)) × (filter p post ≡ behind) × (p c ≡ true)
          → (pre post : List (ℕ × BlockBody)) × (x ∷ xs ≡ pre ++ (c ∷ post)) × (filter p post ≡ behind) × (p c ≡ true)
      more r = (x ∷ r.0, r.1, ap (λ ys. x ∷ ys) r.2, r.3, r.4)

      first : (before' : List (ℕ × BlockBody)) → p x ≡ true → x ∷ filter p xs ≡ before' ++ (c ∷ behind)
          → ((before'' : List (ℕ × BlockBody)) → filter p xs ≡ before'' ++ (c ∷ behind)
          → (pre post : List (ℕ × BlockBody)) × (xs ≡ pre ++ (c ∷ post)) × (filter p post ≡ behind) × (p c ≡ true))
          → (pre post : List (ℕ × BlockBody)) × (x ∷ xs ≡ pre ++ (c ∷ post)) × (filter p post ≡ behind) × (p c ≡ true)
      first [] t f r = ([], xs, ap (λ y. y ∷ xs) (head_of f), tail_of f, ap p (sym (head_of f)) ∙ t)
      first (b ∷ before'') t f r = more (r before'' (tail_of f))

      through : (b : Bool) → p x ≡ b → (if b then x ∷ filter p xs else filter p xs) ≡ before ++ (c ∷ behind)
          → ((before' : List (ℕ × BlockBody)) → filter p xs ≡ before' ++ (c ∷ behind)
          → (pre post : List (ℕ × BlockBody)) × (xs ≡ pre ++ (c ∷ post)) × (filter p post ≡ behind) × (p c ≡ true))
          → (pre post : List (ℕ × BlockBody)) × (x ∷ xs ≡ pre ++ (c ∷ post)) × (filter p post ≡ behind) × (p c ≡ true)
      through true t f r = first before t f r
      through false t f r = more (r before f)

  -- ---- The routines of a chain, of its macros and of its blocks' bodies

  pub chain_is : (n : Text) → listed (a_chain n) order ≡ true
      → slice_get (routines cenv order) (unit cenv order (of_chain n)) ≡ Some (chain_routine cenv order n)
  chain_is n e = unit_finds (of_chain n) (chain_routine cenv order n) (chain_found n order e)

  pub macro_named : (x : Text) (b : MacroBody) (ms : List MacroBody) → macro_of x ms ≡ Some b → b.name ≡ x
  macro_named x b [] e = search (arith, rules)
  macro_named x b (m ∷ ms) e = search (arith, rules, macro_named x b ms, same_text)

  pub macro_is : (h : Namespace) (x : Text) (b : MacroBody) → listed h order ≡ true
      → macro_of x (macros cenv.sources h) ≡ Some b
      → slice_get (routines cenv order) (unit cenv order (of_macro h b.name)) ≡ Some (macro_routine cenv order h b)
  macro_is h x b e m = search (arith, rules, macro_named x b, unit_finds (of_macro h b.name), macro_found h b.name b)

  pub body_is : (h : Namespace) (x : Text) (i : ℕ) (c : BlockBody) (before behind : List (ℕ × BlockBody))
      → listed h order ≡ true → numbered_of cenv h x ≡ before ++ ((i, c) ∷ behind)
      → (slice_get (routines cenv order) (unit cenv order (of_body h i)) ≡ Some (body_routine cenv order h c behind))
      × (c.name ≡ x)
      × ((pre post : List (ℕ × BlockBody)) × (numbered_bodies cenv h ≡ pre ++ ((i, c) ∷ post)))
  body_is h x i c before behind e t =
      let s = split_by (λ b. bytes_eq b.1.name x) (numbered_bodies cenv h) before behind (i, c) t in
      let named : c.name ≡ x = same_text c.name x s.4 in
      let same : filter (λ d. bytes_eq d.1.name c.name) s.1 ≡ behind =
      ap (λ z. filter (λ d. bytes_eq d.1.name z) s.1) named ∙ s.3 in (
        unit_finds (of_body h i) (body_routine cenv order h c behind)
            (body_found h s.0 s.1 i c order e s.2 ∙ ap (λ z. Some (body_routine cenv order h c z)) same),
        named,
        (s.0, s.1, s.2),
      )
