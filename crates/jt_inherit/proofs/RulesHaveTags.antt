-- A broken rule has its tags: a name that is given twice has two tags that define it, and an imported macro has a tag.
use Rattle.jt_inherit.proofs.Vocabulary as words
use words.{◌≡◌, ℕ, zero, suc, ◌+◌, ◌≤◌, ◌<◌, Bool, true, false, List, [], ◌∷◌, ◌++◌, length, map, filter, refl, ap}
use words.{◌∙◌, arith, Option, Some, None, cond, bytes_eq, map-append, filter-append, length-append, Text, Use}
use words.{Site}
use words.{Body, body_uses, outside, uses_in, all_uses, Template, templates, flat_map, among, macros_in}
use words.{imports_in, all_given_from, own, macros, imports, given, MacroBody, Namespace, a_chain, a_library, Sources}
use words.{tags, binds_macro, defines, times, tag_count, public_macro, ⊎_elim, reflexive, ForSome, inl, inr, and_from}
use words.{slice_get, subst}
use Rattle.jt_chains.specs.Chain.{Definition, given_from}
use Rattle.jt_uses.specs.Uses as uses
use uses.{stmt_uses, macros_bound, parameters_bound}
use Rattle.jt_uses.specs.declared.site.Enclosing.{Enclosing}
use Rattle.jt_uses.specs.declared.site.Place.{Place}
use words.trees

-- ---- how often a name is in a list

pub times-append : (x : Text) (xs ys : List Text) → times x (xs ++ ys) ≡ times x xs + times x ys
times-append x xs ys =
    ap length (filter-append (λ y. bytes_eq y x) xs ys)
    ∙ length-append (filter (λ y. bytes_eq y x) xs) (filter (λ y. bytes_eq y x) ys)

times-cons : (x y : Text) (ys : List Text) → times x (y ∷ ys) ≡ cond (bytes_eq y x) 1 0 + times x ys
times-cons x y ys = by (bytes_eq y x)
  where
    by : (b : Bool) → length (cond b (y ∷ filter (λ z. bytes_eq z x) ys) (filter (λ z. bytes_eq z x) ys))
        ≡ cond b 1 0 + times x ys
    by true = omega arith
    by false = omega arith

once_among : (x : Text) (xs : List Text) → among x xs ≡ true → 1 ≤ times x xs
once_among x [] a = absurd (cc)
once_among x (y ∷ ys) a = by (bytes_eq y x) refl (once_among x ys)
  where
    by : (b : Bool) → bytes_eq y x ≡ b → (among x ys ≡ true → 1 ≤ times x ys) → 1 ≤ times x (y ∷ ys)
    by true e go =
        let one : times x (y ∷ ys) ≡ 1 + times x ys = times-cons x y ys ∙ ap (λ b. cond b 1 0 + times x ys) e in
        omega arith
    by false e go =
        let one : times x (y ∷ ys) ≡ 0 + times x ys = times-cons x y ys ∙ ap (λ b. cond b 1 0 + times x ys) e in
        let rest = go (rw e at a) in
        omega arith

-- A name that comes again is there twice.
pub twice_there : (x : Text) (xs ys : List Text) → among x xs ≡ true → 2 ≤ times x (xs ++ x ∷ ys)
twice_there x xs ys a =
    let one : times x (x ∷ ys) ≡ 1 + times x ys =
    times-cons x x ys ∙ ap (λ b. cond b 1 0 + times x ys) (reflexive x) in
    omega (arith, times-append x xs (x ∷ ys), once_among x xs a)

-- ---- names that statements define

abbrev defining : Text → List Site → ℕ
defining x ss = length (filter (λ s. defines x s.made) ss)

defining-append : (x : Text) (ss us : List Site) → defining x (ss ++ us) ≡ defining x ss + defining x us
defining-append x ss us =
    ap length (filter-append (λ s. defines x s.made) ss us)
    ∙ length-append (filter (λ s. defines x s.made) ss) (filter (λ s. defines x s.made) us)

defining-cons : (x : Text) (s : Site) (ss : List Site)
    → defining x (s ∷ ss) ≡ cond (defines x s.made) 1 0 + defining x ss
defining-cons x s ss = by (defines x s.made)
  where
    by : (b : Bool) → length (cond b (s ∷ filter (λ z. defines x z.made) ss) (filter (λ z. defines x z.made) ss))
        ≡ cond b 1 0 + defining x ss
    by true = omega arith
    by false = omega arith

module _ (s : Sources) (x : Text) where
  from_defined : (m : Text) (ys : List (Text × Text)) (p : Place)
      → times x (map (λ g. g.0) (all_given_from s m ys)) ≤ defining x (macros_bound m ys p)
  from_defined m [] p = omega arith
  from_defined m (y ∷ ys) p =
      by (public_macro y.0 (macros s (a_library m))) (from_defined m ys p)
      (defining-cons x (record { place = p; made = uses.binds_macro m y.0 y.1 }) (macros_bound m ys p))
    where
      by : (o : Option MacroBody)
          → times x (map (λ g. g.0) (all_given_from s m ys)) ≤ defining x (macros_bound m ys p)
          → defining x (macros_bound m (y ∷ ys) p)
          ≡ cond (bytes_eq y.1 x) 1 0 + defining x (macros_bound m ys p)
          → times x (map (λ g. g.0) (given_from m y.1 o ++ all_given_from s m ys))
          ≤ defining x (macros_bound m (y ∷ ys) p)
      by None rest all = omega arith
      by (Some found) rest all =
          let one = times-cons x y.1 (map (λ g. g.0) (all_given_from s m ys)) in
          omega arith

  -- The macros and the imports of a body are its uses that define names.
  body_defined : (n : Text) (b : Body) (w : Enclosing)
      → times x (map (λ m. m.name) (macros_in n b)) + times x (map (λ g. g.0) (imports_in s b))
      ≤ defining x (body_uses b w)
  body_defined n trees.end w = omega arith
  body_defined n (trees.stmt (trees.macro line y ps body) rest) w =
      let here = times-cons x y (map (λ m. m.name) (macros_in n rest)) in
      let uses_here =
      defining-cons x (record { place = uses.place_at line w; made = uses.declares_macro y ps body })
      (parameters_bound ps (uses.place_at line (uses.inside_scope w)) ++ body_uses body (uses.inside_macro w)) in
      let all = defining-append x (stmt_uses (trees.macro line y ps body) w) (body_uses rest w) in
      let behind = body_defined n rest w in
      omega arith
  body_defined n (trees.stmt (trees.import_as line m y) rest) w =
      let here = times-cons x y (map (λ g. g.0) (imports_in s rest)) in
      let uses_here =
      defining-cons x (record { place = uses.place_at line w; made = uses.binds_library m y }) (body_uses rest w) in
      let behind = body_defined n rest w in
      omega arith
  body_defined n (trees.stmt (trees.import_from line m ys) rest) w =
      let here =
      ap (times x) (map-append (λ (g : Text × Definition). g.0) (all_given_from s m ys) (imports_in s rest))
      ∙ times-append x (map (λ g. g.0) (all_given_from s m ys)) (map (λ g. g.0) (imports_in s rest)) in
      let uses_here = defining-append x (macros_bound m ys (uses.place_at line w)) (body_uses rest w) in
      let behind = body_defined n rest w in
      let before = from_defined m ys (uses.place_at line w) in
      omega arith
  body_defined n (trees.stmt st rest) w =
      let all = defining-append x (stmt_uses st w) (body_uses rest w) in
      let behind = body_defined n rest w in
      omega arith

  -- ---- names that templates define

  tags_defining : (n : Text) (ss : List Site) → length (tags (defines x) (map (λ t. (n, t)) ss)) ≡ defining x ss
  tags_defining n [] = refl
  tags_defining n (t ∷ ss) = by (defines x t.made) (tags_defining n ss)
    where
      by : (b : Bool) → length (tags (defines x) (map (λ u. (n, u)) ss)) ≡ defining x ss
          → length (cond b ((n, t) ∷ tags (defines x) (map (λ u. (n, u)) ss))
          (tags (defines x) (map (λ u. (n, u)) ss)))
          ≡ length (cond b (t ∷ filter (λ u. defines x u.made) ss) (filter (λ u. defines x u.made) ss))
      by true e = ap suc e
      by false e = e

  templates_defined : (ts : List Template)
      → times x (map (λ m. m.name) (flat_map (λ t. macros_in t.name t.body) ts))
      + times x (map (λ g. g.0) (flat_map (λ t. imports_in s t.body) ts))
      ≤ tag_count (defines x) ts
  templates_defined [] = omega arith
  templates_defined (t ∷ ts) =
      let all_macros =
      ap (times x) (map-append (λ (m : MacroBody). m.name) (macros_in t.name t.body)
      (flat_map (λ u. macros_in u.name u.body) ts))
      ∙ times-append x (map (λ m. m.name) (macros_in t.name t.body))
      (map (λ m. m.name) (flat_map (λ u. macros_in u.name u.body) ts)) in
      let all_imports =
      ap (times x) (map-append (λ (g : Text × Definition). g.0) (imports_in s t.body)
      (flat_map (λ u. imports_in s u.body) ts))
      ∙ times-append x (map (λ g. g.0) (imports_in s t.body))
      (map (λ g. g.0) (flat_map (λ u. imports_in s u.body) ts)) in
      let all_tags =
      ap length (filter-append (λ (y : Text × Site). defines x y.1.made) (uses_in t) (all_uses ts))
      ∙ length-append (tags (defines x) (uses_in t)) (tags (defines x) (all_uses ts)) in
      let here = body_defined t.name t.body outside in
      let in_tags = tags_defining t.name (body_uses t.body outside) in
      let behind = templates_defined ts in
      omega arith

own_names : (h : Namespace) (ms : List MacroBody) → map (λ g. g.0) (own h ms) ≡ map (λ m. m.name) ms
own_names h [] = refl
own_names h (m ∷ ms) = ap (λ l. m.name ∷ l) (own_names h ms)

-- Each name that a chain or library gives has a tag that defines it.
pub given_tags : (s : Sources) (h : Namespace) (x : Text)
    → times x (map (λ g. g.0) (given s h)) ≤ tag_count (defines x) (templates s h)
given_tags s h x = by h
  where
    both : (k : Namespace) → times x (map (λ g. g.0) (given s k))
        ≡ times x (map (λ m. m.name) (macros s k)) + times x (map (λ g. g.0) (imports s k))
    both k =
        ap (times x) (map-append (λ (g : Text × Definition). g.0) (own k (macros s k)) (imports s k)
        ∙ ap (λ l. l ++ map (λ g. g.0) (imports s k)) (own_names k (macros s k)))
        ∙ times-append x (map (λ m. m.name) (macros s k)) (map (λ g. g.0) (imports s k))

    by : (k : Namespace) → times x (map (λ g. g.0) (given s k)) ≤ tag_count (defines x) (templates s k)
    by (a_chain n) =
        let all = both (a_chain n) in
        let told = templates_defined s x (templates s (a_chain n)) in
        omega arith
    by (a_library n) =
        let all = both (a_library n) in
        let told = templates_defined s x (templates s (a_library n)) in
        omega arith

-- ---- imported macros

-- The macro at a number of a `from` tag has a use.
pub bound_at : (n : Text) (xs : List (Text × Text)) (k : ℕ) (x : Text × Text) (p : Place) → slice_get xs k ≡ Some x
    → ForSome (λ s. binds_macro n x.0 s.made ≡ true) (macros_bound n xs p)
bound_at n [] k x p e = absurd (cc)
bound_at n (y ∷ ys) zero x p e =
    let is : y ≡ x = cc in
    inl (and_from _ _ (reflexive n) (subst (λ (z : Text × Text). bytes_eq y.0 z.0 ≡ true) is (reflexive y.0)))
bound_at n (y ∷ ys) (suc k) x p e = inr (bound_at n ys k x p e)

some_tag : (test : Use → Bool) (n : Text) (ss : List Site) → ForSome (λ s. test s.made ≡ true) ss
    → 0 < length (tags test (map (λ s. (n, s)) ss))
some_tag test n [] h = absurd h
some_tag test n (s ∷ ss) h =
    ⊎_elim (λ (e : test s.made ≡ true). rw e (omega arith)) (λ q. more (test s.made) (some_tag test n ss q)) h
  where
    more : (b : Bool) → 0 < length (tags test (map (λ u. (n, u)) ss))
        → 0 < length (cond b ((n, s) ∷ tags test (map (λ u. (n, u)) ss)) (tags test (map (λ u. (n, u)) ss)))
    more true lt = omega arith
    more false lt = lt

-- A template with such a use has a tag.
pub some_tags : (test : Use → Bool) (ts : List Template)
    → ForSome (λ t. ForSome (λ s. test s.made ≡ true) (body_uses t.body outside)) ts → 0 < tag_count test ts
some_tags test [] h = absurd h
some_tags test (t ∷ ts) h =
    let all =
    ap length (filter-append (λ (y : Text × Site). test y.1.made) (uses_in t) (all_uses ts))
    ∙ length-append (tags test (uses_in t)) (tags test (all_uses ts)) in
    ⊎_elim
    (λ q. let here = some_tag test t.name (body_uses t.body outside) q in omega arith)
    (λ q. let behind = some_tags test ts q in omega arith) h
