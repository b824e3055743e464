-- The consequences of the order of chains: for names, for slots, and for the bodies of a chain.
use Rattle.std.proofs.Common.{◌≡◌, ℕ, ◌+◌, ◌≤◌, Bool, true, false, if◌then◌else◌, List, [], ◌∷◌, ◌++◌, length, map}
use Rattle.std.proofs.Common.{Option, Some, refl, sym, ap, ◌∙◌, subst, arith, inl, inr, rules}
use Rattle.std.specs.Prelude.{not, ◌&&◌, ◌||◌, flat_map}
use Rattle.std.specs.Option.{is_some, is_none}
use Rattle.std.specs.List.{list_any}
use Rattle.std.specs.Str.{bytes_eq}
use Rattle.std.specs.List.{AllByRecursion as Each}
use Rattle.jt_ast.specs.Texts.{ascending}
use Rattle.jt_ast.specs.Expressions.{Text}
use Rattle.jt_ast.specs.Statements.{Stmt, choose, for_each, set_block, with_values, filter_block, autoescape, macro}
use Rattle.jt_ast.specs.Statements.{block, Body, end, stmt, Branches, no_branches, branch}
use Rattle.jt_chains.specs.Chain.{Namespace, a_chain, a_library, same_namespace, listed, Template, templates, BlockBody}
use Rattle.jt_chains.specs.Chain.{blocks_of, blocks_in, blocks_under, all_bodies, MacroBody, macros_in, macros}
use Rattle.jt_chains.specs.Chain.{macro_of, libraries}
use Rattle.jt_rules.specs.CompileEnv.{CompileEnv}
use Rattle.jt_chains.specs.Uses.{stmt_names, body_names, branch_names}
use Rattle.jt_chains.specs.Uses.{own_names, set_in, scope_names}
use Rattle.jt_chains.specs.Includes.{needs_by, needs_in, needs_under, with_source, included, AllIn, InOrder}
use Rattle.jt_semantics.specs.Layout.{in_globals, names_in, names, first_in, first_slot, numbered_bodies}
use Rattle.jt_semantics.specs.Layout.{scopes}
use Rattle.jt_semantics.proofs.EnvLookup.{same_is, namespace_same, namespace_is, no_both}
use Rattle.jt_semantics.proofs.ExpressionCorrect.{counted_are}
use Rattle.jt_semantics.proofs.EnvMemoryAgreement.{limit, read_names}
use Rattle.jt_semantics.proofs.CallInvariant.{Known, Behind, Hands, Included}
use Rattle.jt_semantics.proofs.DefinedNames.{source_there, macro_all}
use Rattle.jt_semantics.proofs.Scopes.{names_of, scopes_bound, templates_bind, ascending_among}
use Rattle.jt_semantics.proofs.StatementCorrect.{Scoping, a_tag, a_name, named, scoped_by}
use Rattle.jt_semantics.proofs.StatementCorrect.{scoped_in, scoped_under, Proper, names_proper, behind_proper}
use Rattle.jt_semantics.proofs.Among.{Among, AllAmong, all_ascending, among_front, among_back, each_among, among_left}
use Rattle.jt_semantics.proofs.Among.{among_right}
use Rattle.jt_semantics.proofs.EachElement.{each_front, each_back, each_append, each_map}
use Rattle.std.proofs.lemmas.Bool.{or_right}

listed_append : (h : Namespace) (ks hs : List Namespace) → listed h hs ≡ true → listed h (ks ++ hs) ≡ true
listed_append h [] hs e = e
listed_append h (k ∷ ks) hs e = or_right (same_namespace k h) _ (listed_append h ks hs e)

-- ---- The first index of a namespace in the order

abbrev NotIn : Namespace → List Namespace → Type 0
NotIn h [] = Unit {0}
NotIn h (k ∷ ks) = (same_namespace k h ≡ false) × NotIn h ks

first_at : (h : Namespace) (hs : List Namespace) → listed h hs ≡ true
    → (pre ks : List Namespace) × (hs ≡ pre ++ (h ∷ ks)) × NotIn h pre
first_at h [] e = absurd (no_both e refl)
first_at h (k ∷ ks) e = through (same_namespace k h) refl e (λ f. first_at h ks f)
  where
    through : (b : Bool) → same_namespace k h ≡ b → (b || listed h ks) ≡ true
        → (listed h ks ≡ true → (pre qs : List Namespace) × (ks ≡ pre ++ (h ∷ qs)) × NotIn h pre)
        → (pre qs : List Namespace) × (k ∷ ks ≡ pre ++ (h ∷ qs)) × NotIn h pre
    through true p e f = ([], ks, ap (λ z. z ∷ ks) (namespace_same k h p), tt)
    through false p e f = let r = f e in (k ∷ r.0, r.1, ap (λ zs. k ∷ zs) r.2, (p, r.3))

one_mapped : (f : Text → Namespace) (x : Text) (xs : List Text) → Among x xs → Among (f x) (map f xs)
one_mapped f x [] i = absurd i
one_mapped f x (y ∷ ys) (inl e) = inl (ap f e)
one_mapped f x (y ∷ ys) (inr i) = inr (one_mapped f x ys i)

not_true : (b : Bool) → not b ≡ true → b ≡ true → ⊥
not_true b e f = search (arith, rules, no_both)

-- ---- The blocks whose tags have `scoped` are blocks of the template

abbrev Says : List BlockBody → Text → Type 0
Says bs x = list_any (λ b. b.scoped && bytes_eq b.name x) bs ≡ true

says_left : (bs cs : List BlockBody) (x : Text) → Says bs x → Says (bs ++ cs) x
says_left [] cs x e = absurd (no_both e refl)
says_left (b ∷ bs) cs x e = search (arith, rules, says_left bs cs x)

says_right : (bs cs : List BlockBody) (x : Text) → Says cs x → Says (bs ++ cs) x
says_right [] cs x e = e
says_right (b ∷ bs) cs x e = or_right (b.scoped && bytes_eq b.name x) _ (says_right bs cs x e)

-- Holds if `Says` holds of a tag; it holds of every name.
abbrev Saying : List BlockBody → Scoping → Type 0
Saying bs (a_tag x) = Says bs x
Saying bs (a_name x) = Unit {0}

saying_left : (bs cs : List BlockBody) (s : Scoping) → Saying bs s → Saying (bs ++ cs) s
saying_left bs cs s e = search (arith, rules, says_left)

saying_right : (bs cs : List BlockBody) (s : Scoping) → Saying cs s → Saying (bs ++ cs) s
saying_right bs cs s e = search (arith, rules, says_right)

names_said : (bs : List BlockBody) (xs : List Text) (ss : List Scoping) → Each (Saying bs) ss
    → Each (Saying bs) (named xs ++ ss)
names_said bs [] ss e = e
names_said bs (x ∷ xs) ss e = (tt, names_said bs xs ss e)

both_said : (bs cs : List BlockBody) (xs ys : List Scoping) → Each (Saying bs) xs → Each (Saying cs) ys
    → Each (Saying (bs ++ cs)) (xs ++ ys)
both_said bs cs xs ys a b = search (arith, rules, each_append, each_map, saying_left, saying_right)

module _ (t : Text) where
  mutual
    scoped_stmt : (s : Stmt) (on : Bool) → Each (Saying (blocks_of t s on)) (scoped_by s)
    scoped_stmt (block line x true required body) on = (
      ap (λ b. b || list_any (λ d. d.scoped && bytes_eq d.name x) (blocks_in t body on)) (same_is x),
      names_said (blocks_of t (block line x true required body) on) (set_in body) (scoped_in body)
          (each_map (Saying (blocks_in t body on)) (Saying (blocks_of t (block line x true required body) on))
          (scoped_in body) (saying_right
          (record { template = t; name = x; scoped = true; required = required; escaping = on; body = body } ∷ [])
          (blocks_in t body on))
          (scoped_body body on)),
    )
    scoped_stmt (block line x false required body) on =
        search (arith, rules, names_said, scoped_in, each_map, saying_right, scoped_body body on)
    scoped_stmt (choose bs other) on =
        search (arith, rules, both_said, scoped_under, scoped_in, scoped_branches bs on, scoped_body other on)
    scoped_stmt (for_each line xs e c body other) on =
        search (arith, rules, names_said, named, scoped_in, both_said, scoped_body body on, scoped_body other on)
    scoped_stmt (set_block line x body) on = search (arith, rules, names_said, scoped_in, scoped_body body on)
    scoped_stmt (with_values line ps body) on = search (arith, rules, names_said, named, scoped_in, scoped_body body on)
    scoped_stmt (filter_block line fs body) on = search (arith, rules, names_said, scoped_in, scoped_body body on)
    scoped_stmt (autoescape line now body) on = search (arith, rules, names_said, scoped_in, scoped_body body now)
    scoped_stmt (macro line x ps body) on = search (arith, rules, names_said, named, scoped_in, scoped_body body on)
    scoped_stmt s on = tt

    scoped_body : (c : Body) (on : Bool) → Each (Saying (blocks_in t c on)) (scoped_in c)
    scoped_body end on = tt
    scoped_body (stmt s rest) on =
        search (arith, rules, both_said, scoped_by, scoped_in, scoped_stmt s on, scoped_body rest on)

    scoped_branches : (bs : Branches) (on : Bool) → Each (Saying (blocks_under t bs on)) (scoped_under bs)
    scoped_branches no_branches on = tt
    scoped_branches (branch line c body rest) on =
        search (arith, rules, both_said, scoped_in, scoped_under, scoped_body body on, scoped_branches rest on)

said_templates : (on : Bool) (ts : List Template)
    → Each (Saying (flat_map (λ t. blocks_in t.name t.body on) ts)) (flat_map (λ t. scoped_in t.body) ts)
said_templates on [] = tt
said_templates on (t ∷ ts) = search (arith, rules, both_said, scoped_in, scoped_body, said_templates on ts)

all_proper : (cenv : CompileEnv) (order : List Namespace) (h : Namespace) (ss : List Scoping)
    → Each (Saying (all_bodies cenv.sources cenv.escaping h)) ss → AllAmong (names_of ss) (scopes cenv order h)
    → Each (Proper cenv order h) ss
all_proper cenv order h [] e a = tt
all_proper cenv order h (a_tag x ∷ ss) e a = (e.0, all_proper cenv order h ss e.1 a)
all_proper cenv order h (a_name x ∷ ss) e a = (a.0, all_proper cenv order h ss e.1 a.1)

scopes_are : (cenv : CompileEnv) (order : List Namespace) (h : Namespace) → listed h order ≡ true
    → scopes cenv order h ≡ scope_names cenv.sources h
scopes_are cenv order h e = ap (λ b. if b then scope_names cenv.sources h else []) e

scoped_templates : (cenv : CompileEnv) (order : List Namespace) (h : Namespace) → listed h order ≡ true
    → Each (Proper cenv order h) (flat_map (λ t. scoped_in t.body) (templates cenv.sources h))
scoped_templates cenv order h e =
    all_proper cenv order h (flat_map (λ t. scoped_in t.body) (templates cenv.sources h))
    (said_templates cenv.escaping (templates cenv.sources h))
    (subst (λ zs. AllAmong (names_of (flat_map (λ t. scoped_in t.body) (templates cenv.sources h))) zs)
    (sym (scopes_are cenv order h e)) (scopes_bound cenv h))

module _ (cenv : CompileEnv) where
  -- The namespaces from an index on keep the order, and no namespace before the index occurs again.
  behind_order : (pre qs : List Namespace) → InOrder cenv.sources (pre ++ qs)
      → InOrder cenv.sources qs × ((m : Namespace) → listed m qs ≡ true → NotIn m pre)
  behind_order [] qs o = (o, λ m e. tt)
  behind_order (k ∷ pre) qs o =
      search (arith, rules, behind_order pre qs o.1.1, listed_append, not_true, namespace_same)

  abbrev kept_names : List Namespace → Namespace → List Text
  kept_names ks h =
      in_globals h (ascending (own_names cenv.sources h ++ flat_map (names_in cenv ks) (included cenv.sources h)))

  names_behind : (m : Namespace) (pre qs : List Namespace) → NotIn m pre
      → names_in cenv (pre ++ qs) m ≡ names_in cenv qs m
  names_behind m [] qs n = refl
  names_behind m (k ∷ pre) qs n =
      ap (λ b. if b then kept_names (pre ++ qs) m else names_in cenv (pre ++ qs) m) n.0 ∙ names_behind m pre qs n.1

  names_here : (h : Namespace) (ks : List Namespace) → names_in cenv (h ∷ ks) h ≡ kept_names ks h
  names_here h ks = ap (λ b. if b then kept_names ks h else names_in cenv ks h) (namespace_is h)

  flat_among : (f : Namespace → List Text) (ms : List Namespace) (m : Namespace) → Among m ms → (x : Text)
      → Among x (f m) → Among x (flat_map f ms)
  flat_among f [] m i x j = absurd i
  flat_among f (k ∷ ks) m (inl e) x j = among_left x (f k) (flat_map f ks) (subst (λ z. Among x (f z)) (sym e) j)
  flat_among f (k ∷ ks) m (inr i) x j = among_right x (f k) (flat_map f ks) (flat_among f ks m i x j)

  -- The names of a namespace include the names that it reads or binds, and the names of the
  -- namespaces that it leads to.
  among_all : (f : Namespace → List Text) (h m : Namespace) → Among m (included cenv.sources h) → (x : Text)
      → Among x (f m) → Among x (ascending (own_names cenv.sources h ++ flat_map f (included cenv.sources h)))
  among_all f h m i x j =
      let all = own_names cenv.sources h ++ flat_map f (included cenv.sources h) in
      each_among all (ascending all) (all_ascending all) x
      (among_right x (own_names cenv.sources h) (flat_map f (included cenv.sources h))
      (flat_among f (included cenv.sources h) m i x j))

  own_all : (f : Namespace → List Text) (h : Namespace)
      → AllAmong (own_names cenv.sources h)
      (ascending (own_names cenv.sources h ++ flat_map f (included cenv.sources h)))
  own_all f h =
      let all = own_names cenv.sources h ++ flat_map f (included cenv.sources h) in
      among_front (own_names cenv.sources h) (flat_map f (included cenv.sources h)) (ascending all) (all_ascending all)

  module _ (order : List Namespace) where
    total : List Namespace → ℕ
    total [] = 0
    total (k ∷ ks) = length (names cenv order k) + total ks

    first_behind : (m : Namespace) (pre qs : List Namespace) → NotIn m pre
        → first_in cenv order (pre ++ qs) m ≡ total pre + first_in cenv order qs m
    unfolding total
    first_behind m [] qs n = let e : first_in cenv order qs m ≡ 0 + first_in cenv order qs m = omega arith in e
    first_behind m (k ∷ pre) qs n =
        ap (λ b. if b then 0 else length (names cenv order k) + first_in cenv order (pre ++ qs) m) n.0
        ∙ (let e = first_behind m pre qs n.1 in
        let f : length (names cenv order k) + first_in cenv order (pre ++ qs) m
        ≡ length (names cenv order k) + total pre + first_in cenv order qs m = omega (arith, e) in
        f)

    own_read : (h : Namespace) (ks : List Namespace) → names cenv order h ≡ kept_names ks h
        → AllAmong (own_names cenv.sources h) (read_names cenv order h)
    own_read h ks e = search (arith, rules, own_all)

    handed_read : (h : Namespace) (ks : List Namespace) → names cenv order h ≡ kept_names ks h → (m : Namespace)
        → Among m (included cenv.sources h) → names cenv order m ≡ names_in cenv ks m → (x : Text)
        → Among x (names cenv order m) → Among x (read_names cenv order h)
    handed_read (a_chain n) ks e m i same x j =
        subst (Among x) (sym e) (among_all (names_in cenv ks) (a_chain n) m i x (subst (Among x) same j))
    handed_read (a_library n) ks e m i same x j = among_all (names cenv order) (a_library n) m i x j

    module _ (ordered : InOrder cenv.sources order) (h : Namespace) (known : listed h order ≡ true) where
      at : (pre ks : List Namespace) × (order ≡ pre ++ (h ∷ ks)) × NotIn h pre
      at = first_at h order known

      parts : InOrder cenv.sources (at.0 ++ (h ∷ at.1))
      parts = subst (InOrder cenv.sources) at.2 ordered

      names_are : names cenv order h ≡ kept_names at.1 h
      names_are = ap (λ o. names_in cenv o h) at.2 ∙ names_behind h at.0 (h ∷ at.1) at.3 ∙ names_here h at.1

      -- Holds if a chain or library that this one leads to comes later in the order.
      record Next (m : Namespace) : Type 0 where
        pub stands : Known cenv order m
        pub behind : limit cenv order h ≤ first_slot cenv order m
        pub names : (x : Text) → Among x (Rattle.jt_semantics.specs.Layout.names cenv order m)
            → Among x (read_names cenv order h)

      next : (m : Namespace) → Among m (included cenv.sources h) → listed m at.1 ≡ true → Next m
      next m i e =
          let r = behind_order at.0 (h ∷ at.1) parts in
          let in_all : listed m (h ∷ at.1) ≡ true = or_right (same_namespace h m) _ e in
          let away = r.1 m in_all in
          let other = apart (same_namespace h m) refl r.0.0 in
          let skip : NotIn m (h ∷ []) = (other, tt) in
          let same : names cenv order m ≡ names_in cenv at.1 m =
          ap (λ o. names_in cenv o m) at.2 ∙ names_behind m at.0 (h ∷ at.1) away ∙ names_behind m (h ∷ []) at.1 skip in
          let first_h = ap (λ o. first_in cenv order o h) at.2 ∙ first_behind h at.0 (h ∷ at.1) at.3
          ∙ ap (λ b. total at.0 + (if b then 0 else length (names cenv order h) + first_in cenv order at.1 h))
          (namespace_is h) in
          let first_m = ap (λ o. first_in cenv order o m) at.2 ∙ first_behind m at.0 (h ∷ at.1) away
          ∙ ap (λ b. total at.0 + (if b then 0 else length (names cenv order h) + first_in cenv order at.1 m)) other in
          record {
            stands = ap (λ o. listed m o) at.2 ∙ listed_append m at.0 (h ∷ at.1) in_all;
            behind =
                let f : first_in cenv order order h + length (names cenv order h) ≤ first_in cenv order order m =
                omega (arith, first_h, first_m) in
                f;
            names = handed_read h at.1 names_are m i same;
          }
        where
          apart : (b : Bool) → same_namespace h m ≡ b → not (listed h at.1) ≡ true → b ≡ false
          apart true p n = absurd (not_true (listed h at.1) n (ap (λ z. listed z at.1) (namespace_same h m p) ∙ e))
          apart false p n = refl

      all_in : (m : Namespace) (ms ks : List Namespace) → Among m ms → AllIn ms ks → listed m ks ≡ true
      all_in m [] ks i a = absurd i
      all_in m (y ∷ ys) ks (inl p) a = ap (λ z. listed z ks) (sym p) ∙ a.0
      all_in m (y ∷ ys) ks (inr i) a = all_in m ys ks i a.1

      led : (m : Namespace) → Among m (included cenv.sources h) → Next m
      led m i =
          let r = behind_order at.0 (h ∷ at.1) parts in next m i (all_in m (included cenv.sources h) at.1 i r.0.1.0)

      hands : (n : Text)
          → Among n (with_source cenv.sources (flat_map (λ t. needs_in true t.body) (templates cenv.sources h)))
          → Hands cenv order h n
      hands n i =
          let r = led (a_chain n) (among_left (a_chain n)
          (map a_chain (with_source cenv.sources (flat_map (λ t. needs_in true t.body) (templates cenv.sources h))))
          (map a_library (with_source cenv.sources (libraries cenv.sources h))) (one_mapped a_chain n _ i)) in
          record { known = r.stands; behind = r.behind; names = r.names }

      -- A library that this chain imports comes later in the order.
      pub libraries_stand : (n : Text) → Among n (with_source cenv.sources (libraries cenv.sources h))
          → Behind cenv order h (a_library n)
      libraries_stand n i =
          let r = led (a_library n) (among_right (a_library n)
          (map a_chain (with_source cenv.sources (flat_map (λ t. needs_in true t.body) (templates cenv.sources h))))
          (map a_library (with_source cenv.sources (libraries cenv.sources h))) (one_mapped a_library n _ i)) in
          record { known = r.stands; behind = r.behind }

      -- ---- The contents of a body of the chain

      pub record Belongs (c : Body) : Type 0 where
        pub names : AllAmong (body_names c) (read_names cenv order h)
        pub included : Each (Included cenv order h) (needs_in true c)
        pub scoped : Each (Proper cenv order h) (scoped_in c)

      -- Holds if a body that is a scope belongs to the chain, and its names are among the names
      -- that scopes bind.
      pub record Owned (c : Body) : Type 0 where
        pub belongs : Belongs c
        pub own : AllAmong (set_in c) (scopes cenv order h)

      pub record OwnedMacro (m : MacroBody) : Type 0 where
        pub body : Owned m.body
        pub parameters : AllAmong (map (λ p. p.name) m.parameters) (scopes cenv order h)

      -- A body is owned by the chain if its names, includes and scoped blocks are.
      owned : (c : Body) → AllAmong (body_names c) (read_names cenv order h)
          → Each (Included cenv order h) (needs_in true c)
          → Each (Proper cenv order h) (named (set_in c) ++ scoped_in c) → Owned c
      owned c a n d = search (arith, rules, behind_proper, scoped_in, names_proper)

      -- An option that is not `Some` is `None`.
      no_source : (o : Option Body) → is_some o ≡ false → is_none o ≡ true
      no_source o e = search (arith, rules, no_both)

      each_included : (xs : List Text)
          → ((x : Text) → Among x xs → Among x (flat_map (λ t. needs_in true t.body) (templates cenv.sources h)))
          → Each (Included cenv order h) xs
      each_included [] f = tt
      each_included (x ∷ xs) f = (one (is_some (cenv.sources x)) refl, each_included xs (λ y i. f y (inr i)))
        where
          one : (b : Bool) → is_some (cenv.sources x) ≡ b → Included cenv order h x
          one false e = inl (no_source (cenv.sources x) e)
          one true e =
              inr (hands x (source_there cenv.sources x
              (flat_map (λ t. needs_in true t.body) (templates cenv.sources h)) (f x (inl refl)) e))

      -- Holds if a statement belongs to the chain, as `Belongs` defines it for a body.
      abbrev StmtBelongs : Stmt → Type 0
      StmtBelongs s =
          AllAmong (stmt_names s) (read_names cenv order h) × Each (Included cenv order h) (needs_by true s)
          × Each (Proper cenv order h) (scoped_by s)

      abbrev BranchesBelong : Branches → Type 0
      BranchesBelong bs =
          AllAmong (branch_names bs) (read_names cenv order h) × Each (Included cenv order h) (needs_under true bs)
          × Each (Proper cenv order h) (scoped_under bs)

      abbrev all_names : List Text
      all_names = read_names cenv order h

      belongs_front : (s : Stmt) (rest : Body) → Belongs (stmt s rest) → StmtBelongs s
      belongs_front s rest b = search (arith, rules, among_front, each_front, scoped_by, scoped_in)

      belongs_back : (s : Stmt) (rest : Body) → Belongs (stmt s rest) → Belongs rest
      belongs_back s rest b = search (arith, rules, among_back, each_back, scoped_by, scoped_in)

      template_bodies : (ts : List Template) → AllAmong (flat_map (λ t. body_names t.body) ts) all_names
          → Each (Included cenv order h) (flat_map (λ t. needs_in true t.body) ts)
          → Each (Proper cenv order h) (flat_map (λ t. scoped_in t.body) ts) → Each (λ t. Belongs t.body) ts
      template_bodies [] a b c = tt
      template_bodies (t ∷ ts) a b c =
          search (arith, rules, among_front, each_front, scoped_in, template_bodies ts, among_back, each_back)

      -- The templates of the chain belong to it.
      pub templates_belong : Each (λ t. Belongs t.body) (templates cenv.sources h)
      templates_belong = search (arith, rules, template_bodies, own_read, names_are, each_included, scoped_templates)

      -- The names that scopes bind are among the names that are read or bound.
      pub scopes_known : AllAmong (scopes cenv order h) (read_names cenv order h)
      scopes_known = search (arith, rules, read_names, scopes_are, ascending_among, templates_bind, own_read, names_are)

      macro_bodies : (t : Text) (c : Body) → Belongs c → Each OwnedMacro (macros_in t c)
      macro_bodies t end b = tt
      macro_bodies t (stmt (macro line x ps body) rest) b =
          let f = belongs_front (macro line x ps body) rest b in
          let xs = map (λ p. p.name) ps in (
            record {
              body =
                  owned body (among_back xs (body_names body) all_names f.0) f.1
                  (behind_proper cenv order h xs (named (set_in body) ++ scoped_in body) f.2);
              parameters = names_proper cenv order h xs (named (set_in body) ++ scoped_in body) f.2;
            },
            macro_bodies t rest (belongs_back (macro line x ps body) rest b),
          )
      macro_bodies t (stmt s rest) b = macro_bodies t rest (belongs_back s rest b)

      pub all_macro_bodies : (ts : List Template) → Each (λ t. Belongs t.body) ts
          → Each OwnedMacro (flat_map (λ t. macros_in t.name t.body) ts)
      all_macro_bodies [] b = tt
      all_macro_bodies (t ∷ ts) b =
          each_append OwnedMacro (macros_in t.name t.body) (flat_map (λ u. macros_in u.name u.body) ts)
          (macro_bodies t.name t.body b.0) (all_macro_bodies ts b.1)

      -- The macros of the chain belong to it.
      pub macro_belongs : (x : Text) (m : MacroBody) → macro_of x (macros cenv.sources h) ≡ Some m → OwnedMacro m
      macro_belongs x m e =
          macro_all cenv.sources OwnedMacro x m (macros cenv.sources h)
          (all_macro_bodies (templates cenv.sources h) templates_belong) e

      abbrev pub InBelongs : List BlockBody → Type 0
      InBelongs bs = Each (λ b. Owned b.body) bs

      module _ (t : Text) where
        mutual
          stmt_blocks : (s : Stmt) (on : Bool) → StmtBelongs s → InBelongs (blocks_of t s on)
          stmt_blocks (block line x true required body) on b = search (arith, rules, owned, body_blocks body on)
          stmt_blocks (block line x false required body) on b = search (arith, rules, owned, body_blocks body on)
          stmt_blocks (choose bs other) on b =
              search (
                arith,
                rules,
                each_append,
                branch_blocks bs on,
                among_front,
                each_front,
                scoped_under,
                scoped_in,
                body_blocks other on,
                among_back,
                each_back,
              )
          stmt_blocks (for_each line xs e c body other) on b =
              search (
                arith,
                rules,
                among_back,
                behind_proper,
                scoped_in,
                named,
                each_append,
                body_blocks body on,
                among_front,
                each_front,
                body_blocks other on,
                each_back,
              )
          stmt_blocks (set_block line x body) on b = body_blocks body on (owned body b.0.1 b.1 b.2).belongs
          stmt_blocks (with_values line ps body) on b =
              search (arith, rules, owned, among_back, behind_proper, named, scoped_in, body_blocks body on)
          stmt_blocks (filter_block line fs body) on b = search (arith, rules, owned, among_front, body_blocks body on)
          stmt_blocks (autoescape line now body) on b = body_blocks body now (owned body b.0 b.1 b.2).belongs
          stmt_blocks (macro line x ps body) on b =
              search (arith, rules, owned, among_back, behind_proper, named, scoped_in, body_blocks body on)
          stmt_blocks s on b = tt

          body_blocks : (c : Body) (on : Bool) → Belongs c → InBelongs (blocks_in t c on)
          body_blocks end on b = tt
          body_blocks (stmt s rest) on b =
              search (arith, rules, each_append, belongs_front, belongs_back, stmt_blocks s on, body_blocks rest on)

          branch_blocks : (bs : Branches) (on : Bool) → BranchesBelong bs → InBelongs (blocks_under t bs on)
          branch_blocks no_branches on b = tt
          branch_blocks (branch line c body rest) on b =
              search (
                arith,
                rules,
                among_back,
                each_append,
                body_blocks body on,
                among_front,
                each_front,
                scoped_in,
                scoped_under,
                branch_blocks rest on,
                each_back,
              )

      pub all_block_bodies : (on : Bool) (ts : List Template) → Each (λ t. Belongs t.body) ts
          → InBelongs (flat_map (λ t. blocks_in t.name t.body on) ts)
      all_block_bodies on [] b = tt
      all_block_bodies on (t ∷ ts) b =
          each_append (λ b. Owned b.body) (blocks_in t.name t.body on) (flat_map (λ u. blocks_in u.name u.body on) ts)
          (body_blocks t.name t.body on b.0) (all_block_bodies on ts b.1)

      map_parts : (pre post : List (ℕ × BlockBody))
          → map (λ c. c.1) (pre ++ post) ≡ map (λ c. c.1) pre ++ map (λ c. c.1) post
      map_parts [] post = refl
      map_parts (p ∷ pre) post = ap (λ zs. p.1 ∷ zs) (map_parts pre post)

      -- The bodies of the chain's blocks belong to it.
      pub body_belongs : (i : ℕ) (c : BlockBody) (pre post : List (ℕ × BlockBody))
          → numbered_bodies cenv h ≡ pre ++ ((i, c) ∷ post) → Owned c.body
      body_belongs i c pre post e =
          let all = all_block_bodies cenv.escaping (templates cenv.sources h) templates_belong in
          let same = sym (counted_are 0 (all_bodies cenv.sources cenv.escaping h)) ∙ ap (map (λ d. d.1)) e
          ∙ map_parts pre ((i, c) ∷ post) in
          (each_back (λ b. Owned b.body) (map (λ d. d.1) pre) (c ∷ map (λ d. d.1) post) (subst InBelongs same all)).0
