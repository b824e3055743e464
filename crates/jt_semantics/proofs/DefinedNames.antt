-- The definitions of a chain's names: its own macros, and the macros of the libraries that it
-- imports.
use Rattle.std.proofs.Common.{◌≡◌, Bool, true, if◌then◌else◌, List, [], ◌∷◌, ◌++◌, Option, Some, None, refl, ap, ◌∙◌}
use Rattle.std.proofs.Common.{◌⊎◌, inl, inr, arith, rules}
use Rattle.std.specs.Prelude.{flat_map, codes}
use Rattle.std.specs.Option.{is_some}
use Rattle.std.specs.List.{AllByRecursion as Each}
use Rattle.std.specs.Str.{bytes_eq}
use Rattle.jt_ast.specs.Expressions.{Expr, name, attribute, Text}
use Rattle.jt_ast.specs.Statements.{import_as, import_from, Body, end, stmt}
use Rattle.jt_chains.specs.Chain.{Sources, Namespace, a_library, Template, MacroBody, macros}
use Rattle.jt_chains.specs.Chain.{macro_of, public_macro, Definition, one_macro, library, own, given_from}
use Rattle.jt_chains.specs.Chain.{all_given_from, imports_in, imports, given, given_to, libraries_in, libraries}
use Rattle.jt_chains.specs.Chain.{a_macro, a_block, a_cycle, no_callee, of_library, in_library, callee}
use Rattle.jt_chains.specs.Includes.{with_source}
use Rattle.jt_semantics.proofs.EnvLookup.{no_both}
use Rattle.jt_semantics.proofs.Among.{Among, among_left, among_right}
use Rattle.jt_semantics.proofs.EachElement.{each_append, each_map}

public_found : (x : Text) (ms : List MacroBody) (m : MacroBody) → public_macro x ms ≡ Some m → macro_of x ms ≡ Some m
public_found x ms m e = search (arith, rules)

given_split : (x : Text) (fs gs : List (Text × Definition)) (g : Definition) → given_to x (fs ++ gs) ≡ Some g
    → (given_to x fs ≡ Some g) ⊎ (given_to x gs ≡ Some g)
given_split x [] gs g e = inr e
given_split x (f ∷ fs) gs g e = search (arith, rules, given_split x fs gs g)

own_found : (h : Namespace) (x : Text) (ms : List MacroBody) (g : Definition) → given_to x (own h ms) ≡ Some g
    → (m : MacroBody) × (g ≡ one_macro h m) × (macro_of x ms ≡ Some m)
own_found h x [] g e = search (arith, rules)
own_found h x (m ∷ ms) g e = search (arith, rules, own_found h x ms g)

module _ (sources : Sources) where
  pub source_there : (x : Text) (xs : List Text) → Among x xs → is_some (sources x) ≡ true
      → Among x (with_source sources xs)
  source_there x [] i e = absurd i
  source_there x (y ∷ ys) (inl p) e = search (arith, rules, no_both)
  source_there x (y ∷ ys) (inr i) e = search (arith, rules, source_there x ys i e)

  -- Holds if the definition is a macro of one of these libraries, or one of the libraries.
  abbrev FromLibraries : List Text → Definition → Type 0
  FromLibraries ls (one_macro k b) =
      (n : Text) × (k ≡ a_library n) × Among n ls × ((y : Text) × (macro_of y (macros sources (a_library n)) ≡ Some b))
  FromLibraries ls (library n) = Among n ls

  abbrev AllFrom : List Text → List (Text × Definition) → Type 0
  AllFrom ls gs = Each (λ g. FromLibraries ls g.1) gs

  from_more : (ls ks : List Text) → ((n : Text) → Among n ls → Among n ks) → (g : Definition) → FromLibraries ls g
      → FromLibraries ks g
  from_more ls ks f g h = search (arith, rules)

  all_more : (ls ks : List Text) → ((n : Text) → Among n ls → Among n ks) → (gs : List (Text × Definition))
      → AllFrom ls gs → AllFrom ks gs
  all_more ls ks f gs h = search (arith, rules, each_map, from_more)

  from_all : (n x y : Text) (ls : List Text) → Among n ls → (o : Option MacroBody)
      → public_macro y (macros sources (a_library n)) ≡ o → AllFrom ls (given_from n x o)
  from_all n x y ls i o e = search (arith, rules, public_found)

  all_from : (n : Text) (xs : List (Text × Text)) (ls : List Text) → Among n ls
      → AllFrom ls (all_given_from sources n xs)
  all_from n [] ls i = tt
  all_from n (x ∷ xs) ls i = search (arith, rules, each_append, from_all, all_from n xs ls i)

  imports_all : (c : Body) → AllFrom (libraries_in c) (imports_in sources c)
  imports_all end = tt
  imports_all (stmt (import_as line n x) rest) = search (arith, rules, all_more, imports_all rest)
  imports_all (stmt (import_from line n xs) rest) =
      search (
        arith,
        rules,
        each_append,
        all_from n xs (n ∷ libraries_in rest) (inl refl),
        all_more (libraries_in rest) (n ∷ libraries_in rest) (λ m i. inr i),
        imports_all rest,
      )
  imports_all (stmt s rest) = imports_all rest

  templates_imports : (ts : List Template)
      → AllFrom (flat_map (λ t. libraries_in t.body) ts) (flat_map (λ t. imports_in sources t.body) ts)
  templates_imports [] = tt
  templates_imports (t ∷ ts) =
      search (arith, rules, each_append, all_more, among_left, imports_all, among_right, templates_imports ts)

  imports_from : (h : Namespace) → AllFrom (libraries sources h) (imports sources h)
  imports_from h = search (arith, rules, templates_imports)

  look_all : (x : Text) (ls : List Text) (gs : List (Text × Definition)) (g : Definition) → AllFrom ls gs
      → given_to x gs ≡ Some g → FromLibraries ls g
  look_all x ls [] g a e = search (arith, rules)
  look_all x ls (f ∷ fs) g a e = search (arith, rules, look_all x ls fs g a.1)

  -- A library with a macro has a source.
  some_source : (n y : Text) (b : MacroBody) → macro_of y (macros sources (a_library n)) ≡ Some b
      → is_some (sources n) ≡ true
  some_source n y b e = search (arith, rules)

  -- Holds if k may define a macro that h calls: it is h itself, or a library that h imports.
  abbrev pub LeadsTo : Namespace → Namespace → Type 0
  LeadsTo h k = (k ≡ h) ⊎ ((n : Text) × (k ≡ a_library n) × Among n (with_source sources (libraries sources h)))

  abbrev pub Found : Namespace → Namespace → MacroBody → Type 0
  Found h k b = (x : Text) × (macro_of x (macros sources k) ≡ Some b) × LeadsTo h k

  given_macro : (h : Namespace) (x : Text) (k : Namespace) (b : MacroBody)
      → given_to x (given sources h) ≡ Some (one_macro k b) → Found h k b
  given_macro h x k b e = which (given_split x (own h (macros sources h)) (imports sources h) (one_macro k b) e)
    where
      namespace_is_it : (m : MacroBody) → one_macro k b ≡ one_macro h m → k ≡ h
      namespace_is_it m q = cc

      body_is_it : (m : MacroBody) → one_macro k b ≡ one_macro h m → m ≡ b
      body_is_it m q = cc

      which : (given_to x (own h (macros sources h)) ≡ Some (one_macro k b))
          ⊎ (given_to x (imports sources h) ≡ Some (one_macro k b))
          → Found h k b
      which (inl q) = search (arith, rules, own_found, namespace_is_it, body_is_it)
      which (inr q) =
          let r = look_all x (libraries sources h) (imports sources h) (one_macro k b) (imports_from h) q in (
            r.3.0,
            ap (λ z. macro_of r.3.0 (macros sources z)) r.1 ∙ r.3.1,
            inr (r.0, r.1, source_there r.0 (libraries sources h) r.2 (some_source r.0 r.3.0 b r.3.1)),
          )

  -- Holds if P holds of the definition's macro, or of each macro of its library.
  abbrev pub GivenAll : (MacroBody → Type 0) → Definition → Type 0
  GivenAll P (one_macro k m) = P m
  GivenAll P (library n) = Each P (macros sources (a_library n))

  module _ (P : MacroBody → Type 0) where
    pub macro_all : (x : Text) (b : MacroBody) (ms : List MacroBody) → Each P ms → macro_of x ms ≡ Some b → P b
    macro_all x b [] a e = search (arith, rules)
    macro_all x b (m ∷ ms) a e = search (arith, rules, macro_all x b ms a.1)

    own_all : (h : Namespace) (ms : List MacroBody) → Each P ms
        → Each (λ g. GivenAll P g.1) (own h ms)
    own_all h [] a = tt
    own_all h (m ∷ ms) a = (a.0, own_all h ms a.1)

    pub all_own : (h : Namespace) (ms : List MacroBody) (gs : List (Text × Definition))
        → Each (λ g. GivenAll P g.1) (own h ms ++ gs) → Each P ms
    all_own h [] gs a = tt
    all_own h (m ∷ ms) gs a = (a.0, all_own h ms gs a.1)

    module _ (ls : List Text)
        (each : (n : Text) → Among n (with_source sources ls) → Each P (macros sources (a_library n))) where
      of_library_all : (n : Text) → Among n ls → Each P (macros sources (a_library n))
      of_library_all n i = search (arith, rules, source_there)

      one_from : (g : Definition) → FromLibraries ls g → GivenAll P g
      one_from g a1 = search (arith, rules, macro_all, of_library_all)

      all_of_libraries : (gs : List (Text × Definition)) → AllFrom ls gs → Each (λ g. GivenAll P g.1) gs
      all_of_libraries [] f = tt
      all_of_libraries (g ∷ gs) f = (one_from g.1 f.0, all_of_libraries gs f.1)

    pub given_all : (h : Namespace) → Each P (macros sources h)
        → ((n : Text) → Among n (with_source sources (libraries sources h))
        → Each P (macros sources (a_library n)))
        → Each (λ g. GivenAll P g.1) (given sources h)
    given_all h a each = search (arith, rules, each_append, own_all, all_of_libraries, imports_from)

  given_library : (h : Namespace) (x n : Text) → given_to x (given sources h) ≡ Some (library n)
      → Among n (libraries sources h)
  given_library h x n e = which (given_split x (own h (macros sources h)) (imports sources h) (library n) e)
    where
      never : (m : MacroBody) → library n ≡ one_macro h m → Among n (libraries sources h)
      never m q = absurd (cc)

      which : (given_to x (own h (macros sources h)) ≡ Some (library n))
          ⊎ (given_to x (imports sources h) ≡ Some (library n))
          → Among n (libraries sources h)
      which (inl q) = let r = own_found h x (macros sources h) (library n) q in never r.0 r.1
      which (inr q) = look_all x (libraries sources h) (imports sources h) (library n) (imports_from h) q

  -- The macro that a callee calls is found, for each form of the callee.
  pub called_macro : (h : Namespace) (f : Expr) (k : Namespace) (b : MacroBody)
      → callee sources (given sources h) f ≡ a_macro k b → Found h k b
  called_macro h (name x) k b e = search (arith, rules, given_macro)
  called_macro h (attribute (name of) x) k b e =
      form (bytes_eq of (codes "self")) (bytes_eq of (codes "loop")) (bytes_eq x (codes "cycle")) e
    where
      of_one : (n : Text) → Among n (libraries sources h) → (o : Option MacroBody)
          → public_macro x (macros sources (a_library n)) ≡ o → of_library sources n o ≡ a_macro k b → Found h k b
      of_one n i None p q = absurd (cc)
      of_one n i (Some m) p q =
          let f = public_found x (macros sources (a_library n)) m p in
          let namespace : k ≡ a_library n = cc in
          let body : m ≡ b = cc in (
            x,
            ap (λ z. macro_of x (macros sources z)) namespace ∙ f ∙ ap Some body,
            inr (n, namespace, source_there n (libraries sources h) i (some_source n x m f)),
          )

      in_one : (o : Option Definition) → given_to of (given sources h) ≡ o → in_library sources o x ≡ a_macro k b
          → Found h k b
      in_one o p q = search (arith, rules, of_one, given_library)

      form : (p q r : Bool) → (if p then a_block x else if q then (if r then a_cycle else no_callee)
          else in_library sources (given_to of (given sources h)) x)
          ≡ a_macro k b
          → Found h k b
      form p q r z = search (arith, rules, in_one)
  called_macro h f k b e = absurd (cc)
