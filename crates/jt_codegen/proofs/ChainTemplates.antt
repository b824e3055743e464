-- A property of each template that was read holds of the templates of each chain. A property of
-- their names holds of the chain's names.
use Rattle.std.proofs.Common.{◌≡◌, ℕ, ◌≤◌, Bool, true, false, if◌then◌else◌, List, [], ◌∷◌, ◌++◌, Option, Some, None}
use Rattle.std.proofs.Common.{refl, subst, arith}
use Rattle.std.specs.Prelude.{flat_map}
use Rattle.std.specs.List.{AllByRecursion}
use Rattle.std.specs.Ordering.{nat_cmp, is_lt}
use Rattle.std.specs.Cmp.Lexicographic.{slice_cmp}
use Rattle.std.specs.Str.{bytes_eq}
use Rattle.std.proofs.lemmas.Slice.Eq.{bytes_eq-Decides}
use Rattle.jt_ast.specs.Sizes.{body_bytes}
use Rattle.jt_ast.specs.Texts.{inserted, all_inserted, ascending}
use Rattle.jt_ast.specs.Expressions.{Text}
use Rattle.jt_ast.specs.Statements.{Body}
use Rattle.jt_chains.specs.Chain.{Sources, Namespace, a_chain, a_library, same_namespace, Template, sources_in}
use Rattle.jt_chains.specs.Chain.{template, holds_macros, library_template, templates, max_templates, names_up}
use Rattle.jt_inherit.specs.Chains.{SourceTexts}
use Rattle.jt_inherit.specs.Small.{source_len, templates_len}
use Rattle.jt_chains.specs.Includes.{included}
use Rattle.jt_chains.specs.Uses.{body_names, own_names}
use Rattle.jt_rules.specs.CompileEnv.{CompileEnv}
use Rattle.jt_semantics.specs.Layout.{in_globals, names_in}
use Rattle.jt_lower.proofs.LawfulProgramsFit.{all_append}
use Rattle.jt_codegen.proofs.EitherHolds.{either_of}

pub all_flat : {A B : Type 0} (P : B → Type 0) (f : A → List B) (xs : List A)
    → AllByRecursion (λ x. AllByRecursion P (f x)) xs → AllByRecursion P (flat_map f xs)
all_flat P f [] h = tt
all_flat P f (x ∷ xs) h = all_append P (f x) (flat_map f xs) h.0 (all_flat P f xs h.1)

-- ---- the templates of chains

module _ (P : Text → Body → Type 0) where
  abbrev Has : Text → Option Body → Type 0
  Has m None = Unit {0}
  Has m (Some b) = P m b

  source_has : (ts : List Template) → AllByRecursion (λ t. P t.name t.body) ts → (m : Text) → Has m (sources_in ts m)
  source_has [] a m = tt
  source_has (t ∷ ts) a m = through (bytes_eq t.name m) refl (source_has ts a.1 m)
    where
      through : (b : Bool) → bytes_eq t.name m ≡ b → Has m (sources_in ts m)
          → Has m (if b then Some t.body else sources_in ts m)
      through true e g = subst (λ n. P n t.body) ((bytes_eq-Decides t.name m).0 e) a.0
      through false e g = g

  named_have : (sources : Sources) → ((m : Text) → Has m (sources m)) → (ms : List Text)
      → AllByRecursion (λ t. P t.name t.body) (flat_map (λ m. template m (sources m)) ms)
  named_have sources k [] = tt
  named_have sources k (m ∷ ms) =
      all_append (λ t. P t.name t.body) (template m (sources m)) (flat_map (λ l. template l (sources l)) ms)
      (by (sources m) (k m)) (named_have sources k ms)
    where
      by : (o : Option Body) → Has m o → AllByRecursion (λ t. P t.name t.body) (template m o)
      by None h = tt
      by (Some b) h = (h, tt)

  library_has : (n : Text) (o : Option Body) → Has n o → AllByRecursion (λ t. P t.name t.body) (library_template n o)
  library_has n None h = tt
  library_has n (Some b) h =
      either_of (AllByRecursion (λ t. P t.name t.body)) (holds_macros b) (template n (Some b)) [] (h, tt) tt

  pub chain_has : (ts : List Template) → AllByRecursion (λ t. P t.name t.body) ts → (h : Namespace)
      → AllByRecursion (λ t. P t.name t.body) (templates (sources_in ts) h)
  chain_has ts a (a_chain n) =
      named_have (sources_in ts) (source_has ts a) (names_up (sources_in ts) max_templates (Some n))
  chain_has ts a (a_library n) = library_has n (sources_in ts n) (source_has ts a n)

-- ---- bytes: a tree no longer than its source is no longer than all sources of its chain or
-- library

module _ (given : SourceTexts) (n : ℕ) where
  summed : (ts : List Template) → AllByRecursion (λ t. body_bytes t.body ≤ source_len (given t.name)) ts
      → templates_len given ts ≤ n → AllByRecursion (λ t. body_bytes t.body ≤ n) ts
  summed [] a le = tt
  summed (t ∷ ts) a le = (omega (arith, a.0, le), summed ts a.1 (omega (arith, le)))

  pub all_short : (ts : List Template) → AllByRecursion (λ t. body_bytes t.body ≤ source_len (given t.name)) ts
      → (hs : List Namespace) → AllByRecursion (λ h. templates_len given (templates (sources_in ts) h) ≤ n) hs
      → AllByRecursion (λ h. AllByRecursion (λ t. body_bytes t.body ≤ n) (templates (sources_in ts) h)) hs
  all_short ts a [] le = tt
  all_short ts a (h ∷ hs) le = (
    summed (templates (sources_in ts) h) (chain_has (λ m b. body_bytes b ≤ source_len (given m)) ts a h) le.0,
    all_short ts a hs le.1,
  )

-- ---- names

module _ (P : Text → Type 0) where
  inserted_all : (x : Text) (xs : List Text) → P x → AllByRecursion P xs → AllByRecursion P (inserted x xs)
  inserted_all x [] h g = (h, tt)
  inserted_all x (y ∷ ys) h g =
      let later = if is_lt (slice_cmp nat_cmp x y) then x ∷ y ∷ ys else y ∷ inserted x ys in
      either_of (AllByRecursion P) (bytes_eq y x) (y ∷ ys) later g
      (either_of (AllByRecursion P) (is_lt (slice_cmp nat_cmp x y)) (x ∷ y ∷ ys) (y ∷ inserted x ys) (h, g)
      (g.0, inserted_all x ys h g.1))

  pub all_inserted_all : (xs ys : List Text) → AllByRecursion P xs → AllByRecursion P ys
      → AllByRecursion P (all_inserted xs ys)
  all_inserted_all [] ys h g = g
  all_inserted_all (x ∷ xs) ys h g = all_inserted_all xs (inserted x ys) h.1 (inserted_all x ys h.0 g)

  handed_all : (f : Namespace → List Text) → ((m : Namespace) → AllByRecursion P (f m)) → (ms : List Namespace)
      → AllByRecursion P (flat_map f ms)
  handed_all f g [] = tt
  handed_all f g (m ∷ ms) = all_append P (f m) (flat_map f ms) (g m) (handed_all f g ms)

  globals_all : (h : Namespace) (xs : List Text) → AllByRecursion P xs → AllByRecursion P (in_globals h xs)
  globals_all (a_chain n) xs a = a
  globals_all (a_library n) xs a = tt

  pub names_all : (cenv : CompileEnv) → ((h : Namespace) → AllByRecursion P (own_names cenv.sources h))
      → (hs : List Namespace) (h : Namespace) → AllByRecursion P (names_in cenv hs h)
  names_all cenv own [] h = tt
  names_all cenv own (k ∷ ks) h =
      let all = own_names cenv.sources h ++ flat_map (names_in cenv ks) (included cenv.sources h) in
      let later = handed_all (names_in cenv ks) (λ m. names_all cenv own ks m) (included cenv.sources h) in
      either_of (AllByRecursion P) (same_namespace k h) (in_globals h (ascending all)) (names_in cenv ks h)
      (globals_all h (ascending all) (all_inserted_all all []
      (all_append P (own_names cenv.sources h) (flat_map (names_in cenv ks) (included cenv.sources h)) (own h) later)
      tt))
      (names_all cenv own ks h)

  -- A property of each name of each template that was read holds of each name of the chains.
  pub own_all : (ts : List Template) → AllByRecursion (λ t. AllByRecursion P (body_names t.body)) ts → (h : Namespace)
      → AllByRecursion P (own_names (sources_in ts) h)
  own_all ts a h =
      all_flat P (λ t. body_names t.body) (templates (sources_in ts) h)
      (chain_has (λ m b. AllByRecursion P (body_names b)) ts a h)
