-- The parameters of each unit of chains are among its locals, and a unit of small chains has at
-- most 200 parameters.
use Rattle.std.proofs.Common.{ℕ, ◌≤◌, ◌+◌, List, [], ◌∷◌, ◌++◌, length, map, arith}
use Rattle.std.proofs.lemmas.List.{length-map}
use Rattle.std.specs.Prelude.{flat_map, filter}
use Rattle.std.specs.List.{AllByRecursion}
use Rattle.std.specs.Str.{bytes_eq}
use Rattle.jt_ast.specs.Expressions.{Text}
use Rattle.jt_ast.specs.Statements.{Parameter}
use Rattle.jt_chains.specs.Chain.{Namespace, a_chain, a_library, BlockBody, MacroBody, macros}
use Rattle.jt_rules.specs.CompileEnv.{CompileEnv}
use Rattle.jt_semantics.specs.Layout.{numbered_bodies, is_scoped, scopes}
use Rattle.jt_semantics.specs.Measure.{IsFew, AreFew}
use Rattle.jt_semantics.specs.Programs.{body_routines, entry_routines, chain_routines, routines}
use Rattle.jt_semantics.specs.Resolve.{chain_routine, macro_routine, body_routine}
use Rattle.jt_ir.specs.Slots.{Routine}
use Rattle.jt_ir.specs.Pool.{Constant, body_values, placed_routines}
use Rattle.jt_lower.specs.Lower.{unit_of}
use Rattle.jt_semantics.proofs.DefinedNames.{all_own}
use Rattle.jt_lower.proofs.LawfulProgramsFit.{all_append}
use Rattle.jt_codegen.proofs.EitherHolds.{either_of}

-- A property of the numbers of parameters and locals.
abbrev pub Of : {K : Type 0} → (ℕ → ℕ → Type 0) → Routine K → Type 0
Of P r = P r.parameters r.locals

placed_all : (P : ℕ → ℕ → Type 0) (rs : List (Routine Constant)) (n : ℕ) → AllByRecursion (Of P) rs
    → AllByRecursion (Of P) (placed_routines rs n)
placed_all P [] n h = tt
placed_all P (r ∷ rs) n h = (h.0, placed_all P rs (n + length (body_values r.body)) h.1)

pub units_all : (P : ℕ → ℕ → Type 0) (rs : List (Routine ℕ)) → AllByRecursion (Of P) rs
    → AllByRecursion (λ u. P u.parameters u.locals) (map unit_of rs)
units_all P [] h = tt
units_all P (r ∷ rs) h = (h.0, units_all P rs h.1)

module _ (P : ℕ → ℕ → Type 0) (cenv : CompileEnv) (order : List Namespace) where
  module _ (chains : (n : Text) → Of P (chain_routine cenv order n))
      (bodies : (h : Namespace) (b : BlockBody) (behind : List (ℕ × BlockBody))
      → Of P (body_routine cenv order h b behind)) where
    entries_all : (h : Namespace) → AllByRecursion (Of P) (entry_routines cenv order h)
    entries_all (a_chain n) = (chains n, tt)
    entries_all (a_library n) = tt

    macros_all : (h : Namespace) (ms : List MacroBody) → AllByRecursion (λ m. Of P (macro_routine cenv order h m)) ms
        → AllByRecursion (Of P) (map (macro_routine cenv order h) ms)
    macros_all h [] g = tt
    macros_all h (m ∷ ms) g = (g.0, macros_all h ms g.1)

    bodies_all : (h : Namespace) (bs : List (ℕ × BlockBody)) → AllByRecursion (Of P) (body_routines cenv order h bs)
    bodies_all h [] = tt
    bodies_all h (b ∷ bs) = (bodies h b.1 (filter (λ c. bytes_eq c.1.name b.1.name) bs), bodies_all h bs)

    all_of : (hs : List Namespace)
        → AllByRecursion (λ h. AllByRecursion (λ m. Of P (macro_routine cenv order h m)) (macros cenv.sources h)) hs
        → AllByRecursion (Of P) (flat_map (chain_routines cenv order) hs)
    all_of [] g = tt
    all_of (h ∷ hs) g =
        let ms = map (macro_routine cenv order h) (macros cenv.sources h) in
        let bs = body_routines cenv order h (numbered_bodies cenv h) in
        all_append (Of P) (chain_routines cenv order h) (flat_map (chain_routines cenv order) hs)
        (all_append (Of P) (entry_routines cenv order h) (ms ++ bs) (entries_all h)
        (all_append (Of P) ms bs (macros_all h (macros cenv.sources h) g.0) (bodies_all h (numbered_bodies cenv h))))
        (all_of hs g.1)

    -- A property of each routine holds of each unit.
    pub units_so : (n : ℕ)
        → AllByRecursion (λ h. AllByRecursion (λ m. Of P (macro_routine cenv order h m)) (macros cenv.sources h)) order
        → AllByRecursion (λ u. P u.parameters u.locals) (map unit_of (placed_routines (routines cenv order) n))
    units_so n g =
        units_all P (placed_routines (routines cenv order) n) (placed_all P (routines cenv order) n (all_of order g))

-- The parameters are among the locals.
abbrev Enclosing : ℕ → ℕ → Type 0
Enclosing parameters locals = parameters ≤ locals

pub parameters_within : (cenv : CompileEnv) (order : List Namespace) (n : ℕ)
    → AllByRecursion (λ u. u.parameters ≤ u.locals) (map unit_of (placed_routines (routines cenv order) n))
parameters_within cenv order n =
    units_so Enclosing cenv order (λ m. omega arith) (λ h b behind. omega arith) n (all order)
  where
    each : (h : Namespace) (ms : List MacroBody) → AllByRecursion (λ m. Of Enclosing (macro_routine cenv order h m)) ms
    each h [] = tt
    each h (m ∷ ms) = (omega arith, each h ms)

    all : (hs : List Namespace) → AllByRecursion
        (λ h. AllByRecursion (λ m. Of Enclosing (macro_routine cenv order h m)) (macros cenv.sources h)) hs
    all [] = tt
    all (h ∷ hs) = (each h (macros cenv.sources h), all hs)

-- If a routine has few parameters, their number fits its field.
abbrev Few : ℕ → ℕ → Type 0
Few parameters locals = parameters ≤ 200

pub parameters_few : (cenv : CompileEnv) (entry : Namespace) (rest : List Namespace) (n : ℕ)
    → AreFew cenv (entry ∷ rest)
    → AllByRecursion (λ u. u.parameters ≤ 200) (map unit_of (placed_routines (routines cenv (entry ∷ rest)) n))
parameters_few cenv entry rest n few =
    units_so Few cenv order (λ m. omega arith)
    (λ h b behind. either_of (λ (xs : List Text). length xs ≤ 200) (is_scoped cenv h b.name) (scopes cenv order h) []
    (few.0.names h).1 (omega arith)) n (all order few)
  where
    order : List Namespace
    order = entry ∷ rest

    each : (h : Namespace) (ms : List MacroBody) → AllByRecursion (λ m. length m.parameters ≤ 200) ms
        → AllByRecursion (λ m. Of Few (macro_routine cenv order h m)) ms
    each h [] g = tt
    each h (m ∷ ms) g = (omega (arith, g.0, length-map m.parameters (λ (p : Parameter). p.name)), each h ms g.1)

    all : (hs : List Namespace) → AllByRecursion (IsFew cenv order) hs
        → AllByRecursion (λ h. AllByRecursion (λ m. Of Few (macro_routine cenv order h m)) (macros cenv.sources h)) hs
    all [] g = tt
    all (h ∷ hs) g = (
      each h (macros cenv.sources h)
          (all_own cenv.sources (λ m. length m.parameters ≤ 200) h (macros cenv.sources h) _ g.0.macros),
      all hs g.1,
    )
