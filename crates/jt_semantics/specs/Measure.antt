-- The measure of small chains, and upper bounds of a program.
use Rattle.std.specs.Prelude.{ℕ, ◌+◌, ◌*◌, ◌≤◌, max, List, length}
use Rattle.std.specs.List.{AllByRecursion}
use Rattle.jt_ast.specs.Expressions.{Text}
use Rattle.jt_chains.specs.Weights.{chains_weight}
use Rattle.jt_chains.specs.Chain.{Sources, Namespace, a_library, macros, Definition, one_macro, library, given}
use Rattle.jt_rules.specs.CompileEnv.{CompileEnv}
use Rattle.jt_semantics.specs.Layout.{names, scopes, block_parameters}
use Rattle.jt_ir.specs.Slots.{Program}
use Rattle.jt_ir.specs.Size.{body_height, routines_size}

-- ---- Small numbers: of a chain's names, of the parameters of its macros, and of the parameters of
-- filters after their inputs

-- Holds if a macro, or each macro of a library, has at most q parameters.
abbrev pub GivenFew : Sources → ℕ → Definition → Type 0
GivenFew sources q (one_macro h m) = length m.parameters ≤ q
GivenFew sources q (library n) =
    AllByRecursion (λ m. length m.parameters ≤ q) (macros sources (a_library n))

-- Holds if a chain has at most 200 names, and its scopes bind at most 200 names.
abbrev pub HasFewNames : CompileEnv → List Namespace → Namespace → Type 0
HasFewNames cenv order namespace =
    (length (names cenv order namespace) ≤ 200) × (length (scopes cenv order namespace) ≤ 200)

pub record IsFew (cenv : CompileEnv) (order : List Namespace) (h : Namespace) : Type 0 where
  pub names : (k : Namespace) → HasFewNames cenv order k
  pub macros : AllByRecursion (λ g. GivenFew cenv.sources 200 g.1) (given cenv.sources h)
  pub filters : (f : ℕ) → length (cenv.filters.parameters f) ≤ 3

-- Holds if no macro that a chain can call, and no block of it, has more than q parameters, and no
-- filter more than 3.
pub record HasAtMost (cenv : CompileEnv) (order : List Namespace) (q : ℕ) (h : Namespace) : Type 0 where
  pub macros : AllByRecursion (λ g. GivenFew cenv.sources q g.1) (given cenv.sources h)
  pub blocks : (x : Text) → length (block_parameters cenv order h x) ≤ q
  pub filters : (f : ℕ) → length (cenv.filters.parameters f) ≤ 3

-- ---- The bounds of a program whose chains are few: 100 instructions for each token and one for
-- each chain, and half an entry for each token

abbrev pub AreFew : CompileEnv → List Namespace → Type 0
AreFew cenv order = AllByRecursion (IsFew cenv order) order

pub record IsSized (cenv : CompileEnv) (order : List Namespace) (p : Program) : Type 0 where
  pub instructions :
      routines_size p.routines ≤ 100 * chains_weight cenv.sources order + length order
  pub entries :
      AllByRecursion (λ r. 2 * body_height r.body ≤ max 2 (chains_weight cenv.sources order))
      p.routines
  -- The pool has undefined, and at most one constant for each token.
  pub constants : length p.pool ≤ 1 + chains_weight cenv.sources order
  pub units : length p.routines ≤ chains_weight cenv.sources order + length order
  pub names : length p.names ≤ 200
  pub globals : p.globals ≤ 200 * length order
  pub locals : AllByRecursion (λ r. r.locals ≤ 200 + chains_weight cenv.sources order) p.routines
