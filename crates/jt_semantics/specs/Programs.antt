-- The program of a chain.
use Rattle.std.specs.Prelude.{ℕ, ◌+◌, List, [], ◌∷◌, ◌++◌, length, map, flat_map, filter}
use Rattle.std.specs.Str.{bytes_eq}
use Rattle.jt_value.specs.Tree.{Tree}
use Rattle.jt_chains.specs.Chain.{Namespace, a_chain, a_library, BlockBody, macros}
use Rattle.jt_rules.specs.CompileEnv.{CompileEnv}
use Rattle.jt_semantics.specs.Layout.{names, numbered_bodies, shared}
use Rattle.jt_ir.specs.Slots.{Routine, Program}
use Rattle.jt_ir.specs.Pool.{Constant, routines_values, placed_routines}
use Rattle.jt_semantics.specs.Resolve.{chain_routine, macro_routine, body_routine}

-- The order lists the chains and libraries, the entry first. Each one precedes the namespaces that
-- it leads to.
module _ (cenv : CompileEnv) (order : List Namespace) where
  -- The routines of bodies, each with the later bodies of its block.
  abbrev pub body_routines : Namespace → List (ℕ × BlockBody) → List (Routine Constant)
  body_routines namespace [] = []
  body_routines namespace (b ∷ bs) =
      body_routine cenv order namespace b.1 (filter (λ c. bytes_eq c.1.name b.1.name) bs)
      ∷ body_routines namespace bs

  -- The routine of a chain itself. A library has no such routine, since it is never rendered.
  abbrev pub entry_routines : Namespace → List (Routine Constant)
  entry_routines (a_chain n) = chain_routine cenv order n ∷ []
  entry_routines (a_library n) = []

  abbrev pub chain_routines : Namespace → List (Routine Constant)
  chain_routines namespace =
      entry_routines namespace
      ++ (map (macro_routine cenv order namespace) (macros cenv.sources namespace)
      ++ body_routines namespace (numbered_bodies cenv namespace))

  abbrev pub routines : List (Routine Constant)
  routines = flat_map chain_routines order

  -- The pool: the shared values, followed by the values of the routines.
  abbrev pub pool : List Tree
  pool = shared cenv order ++ routines_values routines

  abbrev pub count_globals : List Namespace → ℕ
  count_globals [] = 0
  count_globals (namespace ∷ rest) = length (names cenv order namespace) + count_globals rest

  abbrev pub program : Namespace → Program
  program entry =
      record {
        names = names cenv order entry;
        globals = count_globals order;
        pool = pool;
        routines = placed_routines routines (length (shared cenv order));
      }
