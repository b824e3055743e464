-- The layout of chains and libraries in a program: slots of globals, routines, and the first values
-- of the pool.
use Rattle.std.specs.Prelude.{ℕ, suc, ◌+◌, ◌==◌, ◌&&◌, Bool, false, List, [], ◌∷◌, ◌++◌, length, map, flat_map, filter}
use Rattle.std.specs.Prelude.{Option, Some, None, if◌then◌else◌}
use Rattle.std.specs.List.{list_any}
use Rattle.std.specs.Str.{bytes_eq}
use Rattle.jt_value.specs.Tree as tree
use Rattle.jt_value.specs.Tree.{Tree}
use Rattle.jt_ast.specs.Texts.{ascending}
use Rattle.jt_ast.specs.Expressions.{Text}
use Rattle.jt_chains.specs.Chain.{Namespace, a_chain, a_library, same_namespace, listed, BlockBody, all_bodies}
use Rattle.jt_chains.specs.Chain.{MacroBody, macros}
use Rattle.jt_eval.specs.Filters.{default_value}
use Rattle.jt_rules.specs.CompileEnv.{CompileEnv}
use Rattle.jt_chains.specs.Uses.{own_names, scope_names}
use Rattle.jt_chains.specs.Includes.{included}
use Rattle.jt_ir.specs.Slots.{Slot, global}

-- The slot of each visible name, the innermost one first.
abbrev pub Table : Type 0
Table = List (Text × Slot)

abbrev pub slot_in : Text → Table → Option Slot
slot_in x [] = None
slot_in x (b ∷ bs) = if bytes_eq b.0 x then Some b.1 else slot_in x bs

-- The table of names in consecutive globals from n on.
abbrev pub globals_from : ℕ → List Text → Table
globals_from n [] = []
globals_from n (x ∷ xs) = (x, global n) ∷ globals_from (suc n) xs

-- The members of a list, numbered from n on.
abbrev pub counted_from : {A : Type 0} → ℕ → List A → List (ℕ × A)
counted_from n [] = []
counted_from n (x ∷ xs) = (n, x) ∷ counted_from (suc n) xs

-- The source of a routine: a chain, a macro of a chain or a library, or a block's body. The body
-- has its index among all bodies of its chain.
pub data Key : Type 0 where
  of_chain : Text → Key
  of_macro : Namespace → Text → Key
  of_body : Namespace → ℕ → Key

abbrev pub same_key : Key → Key → Bool
same_key (of_chain a) (of_chain b) = bytes_eq a b
same_key (of_macro a x) (of_macro b y) = same_namespace a b && bytes_eq x y
same_key (of_body a i) (of_body b j) = same_namespace a b && (i == j)
same_key _ _ = false

abbrev pub index_of : Key → List Key → ℕ
index_of k [] = 0
index_of k (j ∷ js) = if same_key j k then 0 else suc (index_of k js)

-- The names that are stored in globals: all names of a chain, and no name of a library.
abbrev pub in_globals : Namespace → List Text → List Text
in_globals (a_chain n) xs = xs
in_globals (a_library n) xs = []

-- The value of each parameter of the macros if no argument is given.
abbrev pub defaults_of : List MacroBody → List Tree
defaults_of ms = flat_map (λ m. map (λ p. default_value p.default) m.parameters) ms

-- The index of a macro's first parameter in `defaults_of`.
abbrev pub first_default : Text → List MacroBody → ℕ
first_default x [] = 0
first_default x (m ∷ ms) = if bytes_eq m.name x then 0 else length m.parameters + first_default x ms

module _ (cenv : CompileEnv) where
  -- The names of a chain and of the chains that it includes, to which it passes them. Each chain
  -- precedes the chains that it includes. A library has no globals.
  abbrev pub names_in : List Namespace → Namespace → List Text
  names_in [] namespace = []
  names_in (first ∷ rest) namespace =
      if same_namespace first namespace
      then in_globals namespace (ascending
      (own_names cenv.sources namespace ++ flat_map (names_in rest) (included cenv.sources namespace)))
      else names_in rest namespace

  -- All bodies of a chain with their indices.
  abbrev pub numbered_bodies : Namespace → List (ℕ × BlockBody)
  numbered_bodies namespace = counted_from 0 (all_bodies cenv.sources cenv.escaping namespace)

  abbrev pub numbered_of : Namespace → Text → List (ℕ × BlockBody)
  numbered_of namespace x = filter (λ b. bytes_eq b.1.name x) (numbered_bodies namespace)

  -- True if a tag of the block has `scoped`.
  abbrev pub is_scoped : Namespace → Text → Bool
  is_scoped namespace x =
      list_any (λ b. b.scoped && bytes_eq b.name x) (all_bodies cenv.sources cenv.escaping namespace)

  -- The key of a chain itself. A library has no such key, since it is never rendered.
  abbrev pub entry_keys : Namespace → List Key
  entry_keys (a_chain n) = of_chain n ∷ []
  entry_keys (a_library n) = []

  abbrev pub chain_keys : Namespace → List Key
  chain_keys namespace =
      entry_keys namespace
      ++ (map (λ m. of_macro namespace m.name) (macros cenv.sources namespace)
      ++ map (λ b. of_body namespace b.0) (numbered_bodies namespace))

  module _ (order : List Namespace) where
    abbrev pub names : Namespace → List Text
    names namespace = names_in order namespace

    -- The first slot of a chain's globals.
    abbrev pub first_in : List Namespace → Namespace → ℕ
    first_in [] namespace = 0
    first_in (first ∷ rest) namespace =
        if same_namespace first namespace then 0 else length (names first) + first_in rest namespace

    abbrev pub first_slot : Namespace → ℕ
    first_slot namespace = first_in order namespace

    abbrev pub globals : Namespace → Table
    globals namespace = globals_from (first_slot namespace) (names namespace)

    -- The names that the scopes of a chain bind.
    abbrev pub scopes : Namespace → List Text
    scopes namespace = if listed namespace order then scope_names cenv.sources namespace else []

    -- The parameters of a block's bodies: the names that the chain's scopes bind, if a tag of the
    -- block has `scoped`. A name that no scope binds is a global at each tag.
    abbrev pub block_parameters : Namespace → Text → List Text
    block_parameters namespace x = if is_scoped namespace x then scopes namespace else []

    abbrev pub keys : List Key
    keys = flat_map chain_keys order

    abbrev pub unit : Key → ℕ
    unit k = index_of k keys

    -- The first values of the pool: undefined, and the defaults of all macros.
    abbrev pub shared : List Tree
    shared = tree.undefined ∷ flat_map (λ h. defaults_of (macros cenv.sources h)) order

    abbrev pub default_in : List Namespace → Namespace → Text → ℕ
    default_in [] namespace x = 0
    default_in (first ∷ rest) namespace x =
        if same_namespace first namespace
        then first_default x (macros cenv.sources namespace)
        else length (defaults_of (macros cenv.sources first)) + default_in rest namespace x

    -- The index in the pool of the default of a macro's first parameter.
    abbrev pub default_index : Namespace → Text → ℕ
    default_index namespace x = suc (default_in order namespace x)
