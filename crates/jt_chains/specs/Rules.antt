-- The static rules of chains: the meaning of each refusal, by sources and an entry.
use Rattle.std.specs.Prelude.{◌≡◌, ℕ, suc, ◌<◌, Bool, true, false, not, ◌&&◌, ◌||◌, ◌==◌, ◌⊎◌, IsTrue, List, [], ◌∷◌}
use Rattle.std.specs.Prelude.{◌++◌, map, flat_map, length, Some, nat_lt}
use Rattle.std.specs.Option.{is_some, is_none}
use Rattle.std.specs.List.{list_any}
use Rattle.jt_chains.specs.Names.{IsName}
use Rattle.jt_ast.specs.Statements.{import_from, Body, end, stmt}
use Rattle.jt_chains.specs.Chain.{Sources, Namespace, a_chain, a_library, listed, names_up, max_templates, templates}
use Rattle.jt_chains.specs.Chain.{BlockBody, blocks_in, all_bodies, bodies, from_given, macros, public_macro, given}
use Rattle.jt_chains.specs.Chain.{libraries, is_a_library, Text}
use Rattle.jt_ast.specs.Texts.{among, repeated}
use Rattle.jt_chains.specs.Includes.{included, needs_in}
use Rattle.jt_chains.specs.Supers.{calls_super}

-- The greatest number of chains that an entry reaches, its own included.
abbrev pub max_chains : ℕ
max_chains = 1024

abbrev pub is_required : List BlockBody → Bool
is_required [] = false
is_required (body ∷ rest) = body.required

abbrev pub is_empty : {A : Type 0} → List A → Bool
is_empty [] = true
is_empty (x ∷ xs) = false

-- One of these bodies calls `super()`, and each body after it, if any, is required.
abbrev pub lacks_super : List BlockBody → Bool
lacks_super [] = false
lacks_super (body ∷ rest) = (calls_super body.body && is_empty (from_given rest)) || lacks_super rest

-- ---- libraries

module _ (sources : Sources) where
  -- The library of this name does not offer all of these macros to importers.
  abbrev pub lacks_one : Text → List (Text × Text) → Bool
  lacks_one library [] = false
  lacks_one library (first ∷ rest) =
      (is_a_library (sources library) && is_none (public_macro first.0 (macros sources (a_library library))))
      || lacks_one library rest

  abbrev pub lacks_macros : Body → Bool
  lacks_macros end = false
  lacks_macros (stmt (import_from line library macro_names) rest) = lacks_one library macro_names || lacks_macros rest
  lacks_macros (stmt first rest) = lacks_macros rest

module _ (sources : Sources) (escaping : Bool) where
  -- The names on the path to the root, at most one more than a chain may have; for a library, its
  -- own name.
  abbrev pub extends_path : Namespace → List Text
  extends_path (a_chain name) = names_up sources (suc max_templates) (Some name)
  extends_path (a_library name) = name ∷ []

  -- The requested names: the names on the path to the root, the included ones that may not be
  -- missing, and the libraries. If `all` is true, every included name is requested.
  abbrev pub asked : Bool → Namespace → List Text
  asked all namespace =
      extends_path namespace
      ++ (flat_map (λ file. needs_in all file.body) (templates sources namespace) ++ libraries sources namespace)

  -- A chain or library is another one, or reaches it by includes and imports.
  pub data Reaches : Namespace → Namespace → Type 0 where
    here : {namespace : Namespace} → Reaches namespace namespace
    through : {namespace next target : Namespace} → IsTrue (listed next (included sources namespace))
        → Reaches next target → Reaches namespace target

  -- The property holds of a chain or library that the entry reaches.
  abbrev pub Somewhere : Namespace → (Namespace → Type 0) → Type 0
  Somewhere entry P = (namespace : Namespace) × Reaches entry namespace × P namespace

  -- A reached chain or library requests the name, even if only where it may be missing.
  abbrev pub Asks : Namespace → Text → Type 0
  Asks entry name = Somewhere entry (λ namespace. IsTrue (among name (asked true namespace)))

  -- The path to the root ends within 64 templates, and each of them has a source.
  abbrev pub is_whole : Namespace → Bool
  is_whole namespace =
      not (repeated (extends_path namespace))
      && (nat_lt (length (extends_path namespace)) (suc max_templates)
      && not (list_any (λ name. is_none (sources name)) (extends_path namespace)))

  -- The property holds of a whole chain or library that the entry reaches.
  abbrev pub InSomeChain : Namespace → (Namespace → Bool) → Type 0
  InSomeChain entry test = Somewhere entry (λ namespace. IsTrue (is_whole namespace && test namespace))

  -- C1: a requested name has no source.
  abbrev pub Missing : Namespace → Type 0
  Missing entry =
      Somewhere entry (λ namespace. IsTrue (list_any (λ name. is_none (sources name)) (asked false namespace)))

  -- C2: a requested name is not valid for a template.
  abbrev pub BadName : Namespace → Type 0
  BadName entry =
      Somewhere entry (λ namespace. (name : Text) × IsTrue (among name (asked true namespace)) × (IsName name → ⊥))

  -- C3: a name occurs twice on the path to the root.
  abbrev pub ExtendsCycle : Namespace → Type 0
  ExtendsCycle entry =
      Somewhere entry (λ namespace.
      (name : Text) × (namespace ≡ a_chain name) × (count : ℕ) × IsTrue (repeated (names_up sources count (Some name))))

  -- C4: the first 65 names on the path to the root differ, or more than 1,024 chains are reached.
  abbrev pub ChainTooLong : Namespace → Type 0
  ChainTooLong entry =
      Somewhere entry
      (λ namespace.
      IsTrue ((length (extends_path namespace) == suc max_templates) && not (repeated (extends_path namespace))))
      ⊎ ((names : List Text)
      × (max_chains < length names)
      × IsTrue (not (repeated names))
      × ((name : Text) → IsTrue (among name names) → Reaches entry (a_chain name)))

  -- C5: a template has two blocks of one name.
  abbrev pub DoubleBlock : Namespace → Type 0
  DoubleBlock entry =
      Somewhere entry (λ namespace.
      IsTrue (list_any (λ file. repeated (map (λ b. b.name) (blocks_in file.name file.body escaping)))
      (templates sources namespace)))

  -- C6: the nearest body of a block is a required one.
  abbrev pub RequiredNotGiven : Namespace → Type 0
  RequiredNotGiven entry =
      InSomeChain entry (λ namespace.
      list_any (λ b. is_required (bodies sources escaping namespace b.name))
      (all_bodies sources escaping namespace))

  -- C7: a body calls `super()` and each body after it, if any, is required.
  abbrev pub NoSuper : Namespace → Type 0
  NoSuper entry =
      InSomeChain entry (λ namespace.
      list_any (λ b. lacks_super (bodies sources escaping namespace b.name))
      (all_bodies sources escaping namespace))

  -- C8: a chain includes one that reaches it again, by itself or in the macros of a library.
  abbrev pub IncludeCycle : Namespace → Type 0
  IncludeCycle entry =
      Somewhere entry
      (λ namespace. (next : Namespace) × IsTrue (listed next (included sources namespace)) × Reaches next namespace)

  -- C9: a name occurs twice in a chain or library among its macros and the names that imports bind.
  abbrev pub MacroTwice : Namespace → Type 0
  MacroTwice entry =
      InSomeChain entry (λ namespace. repeated (map (λ definition. definition.0) (given sources namespace)))

  -- C11: `from` names a macro that the library does not offer to importers.
  abbrev pub NoMacro : Namespace → Type 0
  NoMacro entry =
      Somewhere entry (λ namespace.
      (name : Text)
      × (namespace ≡ a_chain name)
      × IsTrue (list_any (λ file. lacks_macros sources file.body) (templates sources namespace)))

  -- C12: an imported template holds something other than macros.
  abbrev pub NotALibrary : Namespace → Type 0
  NotALibrary entry =
      Somewhere entry (λ namespace.
      (name : Text)
      × (namespace ≡ a_library name)
      × IsTrue (is_some (sources name) && not (is_a_library (sources name))))

-- The entry breaks no rule of chains.
pub record KeepsRules (sources : Sources) (escaping : Bool) (entry : Namespace) : Type 0 where
  pub missing : Missing sources escaping entry → ⊥
  pub bad_name : BadName sources escaping entry → ⊥
  pub extends_cycle : ExtendsCycle sources escaping entry → ⊥
  pub too_long : ChainTooLong sources escaping entry → ⊥
  pub double_block : DoubleBlock sources escaping entry → ⊥
  pub required_not_given : RequiredNotGiven sources escaping entry → ⊥
  pub no_super : NoSuper sources escaping entry → ⊥
  pub include_cycle : IncludeCycle sources escaping entry → ⊥
  pub macro_twice : MacroTwice sources escaping entry → ⊥
  pub no_macro : NoMacro sources escaping entry → ⊥
  pub not_a_library : NotALibrary sources escaping entry → ⊥
