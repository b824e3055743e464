-- The meaning of the layouts of chains and libraries.
use Rattle.std.specs.Prelude.{◌≡◌, ℕ, ◌+◌, ◌<◌, List, [], ◌∷◌, map, drop, length, Option, Some, None, option_map}
use Rattle.std.specs.Prelude.{slice_get, get_or, filter, Bool, true, false, if◌then◌else◌}
use Rattle.std.specs.Str.{bytes_eq}
use Rattle.std.specs.Option.{is_some}
use Rattle.jt_ast.specs.Expressions.{Text}
use Rattle.jt_chains.specs.Chain.{Namespace, a_chain, a_library, listed, Template, BlockBody, macros, macro_of, given}
use Rattle.jt_chains.specs.Chain.{given_to, all_bodies}
use Rattle.jt_chains.specs.Named.{given_view}
use Rattle.jt_chains.specs.Parts.{macro_view, block_view}
use Rattle.jt_chains.specs.Indices.{namespace_at}
use Rattle.jt_chains.specs.View.{chain_view}
use Rattle.jt_chains.specs.declared.parts.Macro.{Macro}
use Rattle.jt_rules.specs.CompileEnv.{CompileEnv, cenv_of}
use Rattle.jt_ir.specs.Slots.{global}
use Rattle.jt_semantics.specs.Layout.{slot_in, globals, of_chain, of_macro, of_body, keys, names, numbered_of}
use Rattle.jt_semantics.specs.Layout.{numbered_bodies, first_slot, unit, default_index, block_parameters}
use Rattle.jt_semantics.specs.Resolve.{first_body, next_given}
use Rattle.jt_names.specs.Names.{value_in}
use Rattle.jt_ast.specs.Texts.{texts}
use Rattle.jt_layout.specs.declared.namespace_layout.NamespaceLayout.{NamespaceLayout}
use Rattle.jt_layout.specs.declared.namespace_tables.NamespaceTables.{NamespaceTables}

abbrev pub is_library : Namespace → Bool
is_library (a_chain n) = false
is_library (a_library n) = true

module _ (cenv : CompileEnv) (order : List Namespace) (templates : List Template) (namespace : Namespace)
    (layout : NamespaceLayout) where
  -- The macro of a name, by its index among the macros of the chain or library.
  pub record IsMacroAt (name : Text) (i : ℕ) : Type 0 where
    pub code : Macro
    pub found : slice_get layout.known.now.macros.items i ≡ Some code
    pub meant : macro_of name (macros cenv.sources namespace) ≡ Some (macro_view templates code)
    pub first_default :
        slice_get layout.defaults.items i ≡ Some (default_index cenv order namespace code.name.now)
    pub macro_unit : layout.macro_unit + i ≡ unit cenv order (of_macro namespace code.name.now)

  abbrev pub IsCalled : Text → Option ℕ → Type 0
  IsCalled name None = macro_of name (macros cenv.sources namespace) ≡ None
  IsCalled name (Some i) = IsMacroAt name i

  -- The layout of one chain or library.
  pub record IsLaid : Type 0 where
    pub kind : layout.is_library ≡ is_library namespace
    pub named : texts layout.names.items ≡ names cenv order namespace
    pub in_slots : (name : Text)
        → option_map global (value_in layout.slots.indices name) ≡ slot_in name (globals cenv order namespace)
    pub from : layout.first_slot ≡ first_slot cenv order namespace
    pub chain_unit : (n : Text) → namespace ≡ a_chain n → layout.unit ≡ unit cenv order (of_chain n)
    pub all_macros : map (macro_view templates) layout.known.now.macros.items ≡ macros cenv.sources namespace
    pub by_names : (name : Text) → IsCalled name (value_in layout.called.indices name)
    pub all_given : (name : Text)
        → option_map (given_view templates namespace) (value_in layout.known.now.given name)
        ≡ given_to name (given cenv.sources namespace)
    pub all_blocks :
        map (block_view templates) layout.known.now.blocks.items ≡ all_bodies cenv.sources cenv.escaping namespace
    pub body_units : (i : ℕ) → i < length layout.known.now.blocks.items
        → layout.body_unit + i ≡ unit cenv order (of_body namespace i)
    pub firsts : (name : Text) → value_in layout.known.now.first_bodies.indices name ≡ first_body
        (numbered_of cenv namespace name)
    pub nexts : (i : ℕ) (n : Option ℕ) → slice_get layout.next_bodies.items i ≡ Some n
        → (body : BlockBody) (rest : List (ℕ × BlockBody))
        → drop i (numbered_bodies cenv namespace) ≡ (i, body) ∷ rest
        → n ≡ next_given (filter (λ numbered. bytes_eq numbered.1.name body.name) rest)
    pub all_next : length layout.next_bodies.items ≡ length layout.known.now.blocks.items
    pub scoped : (name : Text)
        → block_parameters cenv order namespace name
        ≡ (if is_some (value_in layout.scoped.indices name) then texts layout.known.now.scope_names.items else [])

-- A chain or a library, by its index in the order.
abbrev pub IsNamespaceAt : List Namespace → Namespace → Option ℕ → Type 0
IsNamespaceAt order namespace None = listed namespace order ≡ false
IsNamespaceAt order namespace (Some i) = (i < length order) × (namespace_at order i ≡ namespace)

-- The layouts of all chains and libraries.
pub record IsLaidOut (tables : NamespaceTables) : Type 0 where
  pub inside : tables.namespace < length tables.namespaces.items
  pub all_namespaces : length tables.namespaces.items ≡ length (chain_view tables.chain.now).order
  pub each : (i : ℕ) (layout : NamespaceLayout) → i < length tables.namespaces.items
      → layout ≡ get_or tables.namespaces.items i layout
      → IsLaid (cenv_of (chain_view tables.chain.now)) (chain_view tables.chain.now).order
      (chain_view tables.chain.now).templates (namespace_at (chain_view tables.chain.now).order i) layout
  pub all_units :
      tables.units ≡ length (keys (cenv_of (chain_view tables.chain.now)) (chain_view tables.chain.now).order)
  pub chains : (name : Text)
      → IsNamespaceAt (chain_view tables.chain.now).order (a_chain name) (value_in tables.indices.indices name)
  pub libraries : (name : Text)
      → IsNamespaceAt (chain_view tables.chain.now).order (a_library name) (value_in tables.libraries.indices name)
