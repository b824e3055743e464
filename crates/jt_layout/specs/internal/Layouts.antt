-- The indices of names and namespaces in lists, the names of the chains and libraries of a chain, and the first
-- free numbers at one of them. Only private clauses cite this module.
use Rattle.std.specs.Prelude.{◌≡◌, ℕ, suc, ◌+◌, Bool, List, [], ◌∷◌, ◌++◌, length, flat_map, Option, Some, None}
use Rattle.std.specs.Prelude.{if◌then◌else◌, filter, Vec, ◌<◌, true, drop, get_or}
use Rattle.std.specs.declared.alloc.Global.{Global}
use Rattle.std.specs.BTreeMap.{BTreeMap}
use Rattle.std.specs.Str.{bytes_eq}
use denote.Ref.{Bor}
use Rattle.jt_ast.specs.Expressions.{Text}
use Rattle.jt_ast.specs.Texts.{ascending, texts}
use Rattle.jt_chains.specs.Chain.{Namespace, a_chain, a_library, same_namespace, BlockBody, MacroBody, listed}
use Rattle.jt_chains.specs.Includes.{included}
use Rattle.jt_chains.specs.Uses.{own_names}
use Rattle.jt_chains.specs.View.{chain_view, namespace_in, its_templates}
use Rattle.jt_chains.specs.declared.chain.Chain.{Chain}
use Rattle.jt_rules.specs.CompileEnv.{CompileEnv, cenv_of}
use Rattle.jt_semantics.specs.Layout.{names, names_in, Key, of_chain, of_macro, of_body, chain_keys, index_of, keys}
use Rattle.jt_semantics.specs.Layout.{unit, first_in, first_slot, default_in, default_index}
use Rattle.jt_semantics.specs.Resolve.{next_given}
use Rattle.jt_names.specs.Names.{value_in}
use Rattle.jt_layout.specs.NamespaceLayout.{IsLaid}
use Rattle.jt_layout.specs.declared.layout.FirstFree.{FirstFree}
use Rattle.jt_layout.specs.declared.namespace_layout.NamespaceLayout.{NamespaceLayout}

-- The chain or the library of a name.
abbrev pub namespace_named : Bool → Text → Namespace
namespace_named library x = if library then a_library x else a_chain x

-- The number of the first of these namespaces that is h; the namespaces are numbered from n.
abbrev pub first_namespace : Namespace → ℕ → List Namespace → Option ℕ
first_namespace h n [] = None
first_namespace h n (k ∷ ks) = if same_namespace k h then Some n else first_namespace h (suc n) ks

-- The names of a chain and of the chains that it leads to, which come after it.
abbrev pub all_names : CompileEnv → List Namespace → Namespace → List Text
all_names cenv behind h =
    ascending
    (own_names cenv.sources h ++ flat_map (names_in cenv behind) (included cenv.sources h))

-- The names that are stored for a chain, or none if none are stored.
abbrev pub texts_of : Option (Vec (Bor Text) Global) → List Text
texts_of None = []
texts_of (Some v) = texts v.items

abbrev pub names_at : BTreeMap (Bor Text) (Vec (Bor Text) Global) → Text → List Text
names_at m x = texts_of (value_in m x)

-- The pool index of the first default of each macro, from n on.
abbrev pub defaults_from : ℕ → List MacroBody → List ℕ
defaults_from n [] = []
defaults_from n (m ∷ ms) = n ∷ defaults_from (n + length m.parameters) ms

-- The body that `super()` continues with, for each of these bodies.
abbrev pub nexts : List (ℕ × BlockBody) → List (Option ℕ)
nexts [] = []
nexts (b ∷ bs) = next_given (filter (λ c. bytes_eq c.1.name b.1.name) bs) ∷ nexts bs

-- The chain or library of a routine.
abbrev pub namespace_of : Key → Namespace
namespace_of (of_chain n) = a_chain n
namespace_of (of_macro h x) = h
namespace_of (of_body h i) = h

-- The numbers are the first slot, unit and default index that no namespace before the remaining
-- ones uses.
pub record Stands (cenv : CompileEnv) (order left : List Namespace) (f : FirstFree) : Type 0 where
  pub slots : (h : Namespace) → listed h left ≡ true
      → first_slot cenv order h ≡ f.slot + first_in cenv order left h
  pub units : (k : Key) → listed (namespace_of k) left ≡ true
      → unit cenv order k ≡ f.unit + index_of k (flat_map (chain_keys cenv) left)
  pub defaults : (h : Namespace) (x : Text) → listed h left ≡ true
      → default_index cenv order h x ≡ f.default + default_in cenv order left h x
  pub all : length (keys cenv order) ≡ f.unit + length (flat_map (chain_keys cenv) left)

module _ (c : Chain) where
  abbrev pub its_cenv : CompileEnv
  its_cenv = cenv_of (chain_view c)

  -- The chains and libraries.
  abbrev pub its_order : List Namespace
  its_order = (chain_view c).order

  -- The names of the chain or library at an index.
  abbrev pub its_names : ℕ → List Text
  its_names i = names its_cenv its_order (namespace_in c i)

  -- The map has the names of each remaining chain, and no other entries.
  abbrev pub AreNames : List Namespace → BTreeMap (Bor Text) (Vec (Bor Text) Global) → Type 0
  AreNames left m = (x : Text) → names_at m x ≡ names_in its_cenv left (a_chain x)

  -- The numbers are the first free ones at the chain or library of an index.
  abbrev pub StandsAt : ℕ → FirstFree → Type 0
  StandsAt i f = Stands its_cenv its_order (drop i its_order) f

  -- The layout of the chain or library at an index, and the layouts of the first ones.
  abbrev pub IsLaidAt : ℕ → NamespaceLayout → Type 0
  IsLaidAt i l = IsLaid its_cenv its_order (its_templates c) (namespace_in c i) l

  abbrev pub AreLaid : List NamespaceLayout → Type 0
  AreLaid ls = (i : ℕ) (l : NamespaceLayout) → i < length ls → l ≡ get_or ls i l → IsLaidAt i l
