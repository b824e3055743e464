-- The invariants of the search for chains and libraries. They concern includes and imports, and the
-- chains and libraries that were followed. Only private clauses cite this module.
use Rattle.std.specs.Prelude.{◌≡◌, ℕ, ◌<◌, ◌≤◌, ◌⊎◌, false, Bool, IsTrue, List, [], ◌∷◌, ◌++◌, ◌||◌, length, map}
use Rattle.std.specs.Prelude.{filter, slice_get, string_bytes, Some, None}
use Rattle.std.specs.List.{AllByRecursion}
use Rattle.jt_graph.specs.Graph.{IsClosed, next_of}
use Rattle.jt_graph.specs.View.{graph_of}
use Rattle.jt_ast.specs.Texts.{among, repeated}
use Rattle.jt_ast.specs.Expressions.{Text}
use Rattle.jt_scan.specs.declared.options.Options.{Options}
use Rattle.jt_chains.specs.Along.{AreIndices, templates_at, along}
use Rattle.jt_chains.specs.Chain as chain
use Rattle.jt_chains.specs.Chain.{Template, a_chain, a_library, namespace_name, listed, sources_in, libraries_in}
use Rattle.jt_inherit.specs.Chains.{SourceTexts}
use Rattle.jt_inherit.specs.Findings.{IsNoMemory}
use Rattle.jt_inherit.specs.internal.Faults.{IsFaultOf}
use Rattle.jt_chains.specs.Names.{IsName}
use Rattle.jt_chains.specs.Needs.{Need, need_namespace, includes_along, library_need, needed}
use Rattle.jt_chains.specs.TemplateFiles.{namespace_view}
use Rattle.jt_chains.specs.Indices.{namespace_at}
use Rattle.jt_chains.specs.Rules.{max_chains, Asks, Reaches}
use Rattle.jt_inherit.specs.internal.Views.{its_files, namespaces_view}
use Rattle.jt_inherit.specs.internal.ExtendsPaths.{AreKnown, IsExtendsPath, names}
use Rattle.jt_inherit.specs.internal.Placing.{IsIncludedMore, IsOfNeed, any_tag}
use Rattle.jt_inherit.specs.declared.discovery.Discovery.{Discovery}
use Rattle.jt_inherit.specs.declared.including.FollowedPath.{FollowedPath}
use Rattle.jt_inherit.specs.declared.including.KeyedNeed.{KeyedNeed}
use Rattle.jt_inherit.specs.declared.error.ChainError.{ChainError}
use Rattle.jt_inherit.specs.declared.finding.ChainFinding.{ChainFinding}
use Rattle.jt_chains.specs.declared.chain.Namespace.{Namespace}
use Rattle.jt_inherit.specs.declared.error.ChainError.TheVariants as error

abbrev pub imports_along : List Template → List ℕ → List Need
imports_along ts = along ts (λ n b. map library_need (libraries_in b))

-- The includes come before the imports.
abbrev pub needs_along : List Template → List ℕ → List Need
needs_along ts is = includes_along ts is ++ imports_along ts is

-- An include or import that was kept, and the includes and imports of the templates on a path.
abbrev pub keyed_view : KeyedNeed → Need
keyed_view n =
    record { name = string_bytes n.namespace.name; ignoring = n.ignoring; library = n.namespace.is_library }

abbrev pub keyed_needs : List KeyedNeed → List Need
keyed_needs = map keyed_view

pub record HasNeeds (ts : List Template) (p : FollowedPath) : Type 0 where
  pub indices : AreIndices ts p.extends_path.items
  pub told : keyed_needs p.needs.items ≡ needs_along ts p.extends_path.items

-- An included or imported template is known, or it may be missing and is: its name is valid and has
-- no source.
abbrev pub IsMet : SourceTexts → List Text → Need → Type 0
IsMet given known n =
    IsTrue (among n.name known) ⊎ (IsTrue n.ignoring × IsName n.name × (given n.name ≡ None))

-- The error is one of the template; it is `Missing` only if the template may not be missing.
abbrev pub IsFaultAt : SourceTexts → Options → Need → ChainError → Type 0
IsFaultAt given options n e =
    IsFaultOf e given n.name options × (e ≡ error.Missing → n.ignoring ≡ false)

-- The includes and imports whose templates are known.
abbrev pub known_of : List Text → List Need → List Need
known_of known ns = filter (λ n. among n.name known) ns

-- The chains and libraries that includes and imports lead to, if their templates are known.
abbrev pub chosen : List Text → List Need → List chain.Namespace
chosen known ns = map need_namespace (known_of known ns)

-- A namespace occurs twice.
abbrev pub twice : List chain.Namespace → Bool
twice [] = false
twice (h ∷ hs) = listed h hs || twice hs

-- The names of the chains in a list of namespaces.
abbrev pub chains_of : List chain.Namespace → List Text
chains_of [] = []
chains_of (a_chain n ∷ hs) = n ∷ chains_of hs
chains_of (a_library n ∷ hs) = chains_of hs

-- Namespaces, each once, with at most `max_chains` chains among them.
pub record AreNamespaces (hs : List chain.Namespace) : Type 0 where
  pub once : twice hs ≡ false
  pub few : length (chains_of hs) ≤ max_chains

-- The new namespaces extend the old ones, each once, and have `names` at these numbers.
pub record AreNext (old new names : List chain.Namespace) (numbers : List ℕ) : Type 0 where
  pub more : List chain.Namespace
  pub grown : new ≡ old ++ more
  pub once : twice new ≡ false
  pub few : length (chains_of new) ≤ max_chains
  pub from : (h : chain.Namespace) → IsTrue (listed h new)
      → IsTrue (listed h old) ⊎ IsTrue (listed h names)
  pub numbered : map (slice_get new) numbers ≡ map Some names

-- The old namespaces and `names` have together more than 1,024 chains. The chain of the name is
-- among `names`.
pub record TooMany (old names : List chain.Namespace) (n : Text) : Type 0 where
  pub chains : List Text
  pub many : max_chains < length chains
  pub once : repeated chains ≡ false
  pub from : (m : Text) → IsTrue (among m chains)
      → IsTrue (listed (a_chain m) old) ⊎ IsTrue (listed (a_chain m) names)
  pub this_one : IsTrue (among n chains)
  pub led : IsTrue (listed (a_chain n) names)

-- The numbers are appended to the numbers before.
abbrev pub AddsNext : List chain.Namespace → List chain.Namespace → List chain.Namespace → List ℕ → List ℕ → Type 0
AddsNext old new names before after =
    (numbers : List ℕ) × (after ≡ before ++ numbers) × AreNext old new names numbers

abbrev pub IsNextFault : List chain.Namespace → List chain.Namespace → Text → ChainError → Type 0
IsNextFault old names n e = (e ≡ error.NoMemory) ⊎ ((e ≡ error.ChainTooLong) × TooMany old names n)

-- The finding is lack of memory, or that of a chain that is one too many.
abbrev pub IsNextFinding : List chain.Namespace → List chain.Namespace → List Template → ChainFinding → Type 0
IsNextFinding old names ts f = IsNoMemory f ⊎ ((n : Text) × TooMany old names n × IsIncludedMore ts n f)

-- The error of an append: lack of memory, or the namespace is a chain and the greatest number of
-- chains is reached.
abbrev pub IsPutFault : List chain.Namespace → chain.Namespace → Text → ChainError → Type 0
IsPutFault old h n e =
    (e ≡ error.NoMemory)
    ⊎ ((e ≡ error.ChainTooLong) × (length (chains_of old) ≡ max_chains) × (h ≡ a_chain n))

-- The namespaces that one include or import leads to, and those to which all on a path lead.
abbrev pub leads_to : List Template → KeyedNeed → List chain.Namespace
leads_to ts n = chosen (names ts) (keyed_view n ∷ [])

abbrev pub lead_to : List Template → FollowedPath → List chain.Namespace
lead_to ts p = chosen (names ts) (keyed_needs p.needs.items)

-- The path of a chain or library was read, and each template that it includes or imports was met;
-- `next` has the numbers of the namespaces that it leads to.
pub record IsFollowed (given : SourceTexts) (ts : List Template) (hs : List chain.Namespace) (h : chain.Namespace)
    (extends_path next : List ℕ) : Type 0 where
  pub led : IsExtendsPath ts h extends_path None
  pub met : AllByRecursion (IsMet given (names ts)) (needs_along ts extends_path)
  pub numbered :
      map (slice_get hs) next ≡ map Some (chosen (names ts) (needs_along ts extends_path))

-- The first namespaces were followed, one for each path.
pub record AreFollowed (given : SourceTexts) (ts : List Template) (hs : List chain.Namespace)
    (extends_paths next : List (List ℕ)) : Type 0 where
  pub few : length extends_paths ≤ length hs
  pub lens : length next ≡ length extends_paths
  pub each : (i : ℕ) → i < length extends_paths
      → IsFollowed given ts hs (namespace_at hs i) (next_of extends_paths i) (next_of next i)

-- A chain or library on one of the paths includes or imports the chain or library.
abbrev pub IsLedTo : List Template → List (List ℕ) → chain.Namespace → Type 0
IsLedTo ts extends_paths h =
    (i : ℕ) × (i < length extends_paths)
    × IsTrue (listed h (chosen (names ts) (needs_along ts (next_of extends_paths i))))

-- The templates that were read, and the chains and libraries that were found, the entry's chain
-- first.
pub record AreFound (given : SourceTexts) (options : Options) (root : Text) (ts : List Template)
    (hs : List chain.Namespace) (extends_paths next : List (List ℕ)) : Type 0 where
  pub known : AreKnown given options ts
  pub asked : (n : Text) → IsTrue (among n (names ts))
      → Asks (sources_in ts) options.autoescape (a_chain root) n
  pub first : slice_get hs 0 ≡ Some (a_chain root)
  pub once : twice hs ≡ false
  pub few : length (chains_of hs) ≤ max_chains
  pub reached : (h : chain.Namespace) → IsTrue (listed h hs)
      → Reaches (sources_in ts) options.autoescape (a_chain root) h
  pub led : (h : chain.Namespace) → IsTrue (listed h hs) → (h ≡ a_chain root) ⊎ IsLedTo ts extends_paths h
  pub followed : AreFollowed given ts hs extends_paths next

abbrev pub found_templates : Discovery → List Template
found_templates f = its_files f.store

abbrev pub found_namespaces : Discovery → List chain.Namespace
found_namespaces f = namespaces_view f.namespaces

abbrev pub found_paths : Discovery → List (List ℕ)
found_paths f = graph_of f.extends_paths.items

-- The name of the entry.
abbrev pub root_of : Discovery → Text
root_of f = namespace_name (namespace_at (found_namespaces f) 0)

abbrev pub IsFound : SourceTexts → Options → Discovery → Type 0
IsFound given options f =
    AreFound given options (root_of f) (found_templates f) (found_namespaces f) (found_paths f)
    (graph_of f.next.items)

-- Only the entry's chain was found.
pub record IsFirst (entry : Text) (f : Discovery) : Type 0 where
  pub namespaces : found_namespaces f ≡ a_chain entry ∷ []
  pub files : f.store.files.items ≡ []
  pub extends_paths : f.extends_paths.items ≡ []
  pub next : f.next.items ≡ []

-- A chain or library, and the indices of its templates, also by its number.
abbrev pub listed_view : Namespace → chain.Namespace × List ℕ
listed_view k = (namespace_view k, k.templates.items)

abbrev pub listed_at : Discovery → ℕ → chain.Namespace × List ℕ
listed_at f i = (namespace_at (found_namespaces f) i, next_of (found_paths f) i)

-- Each chain or library that was found was followed, and leads to ones that were found.
pub record AllFollowed (f : Discovery) : Type 0 where
  pub paths : length f.extends_paths.items ≡ length (found_namespaces f)
  pub next : length f.next.items ≡ length (found_namespaces f)
  pub closed : IsClosed (graph_of f.next.items)

-- The search from an entry is done.
pub record IsDone (given : SourceTexts) (options : Options) (entry : Text) (f : Discovery) : Type 0 where
  pub found : AreFound given options entry (found_templates f) (found_namespaces f) (found_paths f)
      (graph_of f.next.items)
  pub all : AllFollowed f

-- The error is one of an included or imported template; it is `Missing` only for a template that
-- may not be missing. The place is that of the tag that asks for the template.
pub record IsUnmetNeed (given : SourceTexts) (options : Options) (ts : List Template) (is : List ℕ)
    (f : ChainFinding) : Type 0 where
  pub name : Text
  pub asked : IsTrue (among name (needed (any_tag f.error) (needs_along ts is)))
  pub fault : IsFaultOf f.error given name options
  pub placed : IsOfNeed (templates_at ts is) name f.error f

abbrev pub IsUnmet : SourceTexts → Options → List Template → List ℕ → ChainFinding → Type 0
IsUnmet given options ts is f = IsNoMemory f ⊎ IsUnmetNeed given options ts is f
