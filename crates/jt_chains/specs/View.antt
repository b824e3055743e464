-- The view of a chain in contracts: texts and trees, without their memory.
use Rattle.std.specs.Prelude.{◌≡◌, ◌≤◌, ℕ, Bool, List, [], map, length, Result, IfOk}
use Rattle.std.specs.declared.alloc.AllocError.{AllocError}
use Rattle.std.specs.declared.alloc.Global.{Global}
use Rattle.std.specs.declared.vec.Vec.{Vec}
use Rattle.jt_chains.specs.Along.{along}
use Rattle.jt_chains.specs.Chain as chains
use Rattle.jt_chains.specs.Chain.{Sources, Namespace, Template, imports_in, sources_in, Text}
use Rattle.jt_chains.specs.TemplateFiles.{files_view, namespace_view}
use Rattle.jt_chains.specs.Indices.{namespace_at}
use Rattle.jt_chains.specs.declared.chain.Chain.{Chain}

-- The chain of an entry, with the chains and libraries that its includes and imports reach.
pub record Seen : Type 0 where
  -- The templates that were read, each once.
  pub templates : List Template
  -- The chains and libraries, each before the ones that it leads to; the entry's chain is the
  -- first.
  pub order : List Namespace
  -- Whether text outside `autoescape` tags is escaped.
  pub escaping : Bool
  -- Whether an undefined value is a fault where a value is required.
  pub strict : Bool

abbrev pub sources_of : Seen → Sources
sources_of chain = sources_in chain.templates

abbrev pub chain_view : Chain → Seen
chain_view chain =
    record {
      templates = files_view chain.templates.items;
      order = map namespace_view chain.namespaces.items;
      escaping = chain.autoescape;
      strict = chain.strict;
    }

-- The templates of a chain, and their sources.
abbrev pub its_templates : Chain → List Template
its_templates chain = files_view chain.templates.items

abbrev pub its_sources : Chain → Sources
its_sources chain = sources_in (its_templates chain)

-- The chain or library at an index.
abbrev pub namespace_in : Chain → ℕ → Namespace
namespace_in chain = namespace_at (chain_view chain).order

-- The result is empty if the index is out of range.
abbrev pub NoneBeyond : {A : Type 0} → Chain → ℕ → Result (Vec A Global) AllocError → Type 0
NoneBeyond chain number result = length chain.namespaces.items ≤ number → IfOk result (λ v. v.items ≡ [])

-- The names that the imports of the templates at some indices bind.
abbrev pub imports_along : Chain → List ℕ → List (Text × chains.Definition)
imports_along chain = along (its_templates chain) (λ n b. imports_in (its_sources chain) b)
