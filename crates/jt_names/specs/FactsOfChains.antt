-- What is known of a chain and of the chains and libraries that it reaches.
use Rattle.std.specs.Prelude.{◌≡◌, ◌<◌, ℕ, true, List, length, map, flat_map, option_map, get_or}
use Rattle.jt_ast.specs.Texts.{ascending, texts}
use Rattle.jt_chains.specs.Chain.{macros, given, given_to, all_bodies, templates, Text}
use Rattle.jt_chains.specs.Includes.{needs_in}
use Rattle.jt_chains.specs.Named.{given_view, names_view}
use Rattle.jt_chains.specs.Parts.{macros_view, blocks_view}
use Rattle.jt_chains.specs.Uses as uses
use Rattle.jt_chains.specs.View.{its_sources, its_templates, namespace_in}
use Rattle.jt_chains.specs.declared.chain.Chain.{Chain}
use Rattle.jt_names.specs.FactsOfTemplates.{AreKnown}
use Rattle.jt_names.specs.Names.{value_in, AreIndices}
use Rattle.jt_names.specs.declared.facts.NamespaceFacts.{NamespaceFacts}
use Rattle.jt_names.specs.declared.templates.TemplateFacts.{TemplateFacts}

-- The facts are those of the chain or library at an index.
pub record IsKnown (c : Chain) (i : ℕ) (f : NamespaceFacts) : Type 0 where
  pub names : texts f.names.items ≡ ascending (uses.own_names (its_sources c) (namespace_in c i))
  pub scope_names : texts f.scope_names.items ≡ uses.scope_names (its_sources c) (namespace_in c i)
  pub all_macros : macros_view (its_templates c) f.macros.items ≡ macros (its_sources c) (namespace_in c i)
  pub all_defined : names_view (its_templates c) (namespace_in c i) f.defined.items
      ≡ given (its_sources c) (namespace_in c i)
  pub all_given : (x : Text) → option_map (given_view (its_templates c) (namespace_in c i)) (value_in f.given x)
      ≡ given_to x (given (its_sources c) (namespace_in c i))
  pub all_blocks : blocks_view (its_templates c) f.blocks.items
      ≡ all_bodies (its_sources c) c.autoescape (namespace_in c i)
  pub first_bodies :
      AreIndices 0 (map (λ b. b.name) (all_bodies (its_sources c) c.autoescape (namespace_in c i)))
      f.first_bodies.indices
  pub all_includes : texts f.includes.items
      ≡ flat_map (λ t. needs_in true t.body) (templates (its_sources c) (namespace_in c i))

-- The facts are those of the first chains and libraries, in their order.
abbrev pub EachKnown : Chain → List NamespaceFacts → Type 0
EachKnown c fs = (i : ℕ) (f : NamespaceFacts) → i < length fs → f ≡ get_or fs i f → IsKnown c i f

-- The facts are those of the chain's templates, and of all chains and libraries that it reaches.
pub record AllKnown (c : Chain) (ts : List TemplateFacts) (fs : List NamespaceFacts) : Type 0 where
  pub templates : AreKnown c ts
  pub all : length fs ≡ length c.namespaces.items
  pub each : EachKnown c fs
