-- What is known of a template when its tags are noted. Only private clauses cite this module.
use Rattle.std.specs.Prelude.{◌≡◌, ℕ, List, map, flat_map, Option, Some, None, option_copied, option_map}
use Rattle.jt_chains.specs.Chain.{blocks_in, names_up, template}
use Rattle.jt_chains.specs.View.{Seen, sources_of}
use Rattle.jt_value.specs.ContextView.{pairs_of}
use Rattle.jt_names.specs.Names.{AreIndices}
use Rattle.jt_names.specs.declared.index.NameIndex.{NameIndex}
use Rattle.jt_notes.specs.Notes.{Facts, Text}
use Rattle.jt_notes.specs.declared.noting.Known.{Known}

-- The index has the names above a template, if it extends another one.
abbrev pub AreAbove : Option NameIndex → Option (List Text) → Type 0
AreAbove (Some index) (Some names) = AreIndices 0 names index.indices
AreAbove None None = Unit {0}
AreAbove index names = ⊥

-- What is known has these facts.
pub record AreFacts (known : Known) (f : Facts) : Type 0 where
  pub bound : AreIndices 0 f.bound known.bound.now.indices
  pub context : f.context ≡ option_map pairs_of (option_copied known.context)
  pub above : AreAbove known.above f.above

-- The names of the blocks of the first templates on the path from a name to the root.
abbrev pub blocks_from : Seen → ℕ → Option Text → List Text
blocks_from chain count start =
    map (λ b. b.name)
    (flat_map (λ t. blocks_in t.name t.body chain.escaping)
    (flat_map (λ n. template n (sources_of chain n)) (names_up (sources_of chain) count start)))
