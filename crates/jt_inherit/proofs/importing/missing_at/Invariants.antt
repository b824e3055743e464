use Rattle.jt_inherit.proofs.Vocabulary.{◌≡◌, drop, any_lacks_macros, templates_at}
use Rattle.jt_chains.specs.View.{its_sources, its_templates}
use Rattle.jt_inherit.proofs.importing.missing_at.Given as goal

abbrev pub invariant-loop-index : goal.invariant-loop-index
invariant-loop-index l =
    any_lacks_macros (its_sources l.chain) (templates_at (its_templates l.chain) l.indices)
    ≡ any_lacks_macros (its_sources l.chain)
    (templates_at (its_templates l.chain) (drop l.index-index l.indices))
