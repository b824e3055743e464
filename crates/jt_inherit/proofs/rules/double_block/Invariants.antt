use Rattle.jt_inherit.proofs.Vocabulary.{◌≡◌, drop, any_double, templates_at}
use Rattle.jt_chains.specs.View.{its_templates}
use Rattle.jt_inherit.proofs.rules.double_block.Given as goal

abbrev pub invariant-loop-index : goal.invariant-loop-index
invariant-loop-index l =
    any_double l.facts.chain.now.autoescape (templates_at (its_templates l.facts.chain.now) l.indices)
    ≡ any_double l.facts.chain.now.autoescape
    (templates_at (its_templates l.facts.chain.now) (drop l.index-index l.indices))
