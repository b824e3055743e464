use Rattle.jt_inherit.proofs.Vocabulary.{◌≡◌, ◌++◌, drop, all_uses, test_of, tags, tags_view, templates_at}
use Rattle.jt_chains.specs.View.{its_templates}
use Rattle.jt_inherit.proofs.tags.tags_at.Given as goal

abbrev pub invariant-loop-index : goal.invariant-loop-index
invariant-loop-index l =
    tags_view l.found.items
    ++ tags (test_of l.wanted)
    (all_uses (templates_at (its_templates l.facts.chain.now) (drop l.index-index l.indices)))
    ≡ tags (test_of l.wanted) (all_uses (templates_at (its_templates l.facts.chain.now) l.indices))
