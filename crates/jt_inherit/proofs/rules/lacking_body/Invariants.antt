use Rattle.jt_inherit.proofs.Vocabulary.{take, blocks_view}
use Rattle.jt_chains.specs.View.{its_templates}
use Rattle.jt_inherit.proofs.BodyRules.{AreGiven}
use Rattle.jt_inherit.proofs.rules.lacking_body.Given as goal

abbrev pub invariant-loop-index : goal.invariant-loop-index
invariant-loop-index l = AreGiven (take l.index (blocks_view (its_templates l.facts.chain.now) l.known.blocks.items))
