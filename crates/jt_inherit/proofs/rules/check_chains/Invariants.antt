use Rattle.jt_inherit.proofs.Vocabulary.{ℕ, ◌<◌}
use Rattle.jt_inherit.specs.internal.Breaking.{KeepsAt}
use Rattle.jt_inherit.proofs.rules.check_chains.Given as goal

abbrev pub invariant-loop-namespace : goal.invariant-loop-namespace
invariant-loop-namespace l = (i : ℕ) → i < l.namespace → KeepsAt l.facts.chain.now i
