use Rattle.jt_inherit.proofs.Vocabulary.{◌≡◌, false, take, repeated, texts}
use Rattle.jt_inherit.proofs.rules.repeated.Given as goal

abbrev pub invariant-loop-index : goal.invariant-loop-index
invariant-loop-index l = repeated (texts (take l.index l.names)) ≡ false
