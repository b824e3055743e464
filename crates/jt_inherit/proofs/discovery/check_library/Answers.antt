use Rattle.jt_inherit.proofs.Vocabulary.{arith, rules}
use Rattle.jt_inherit.proofs.discovery.check_library.Goals as goal

pub returns-clause-kept : goal.returns-clause-kept
returns-clause-kept c = search (arith, rules)
