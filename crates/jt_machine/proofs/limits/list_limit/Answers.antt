use Rattle.jt_machine.proofs.Vocabulary.{all_held, items_of}
use Rattle.std.proofs.Common.{arith}
use Rattle.jt_value.specs.Tree as tree
use Rattle.jt_machine.proofs.limits.list_limit.Goals as goal

pub returns : goal.returns
returns c = c.limit_by.ensures (tree.list (items_of (all_held c.args.entries.now))) (omega arith) (omega arith)
