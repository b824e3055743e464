use Rattle.jt_machine.proofs.Vocabulary.{view}
use Rattle.jt_machine.proofs.limits.exceeded_limit.Goals as goal

pub returns : goal.returns
returns c = c.limit_by.ensures (view c.args.value.now) c.size.ensures c.nesting.ensures
