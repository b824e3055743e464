use Rattle.jt_eval.specs.Tests.{test_named}
use Rattle.jt_eval.proofs.named.test_of.Goals as goal

pub returns : goal.returns
unfolding test_named
returns c = c.by_name.ensures.value
