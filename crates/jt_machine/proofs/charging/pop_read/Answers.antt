use Rattle.jt_machine.proofs.Vocabulary.{view}
use Rattle.jt_machine.proofs.charging.pop_read.Goals as goal

pub charge_for-requires : goal.charge_for-requires
charge_for-requires c = (rw c.pop-value.ensures at c.requires.sized).0

pub returns-in-None-clause-read : goal.returns-in-None-clause-read
returns-in-None-clause-read c = λ go. rw c.pop-value.ensures (c.in-None.ensures.rest (go (view c.pop-value.result)))

pub returns-in-Some-clause-read : goal.returns-in-Some-clause-read
returns-in-Some-clause-read c = λ go. rw c.pop-value.ensures (c.in-Some.ensures.rest (go (view c.pop-value.result)))
