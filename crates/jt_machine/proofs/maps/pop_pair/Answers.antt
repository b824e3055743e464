use Rattle.std.proofs.Common.{refl}
use Rattle.jt_machine.proofs.maps.pop_pair.Goals as goal

pub returns-clause-some : goal.returns-clause-some
returns-clause-some c = λ es. rw (c.in_ok-key.ensures.some, c.in_ok-value.ensures.some, c.text_of_key.ensures) refl
