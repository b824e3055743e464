use Rattle.jt_bind.proofs.{StaticEnv, ap}
use Rattle.jt_bind.proofs.inclusion.seen_by.Goals as goal

pub returns-else-scoped : goal.returns-else-scoped
returns-else-scoped c = λ s. rw c.if-scoped.false (ap (λ (z : StaticEnv). z.table) (c.outside.ensures s))
