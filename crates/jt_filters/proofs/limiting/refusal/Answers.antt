use Rattle.jt_filters.proofs.ApplyCorrect.{needs_memory}
use Rattle.jt_filters.proofs.limiting.refusal.Goals as goal

pub returns-in-Ok : goal.returns-in-Ok
returns-in-Ok c = λ wanted e payload. needs_memory c.args.limits wanted (c.in-Ok.ensures.ok wanted e) payload

pub returns-in-Err : goal.returns-in-Err
returns-in-Err c = λ wanted e payload. c.in-Err.ensures.refused wanted e
