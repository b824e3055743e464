use Rattle.jt_bind.proofs.{absent, arith, rules, IfOk-weaker, emits_nothing}
use Rattle.jt_bind.proofs.resolver.Resolver.put_missing.Goals as goal

pub returns-then-ignore_missing : goal.returns-then-ignore_missing
returns-then-ignore_missing c = search (arith, rules, emits_nothing)

pub returns : goal.returns
returns c =
    IfOk-weaker c.put_print.result _ _
    (λ u h p. rw c.if-ignore_missing.false (h absent p p (c.absent.ensures p))) c.put_print.ensures
