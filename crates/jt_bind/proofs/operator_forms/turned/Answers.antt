use Rattle.jt_bind.proofs.operator_forms.turned.Goals as goal

pub returns-then-negated : goal.returns-then-negated
returns-then-negated c = rw c.if-negated.true c.on_one.ensures
