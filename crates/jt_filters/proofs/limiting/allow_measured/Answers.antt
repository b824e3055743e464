use Rattle.std.proofs.Common.{ℕ, sym, subst, ◌∙◌}
use Rattle.std.specs.Prelude.{Result, Err, OnOk, IfErr}
use Rattle.jt_value.specs.declared.fault.Fault.{Fault}
use Rattle.jt_ops.specs.Limited.{limited_by, Answers}
use Rattle.jt_filters.specs.internal.Operands.{OfMeasured, IsAllowed}
use Rattle.jt_filters.proofs.ApplyCorrect.{faulty, allowed, refused}
use Rattle.jt_filters.proofs.limiting.allow_measured.Goals as goal

pub returns-in-Ok-clause-ok : goal.returns-in-Ok-clause-ok
returns-in-Ok-clause-ok c =
    subst (λ (m : Result (ℕ × ℕ) Fault). OnOk c.allow.result (OfMeasured m (IsAllowed c.args.limits))) (sym c.in-Ok.is)
    (allowed c.allow.result c.args.limits c.in-Ok.found c.allow.ensures.ok)

pub returns-in-Ok-clause-refused : goal.returns-in-Ok-clause-refused
returns-in-Ok-clause-refused c =
    subst (λ (m : Result (ℕ × ℕ) Fault). IfErr c.allow.result
    (λ x. OfMeasured m (λ wanted. Answers (Err x) (limited_by c.args.limits wanted)))) (sym c.in-Ok.is)
    (refused c.allow.result c.args.limits c.in-Ok.found c.allow.ensures.refused)

pub returns-in-Err-clause-refused : goal.returns-in-Err-clause-refused
returns-in-Err-clause-refused c = λ wanted e. faulty c.args.limits wanted c.in-Err.fault (sym c.in-Err.is ∙ e)
