use Rattle.std.proofs.Common.{sym, subst}
use Rattle.std.specs.Prelude.{Result, Err}
use Rattle.jt_value.specs.declared.fault.ValueError.{ValueError}
use Rattle.jt_value.specs.declared.value.Value.{Value}
use Rattle.jt_ops.specs.declared.limits.OpError.{OpError}
use Rattle.jt_ops.specs.Limited.{limited_by, Answers}
use Rattle.jt_filters.specs.internal.Operands.{Builds}
use Rattle.jt_filters.proofs.ApplyCorrect.{built_value, built_error}
use Rattle.jt_filters.proofs.limiting.built.Goals as goal

pub returns-in-Ok : goal.returns-in-Ok
returns-in-Ok c = λ limits wanted fits made.
    built_value limits wanted c.in-Ok.value fits
    (subst (λ (r : Result Value ValueError). Builds wanted r) c.in-Ok.is made)

pub returns-in-Err : goal.returns-in-Err
returns-in-Err c = λ limits wanted fits made.
    subst (λ (x : OpError). Answers (Err x) (limited_by limits wanted)) (sym c.error_of.ensures)
    (built_error limits wanted c.in-Err.error fits
    (subst (λ (r : Result Value ValueError). Builds wanted r) c.in-Err.is made))
