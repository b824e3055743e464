use Rattle.std.proofs.Common.{◌≡◌, Ok, sym, subst, ap, ◌∙◌}
use Rattle.std.specs.Prelude.{IfOk, Result}
use Rattle.std.proofs.lemmas.Result.{err_from_is_err_and}
use Rattle.jt_value.specs.View.{view}
use Rattle.jt_value.specs.Tree.{Tree}
use Rattle.jt_value.specs.declared.fault.NoMemory.{NoMemory}
use Rattle.jt_value.specs.declared.value.Value.{Value}
use Rattle.jt_ops.specs.Limited.{NeedsMemory}
use Rattle.jt_ops.specs.declared.limits.OpError.{OpError}
use Rattle.jt_ops.proofs.limits.made.Goals as goal

pub returns : goal.returns
returns c =
    λ wanted t is payload shown. is ∙ ap (λ (u : Tree). Ok u)
    (sym (subst (λ (b : Result Value NoMemory). IfOk b (λ v. view v ≡ t)) c.in_ok-built.was shown))

pub returns-in_err-built : goal.returns-in_err-built
returns-in_err-built c = λ wanted t is payload shown.
    let p = err_from_is_err_and c.from_residual.result c.from_residual.ensures.1 in
    rw (p.1, p.2) (subst (λ (w : Result Tree OpError). NeedsMemory w) (sym is) payload)
