use Rattle.std.proofs.Common.{◌≡◌, suc, ◌+◌, ◌∷◌, length, subst, ap}
use Rattle.std.proofs.lemmas.Result.{err_from_is_err_and}
use Rattle.std.specs.Prelude.{IfOk}
use Rattle.jt_ast.specs.Expressions.{levels}
use Rattle.jt_ast.specs.ExpressionView.{expr_view}
use Rattle.jt_ast.specs.Statements.{end}
use Rattle.jt_ast.specs.StatementView.{branches_view}
use Rattle.jt_expr.specs.Grammar.{Spells, whole}
use Rattle.jt_parse.specs.internal.Gives.{GivesOnly}
use Rattle.jt_parse.specs.internal.Reading.{in_branch, state}
use Rattle.jt_parse.proofs.TagSteps.{only_ok, only_refused}
use Rattle.jt_parse.proofs.open_stmts.opened_branch.Goals as goal

pub returns-in_err-condition : goal.returns-in_err-condition
returns-in_err-condition c =
    λ before opening n ts fs done is g.
    let p = err_from_is_err_and c.from_residual.result c.from_residual.ensures.1 in
    rw (p.1, p.2)
    (only_refused expr_view (λ e. Spells whole e ts) (λ e. suc (length fs) + levels e) n
    (λ e. state end (in_branch before done c.args.line e ∷ fs)) _
    (subst (GivesOnly expr_view (λ e. Spells whole e ts) (λ e. suc (length fs) + levels e) n) c.in_err-condition.was g))

pub returns : goal.returns
returns c =
    λ before opening n ts fs done is g.
    only_ok expr_view (λ e. Spells whole e ts) (λ e. suc (length fs) + levels e) n
    (λ e. state end (in_branch before done c.args.line e ∷ fs)) c.in_ok-condition.condition _
    (subst (GivesOnly expr_view (λ e. Spells whole e ts) (λ e. suc (length fs) + levels e) n) c.in_ok-condition.was g)
    (ap (λ bs. state end (in_branch before bs c.args.line (expr_view c.in_ok-condition.condition) ∷ fs))
    (subst (λ r. IfOk r (λ all. branches_view all.items ≡ done)) c.in_ok-branches.was is))
