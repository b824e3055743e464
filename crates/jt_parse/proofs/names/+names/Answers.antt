use Rattle.std.proofs.Common.{List, Err, ap, sym, subst, ◌∙◌}
use Rattle.std.proofs.lemmas.List.{at_drop_all}
use Rattle.std.proofs.lemmas.Result.{err_from_is_err_and}
use Rattle.jt_ast.specs.StatementView.{body_view, branches_view}
use Rattle.jt_ast.proofs.RemainingParts.{Branch}
use Rattle.jt_ast.proofs.StatementViews.{shown_if}
use Rattle.jt_parse.specs.internal.Gives.{GivesNames}
use Rattle.jt_parse.specs.Names.{stmt_unknown, body_unknown, branch_unknown}
use Rattle.jt_parse.proofs.FirstFault.{fault_first, fault_behind, condition_refused, inside_refused}
use Rattle.jt_parse.proofs.names.+names.Goals as goal

pub check_choice-returns-in_err-check_expression : goal.check_choice-returns-in_err-check_expression
check_choice-returns-in_err-check_expression t c =
    let p = err_from_is_err_and c.from_residual.result c.from_residual.ensures.1 in
    let f = c.in_err-check_expression.field-0.0 in
    let l = c.loop-line in
    rw (p.1, p.2)
    (fault_first (branch_unknown (branches_view c.args.branches.now)) (body_unknown (body_view c.args.other.now)) f
    (subst (λ o. GivesNames o (Err f)) (sym l.invariant)
    (condition_refused c.args.branches.now l.line-index c.loop-line-item.result f c.loop-line-test.true
    c.loop-line-item.is c.in_err-check_expression.ensures)))

pub check_choice-returns-in_err-check_body : goal.check_choice-returns-in_err-check_body
check_choice-returns-in_err-check_body t c =
    let p = err_from_is_err_and c.from_residual-in_err-check_body.result c.from_residual-in_err-check_body.ensures.1 in
    let f = c.in_err-check_body.field-0.0 in
    let l = c.loop-line in
    rw (p.1, p.2)
    (fault_first (branch_unknown (branches_view c.args.branches.now)) (body_unknown (body_view c.args.other.now)) f
    (subst (λ o. GivesNames o (Err f)) (sym l.invariant)
    (inside_refused c.args.branches.now l.line-index c.loop-line-item.result f c.loop-line-test.true c.loop-line-item.is
    c.in_ok-check_expression.ensures
    (subst (λ z. GivesNames (body_unknown (body_view z)) (Err f)) c.deref.ensures.value c.in_err-check_body.ensures))))

pub check_choice-returns : goal.check_choice-returns
check_choice-returns t c =
    let l = c.loop-line in
    let none = l.invariant ∙ at_drop_all (λ (z : List Branch). branch_unknown (branches_view z)) c.args.branches.now
    l.line-index c.loop-line-test.false in
    fault_behind (branch_unknown (branches_view c.args.branches.now)) (body_unknown (body_view c.args.other.now))
    c.check_body-2.result none c.check_body-2.ensures

pub check_statement-returns-in-If : goal.check_statement-returns-in-If
check_statement-returns-in-If t c =
    subst (λ o. GivesNames o c.check_choice.result)
    (ap stmt_unknown (shown_if c.args.statement.now c.in-If.branches c.in-If.other c.deref.result.now
    c.deref-in-If.result.now c.in-If.is c.deref.ensures.value c.deref-in-If.ensures.value))
    c.check_choice.ensures
