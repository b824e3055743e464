use Rattle.std.proofs.Common.{◌≡◌, ◌&&◌, List, not, true, false, ap, sym, ◌∙◌}
use Rattle.std.specs.Result.{is_ok}
use Rattle.std.proofs.lemmas.List.{at_drop_all}
use Rattle.std.proofs.lemmas.Result.{err_from_is_err_and}
use Rattle.jt_parse.specs.Positions as spec
use Rattle.jt_parse.specs.internal.PositionView.{position_view}
use Rattle.jt_ast.specs.StatementView.{body_view, branches_view}
use Rattle.jt_ast.proofs.RemainingParts.{Branch}
use Rattle.jt_ast.proofs.StatementViews.{shown_if}
use Rattle.jt_parse.proofs.StatementPositions.{branch_misplaced}
use Rattle.jt_parse.proofs.positions.+positions.Goals as goal

pub choice_placed-returns-in_err-body_placed : goal.choice_placed-returns-in_err-body_placed
choice_placed-returns-in_err-body_placed t c =
    let e = (err_from_is_err_and c.from_residual.result c.from_residual.ensures.1).1 in
    let q = position_view c.args.position in
    let l = c.loop-body in
    let b = c.loop-body-item.result in
    let bad : spec.body_placed q (body_view b.body.items) ≡ false =
    sym (rw c.deref.ensures.value at c.in_err-body_placed.ensures) in
    ap is_ok e ∙ sym (ap (λ z. z && spec.body_placed q (body_view c.args.other.now))
    (l.invariant ∙ branch_misplaced q c.args.branches.now l.body-index b c.loop-body-test.true c.loop-body-item.is bad))

pub choice_placed-returns : goal.choice_placed-returns
choice_placed-returns t c =
    let q = position_view c.args.position in
    let l = c.loop-body in
    let good : spec.branches_placed q (branches_view c.args.branches.now) ≡ true =
    l.invariant ∙ at_drop_all (λ (z : List Branch). spec.branches_placed q (branches_view z)) c.args.branches.now
    l.body-index c.loop-body-test.false in
    c.body_placed-2.ensures ∙ sym (ap (λ z. z && spec.body_placed q (body_view c.args.other.now)) good)

pub statement_placed-returns-in_ok-allow-in-If : goal.statement_placed-returns-in_ok-allow-in-If
statement_placed-returns-in_ok-allow-in-If t c =
    let p = position_view c.args.position in
    let bs = branches_view c.deref-in-If.result.now in
    let other = body_view c.deref-in-If-2.result.now in
    let top : not (spec.is_child p) ≡ true = ap not (sym c.is_child.ensures) ∙ sym c.in_ok-allow-in-If.ensures in
    c.choice_placed.ensures ∙ ap (λ q. spec.branches_placed q bs && spec.body_placed q other) c.within.ensures
    ∙ sym (ap (λ z. z && (spec.branches_placed (spec.within p) bs && spec.body_placed (spec.within p) other)) top)
    ∙ ap (spec.stmt_placed p) (shown_if c.args.statement.now c.in-If.branches c.in-If.other c.deref-in-If.result.now
    c.deref-in-If-2.result.now c.in-If.is c.deref-in-If.ensures.value c.deref-in-If-2.ensures.value)
