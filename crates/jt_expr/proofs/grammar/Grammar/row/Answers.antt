use Rattle.std.proofs.Common.{rules}
use Rattle.jt_expr.proofs.RowCollection.{row_starts, row_closed, row_last, row_next, row_refused, row_ends}
use Rattle.jt_expr.proofs.grammar.Grammar.row.Goals as goal

pub loop-turn-init : goal.loop-turn-init
loop-turn-init c = row_starts _ _ _ _ _ _ _ c.left-turn-end.ensures c.new-found.ensures

pub returns-in_err-element : goal.returns-in_err-element
returns-in_err-element c =
    let q = row_refused _ _ _ _ _ _ _ _ c.loop-turn.invariant c.loop-turn-test.true _ c.in_err-element.ensures in
    search rules

pub returns-in-Closed : goal.returns-in-Closed
returns-in-Closed c =
    row_closed _ _ _ _ _ _ _ _ c.loop-turn.invariant c.loop-turn-test.true _
    (rw c.in-Closed.is at c.in_ok-element.ensures)

pub returns-in-Last : goal.returns-in-Last
returns-in-Last c =
    row_last _ _ _ _ _ _ _ _ c.loop-turn.invariant c.loop-turn-test.true _ _
    (rw c.in-Last.is at c.in_ok-element.ensures) _ c.in_ok-push-in-Last.ensures

pub loop-turn-preserved : goal.loop-turn-preserved
loop-turn-preserved c =
    row_next _ _ _ _ _ _ _ _ c.loop-turn.invariant c.loop-turn-test.true _ _
    (rw c.in-Further.is at c.in_ok-element.ensures) _ c.in_ok-push-in-Further.ensures _ c.behind_key-row.ensures

pub returns : goal.returns
returns c = row_ends _ _ _ _ _ _ _ _ c.loop-turn.invariant c.loop-turn-test.false
