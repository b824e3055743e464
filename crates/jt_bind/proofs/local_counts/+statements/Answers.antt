use Rattle.jt_ir.specs.View.{body_view}
use Rattle.jt_bind.proofs
use proofs.{◌+◌, drop, end, loop_max, drop_all, drop_more, arith, max_zero, choice_reaches, ◌∙◌, view_If, view_For}
use proofs.{view_Capture}
use Rattle.jt_bind.proofs.local_counts.+statements.Goals as goal

pub last_of_body-loop-statement-preserved : goal.last_of_body-loop-statement-preserved
last_of_body-loop-statement-preserved t c = λ ts behind.
    let l = c.loop-statement in
    let ss = c.args.body.now in
    c.last_of_stmt-latest.ensures ts (body_view ts (drop (l.statement-index + 1) ss) behind)
    ∙ (rw (drop_more ss l.statement-index c.statement-item.result c.loop-statement-test.true, ← c.statement-item.is) at
    (l.invariant ts behind))

pub last_of_body-returns : goal.last_of_body-returns
last_of_body-returns t c = λ ts behind.
    let l = c.loop-statement in
    rw (drop_all l.statement-index c.args.body.now (omega arith)) at (l.invariant ts behind)

pub last_of_branches-loop-branch-preserved : goal.last_of_branches-loop-branch-preserved
last_of_branches-loop-branch-preserved t c = λ ts.
    let l = c.loop-branch in
    let asked = c.last_of_expr-asked.ensures in
    let taken = rw c.deref.ensures.value at (c.last_of_body-latest.ensures ts end) in
    let left = rw
    (drop_more c.args.branches.now l.branch-index c.branch-item.result c.loop-branch-test.true, ← c.branch-item.is) at
    (l.invariant ts) in
    omega arith

pub last_of_branches-returns : goal.last_of_branches-returns
last_of_branches-returns t c = λ ts.
    let l = c.loop-branch in
    rw (drop_all l.branch-index c.args.branches.now (omega arith), max_zero) at (l.invariant ts)

pub last_of_stmt-returns-in-If : goal.last_of_stmt-returns-in-If
last_of_stmt-returns-in-If t c = λ ts.
    rw (c.in-If.is) (λ behind. rw (view_If, ← c.deref.ensures.value, ← c.deref-in-If.ensures.value)
    (choice_reaches ts _ _ _ _ _ (c.last_of_branches-first.ensures ts) (c.last_of_body.ensures ts) behind))

pub last_of_stmt-returns-in-For : goal.last_of_stmt-returns-in-For
last_of_stmt-returns-in-For t c = λ ts behind.
    rw (c.in-For.is, view_For, ← c.deref-in-For.ensures.value, ← c.deref-in-For-2.ensures.value)
    (loop_max _ _ _ _ _ _ _ _ _ _ _ _ c.last_of_targets-in-For.ensures c.last_of_expr-given.ensures
    c.last_of_condition-asked.ensures (c.last_of_body-turn.ensures ts end) (c.last_of_body-in-For.ensures ts end))

pub last_of_stmt-returns-in-Capture : goal.last_of_stmt-returns-in-Capture
last_of_stmt-returns-in-Capture t c = λ ts behind.
    let body = c.last_of_body-in-Capture.ensures ts end in
    rw (c.in-Capture.is, view_Capture, ← c.deref-in-Capture.ensures.value) (omega arith)
