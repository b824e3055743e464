use Rattle.jt_bind.proofs.{arith, rules, row_step, view_Made, view_Invoke}
use Rattle.jt_bind.proofs.local_counts.+expressions.Goals as goal

pub last_of_row-loop-kept-preserved : goal.last_of_row-loop-kept-preserved
last_of_row-loop-kept-preserved t c = search (arith, rules, row_step)

pub last_of_expr-returns-in-Made : goal.last_of_expr-returns-in-Made
last_of_expr-returns-in-Made t c =
    rw (c.in-Made.is, view_Made, ← c.deref.ensures.value) c.last_of_row.ensures

pub last_of_expr-returns-in-Invoke : goal.last_of_expr-returns-in-Invoke
last_of_expr-returns-in-Invoke t c =
    rw (c.in-Invoke.is, view_Invoke, ← c.deref-in-Invoke.ensures.value) c.last_of_row-in-Invoke.ensures
