use Rattle.jt_bind.proofs.{◌≡◌, drop, max, row_locals, none, row_view, up_to}
use Rattle.jt_bind.proofs.local_counts.+expressions.Given as goal

abbrev pub invariant-last_of_row-loop-kept : goal.invariant-last_of_row-loop-kept
invariant-last_of_row-loop-kept l =
    max (up_to l.latest) (row_locals (row_view (drop l.kept-index l.row) none))
    ≡ max (up_to l.fn.last) (row_locals (row_view l.row none))
