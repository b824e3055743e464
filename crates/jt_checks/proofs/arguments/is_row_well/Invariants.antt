use Rattle.jt_checks.proofs.arguments.is_row_well.Given as goal
use Rattle.jt_checks.proofs.{row_well, ◌≡◌, ◌+◌, drop, exprs_view}

abbrev pub invariant-loop-index : goal.invariant-loop-index
invariant-loop-index l =
    row_well l.filter 1 (exprs_view l.row) ≡ row_well l.filter (l.index + 1) (exprs_view (drop l.index l.row))
