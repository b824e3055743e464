use Rattle.jt_checks.proofs.arguments.are_names_well.Given as goal
use Rattle.jt_eval.specs.Inside.{pairs_well}
use Rattle.jt_checks.proofs.{◌≡◌, drop, pairs_view}

abbrev pub invariant-loop-name : goal.invariant-loop-name
invariant-loop-name l =
    pairs_well l.filter (pairs_view (drop l.name-index l.pairs)) ≡ pairs_well l.filter (pairs_view l.pairs)
