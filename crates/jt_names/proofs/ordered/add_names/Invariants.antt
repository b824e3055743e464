use Rattle.jt_names.proofs.ordered.add_names.Given as goal
use Rattle.jt_names.proofs.{◌≡◌, drop, all_inserted, texts}

abbrev pub invariant-loop-name : goal.invariant-loop-name
invariant-loop-name l =
    all_inserted (texts (drop l.name-index l.others)) (texts l.names.keys)
    ≡ all_inserted (texts l.others) (texts l.initial.names.keys)
