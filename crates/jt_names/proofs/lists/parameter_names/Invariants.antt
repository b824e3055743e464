use Rattle.jt_names.proofs.lists.parameter_names.Given as goal
use Rattle.jt_names.specs.Names.{parameter_names}
use Rattle.jt_names.proofs.{◌≡◌, ◌++◌, drop, texts}

abbrev pub invariant-loop-parameter : goal.invariant-loop-parameter
invariant-loop-parameter l =
    texts l.names.items ++ parameter_names (drop l.parameter-index l.parameters) ≡ parameter_names l.parameters
