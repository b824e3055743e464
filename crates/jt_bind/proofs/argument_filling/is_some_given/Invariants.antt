use Rattle.jt_bind.proofs.{◌≡◌, drop, pairs_view, keywords, parameters_view, some_given}
use Rattle.jt_bind.proofs.argument_filling.is_some_given.Given as goal

abbrev pub invariant-loop-parameter : goal.invariant-loop-parameter
invariant-loop-parameter l =
    some_given (parameters_view (drop l.parameter-index l.parameters)) (keywords (pairs_view l.pairs))
    ≡ some_given (parameters_view l.parameters) (keywords (pairs_view l.pairs))
