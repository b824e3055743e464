use Rattle.jt_bind.proofs.{◌≡◌, ◌++◌, map, drop, parameter_view, default_value, values}
use Rattle.jt_bind.proofs.shared.add_defaults.Given as goal

abbrev pub invariant-loop-parameter : goal.invariant-loop-parameter
invariant-loop-parameter l =
    values l.pool ++ map (λ p. default_value (parameter_view p).default) (drop l.parameter-index l.parameters)
    ≡ values l.initial.pool ++ map (λ p. default_value (parameter_view p).default) l.parameters
