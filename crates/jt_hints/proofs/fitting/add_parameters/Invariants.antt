use Rattle.std.proofs.Common.{◌≡◌, ◌++◌, map, length}
use Rattle.jt_hints.specs.Fitting.{parameters_in}
use Rattle.jt_hints.proofs.fitting.add_parameters.Given as goal

abbrev pub invariant-parameters : goal.invariant-parameters
invariant-parameters l =
    map (λ x. x.now) l.found.items ++ parameters_in l.rest
    ≡ map (λ x. x.now) l.initial.found.items ++ parameters_in l.tokens

abbrev pub decreases-parameters : goal.decreases-parameters
decreases-parameters l = length l.rest
