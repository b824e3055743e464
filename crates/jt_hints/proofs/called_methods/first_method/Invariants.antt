use Rattle.std.proofs.Common.{◌≡◌, length}
use Rattle.jt_hints.specs.CalledMethods as spec
use Rattle.jt_hints.proofs.called_methods.first_method.Given as goal

abbrev pub invariant-tokens : goal.invariant-tokens
invariant-tokens l = spec.first_method l.rest ≡ spec.first_method l.tokens

abbrev pub decreases-tokens : goal.decreases-tokens
decreases-tokens l = length l.rest
