use Rattle.std.proofs.Common.{◌≡◌, ◌++◌, map, length}
use Rattle.jt_hints.specs.DefinedNames.{bound}
use Rattle.jt_hints.proofs.definitions.add_bound.Given as goal

abbrev pub invariant-items : goal.invariant-items
invariant-items l =
    map (λ x. x.now) l.found.items ++ bound l.rest ≡ map (λ x. x.now) l.initial.found.items ++ bound l.tokens

abbrev pub decreases-items : goal.decreases-items
decreases-items l = length l.rest
