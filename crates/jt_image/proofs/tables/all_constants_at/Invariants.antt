use Rattle.std.proofs.Common.{◌-◌}
use Rattle.jt_image.specs.InPlace.{constant_in, HasConstant}
use Rattle.jt_image.specs.Reading.{all_constants_at, constant_at}
use Rattle.jt_image.proofs.TableWalk.{Walks}
use Rattle.jt_image.proofs.tables.all_constants_at.Given as goal

abbrev pub invariant-constants : goal.invariant-constants
invariant-constants l =
    Walks constant_in HasConstant (λ _. constant_at) (all_constants_at l.front) l.bytes (l.count - l.counter)
    l.constants.items l.rest
