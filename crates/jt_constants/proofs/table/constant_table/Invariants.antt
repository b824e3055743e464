use Rattle.jt_image.specs.View.{constants_view}
use Rattle.jt_constants.specs.internal.Keys.{Knows}
use Rattle.jt_constants.proofs.TableGrowth.{Holds}
use Rattle.jt_constants.proofs.table.constant_table.Given as goal

abbrev pub invariant-loop-value : goal.invariant-loop-value
invariant-loop-value l =
    Knows l.known (constants_view l.constants.items)
    × Holds l.pool l.value-index (constants_view l.constants.items) l.indices.items
