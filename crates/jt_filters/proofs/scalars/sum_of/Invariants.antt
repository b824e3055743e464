use Rattle.std.proofs.Common.{◌≡◌}
use Rattle.jt_op_semantics.specs.ItemOf.{items_count}
use Rattle.jt_filters.specs.internal.Operands.{items_in}
use Rattle.std.specs.Prelude.{Ok}
use Rattle.std.proofs.Common.{pos}
use Rattle.jt_filter_semantics.specs.Numbers.{sum_behind}
use Rattle.jt_filters.proofs.scalars.sum_of.Given as goal

abbrev pub invariant-loop-item : goal.invariant-loop-item
invariant-loop-item l = sum_behind (Ok l.total) (items_in l.items) ≡ sum_behind (Ok (pos 0)) (items_in l.initial.items)

abbrev pub decreases-loop-item : goal.decreases-loop-item
decreases-loop-item l = items_count (items_in l.items)
