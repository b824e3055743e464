use Rattle.std.proofs.Common.{◌≡◌}
use Rattle.std.specs.Prelude.{Ok}
use Rattle.jt_value.specs.View.{items_view}
use Rattle.jt_op_semantics.specs.ItemOf.{items_count}
use Rattle.jt_filter_semantics.specs.Mapping.{gathered, in_front}
use Rattle.jt_filters.specs.internal.Operands.{items_in}
use Rattle.jt_filters.specs.internal.Rows.{gives}
use Rattle.jt_filters.proofs.mapping.row_values.Given as goal

abbrev pub invariant-loop-item : goal.invariant-loop-item
invariant-loop-item l =
    in_front (Ok (items_view l.values.items)) (gathered (gives l.change) (items_in l.items))
    ≡ gathered (gives l.change) (items_in l.initial.items)

abbrev pub decreases-loop-item : goal.decreases-loop-item
decreases-loop-item l = items_count (items_in l.items)
