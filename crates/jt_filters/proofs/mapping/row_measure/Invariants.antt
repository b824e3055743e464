use Rattle.std.proofs.Common.{◌≡◌, ◌-◌, ◌^◌, ◌≤◌}
use Rattle.jt_op_semantics.specs.ItemOf.{items_count}
use Rattle.jt_filter_semantics.specs.Mapping.{gathered}
use Rattle.jt_filters.specs.internal.Operands.{items_in}
use Rattle.jt_filters.specs.internal.Rows.{gives, row_measured, measured_behind}
use Rattle.jt_filters.proofs.mapping.row_measure.Given as goal

abbrev pub invariant-loop-item : goal.invariant-loop-item
invariant-loop-item l = record {
  size_fits : l.size ≤ 2 ^ 64 - 1;
  nesting_fits : l.nesting ≤ 2 ^ 32 - 1;
  same : measured_behind l.size l.nesting (gathered (gives l.change) (items_in l.items))
      ≡ row_measured (gathered (gives l.change) (items_in l.initial.items));
}

abbrev pub decreases-loop-item : goal.decreases-loop-item
decreases-loop-item l = items_count (items_in l.items)
