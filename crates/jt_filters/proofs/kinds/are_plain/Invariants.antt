use Rattle.std.proofs.Common.{◌≡◌}
use Rattle.jt_op_semantics.specs.ItemOf.{items_count}
use Rattle.jt_filter_semantics.specs.Kinds.{all_plain}
use Rattle.jt_filters.specs.internal.Operands.{items_in}
use Rattle.jt_filters.proofs.kinds.are_plain.Given as goal

abbrev pub invariant-loop-item : goal.invariant-loop-item
invariant-loop-item l = all_plain (items_in l.items) ≡ all_plain (items_in l.initial.items)

abbrev pub decreases-loop-item : goal.decreases-loop-item
decreases-loop-item l = items_count (items_in l.items)
