use Rattle.std.proofs.Common.{◌≡◌, ◌+◌, ◌≤◌, drop}
use Rattle.jt_ir.specs.Slots.{none}
use Rattle.jt_ir.specs.Size.{row_count}
use Rattle.jt_ir.specs.View.{row_view}
use Rattle.jt_lower.proofs.expressions.count_values.Given as goal

abbrev pub invariant-loop-kept : goal.invariant-loop-kept
invariant-loop-kept l =
    (l.count + row_count (row_view (drop l.kept-index l.row) none) ≡ row_count (row_view l.row none))
    × (l.count ≤ l.kept-index)
