use Rattle.std.proofs.Common.{◌≤◌, length}
use Rattle.jt_value.proofs.KeyIndices.{IsKept}
use Rattle.jt_value.proofs.key_search.first_indices.Given as goal

abbrev pub invariant-loop-left : goal.invariant-loop-left
invariant-loop-left l = record {
  left : l.left ≤ length l.entries;
  kept : IsKept l.entries l.left l.indices;
}

abbrev pub decreases-loop-left : goal.decreases-loop-left
decreases-loop-left l = l.left
