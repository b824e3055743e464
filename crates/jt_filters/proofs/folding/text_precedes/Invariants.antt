use Rattle.std.proofs.Common.{◌≡◌, ◌≤◌, drop, length}
use Rattle.jt_filter_semantics.specs.Ordering.{text_precedes}
use Rattle.jt_filters.proofs.folding.text_precedes.Given as goal

abbrev pub invariant-loop-byte : goal.invariant-loop-byte
invariant-loop-byte l = record {
  index : l.index ≡ l.byte-index;
  inside : l.index ≤ length l.right;
  same : text_precedes (drop l.index l.left) (drop l.index l.right) ≡ text_precedes l.left l.right;
}
