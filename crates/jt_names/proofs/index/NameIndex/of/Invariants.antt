use Rattle.jt_names.proofs.index.NameIndex.of.Given as goal
use Rattle.jt_names.proofs.{◌≡◌, ◌+◌, ◌≤◌, length, drop, Text, texts, value_in, first_of}

abbrev pub invariant-loop-left : goal.invariant-loop-left
invariant-loop-left l = record {
  within : l.left ≤ length l.names;
  indexed : (x : Text) → value_in l.index.indices x ≡ first_of x (l.first + l.left) (texts (drop l.left l.names));
}

abbrev pub decreases-loop-left : goal.decreases-loop-left
decreases-loop-left l = l.left
