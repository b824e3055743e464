use Rattle.jt_machine.proofs.Vocabulary.{piled, values_view, upward}
use Rattle.std.proofs.Common.{◌≡◌, length}
use Rattle.jt_machine.proofs.unpacking.push_all.Given as goal

abbrev pub invariant-values : goal.invariant-values
invariant-values l = record {
  piled : piled (upward l.values.items) l.stack.running ≡ piled (values_view l.fn.values.items) l.fn.stack.running;
  callers : l.stack.callers ≡ l.fn.stack.callers;
}

abbrev pub decreases-values : goal.decreases-values
decreases-values l = length l.values.items
