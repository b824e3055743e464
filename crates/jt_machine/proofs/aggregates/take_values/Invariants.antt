use Rattle.jt_machine.proofs.Vocabulary.{values_on, view}
use Rattle.std.proofs.Common.{◌≡◌, ◌-◌, map, reverse}
use Rattle.jt_machine.proofs.PoppedValues.{found}
use Rattle.jt_machine.proofs.aggregates.take_values.Given as goal

abbrev pub invariant-values : goal.invariant-values
invariant-values l = record {
  taken : found (l.count - l.counter) (reverse (map view l.values.items)) l.stack.running
      ≡ values_on l.count l.fn.stack.running;
  callers : l.stack.callers ≡ l.fn.stack.callers;
}
