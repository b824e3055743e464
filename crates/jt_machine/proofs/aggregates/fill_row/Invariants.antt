use Rattle.jt_machine.proofs.Vocabulary.{values_on, view}
use Rattle.std.proofs.Common.{◌≡◌, ◌-◌, length, map, take, drop}
use Rattle.jt_machine.proofs.PoppedValues.{found}
use Rattle.jt_machine.proofs.aggregates.fill_row.Given as goal

abbrev pub invariant-values : goal.invariant-values
invariant-values l = record {
  left : found (l.count - l.taken) (map view (drop (l.count - l.taken) (take l.count l.row))) l.stack.running
      ≡ values_on l.count l.fn.stack.running;
  callers : l.stack.callers ≡ l.fn.stack.callers;
  len : length l.row ≡ length l.fn.row;
}
