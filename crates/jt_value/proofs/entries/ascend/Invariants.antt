use Rattle.std.proofs.Common.{◌≡◌, ◌-◌, ◌≤◌, drop}
use Rattle.jt_value.specs.Entries.{ascends}
use Rattle.jt_value.specs.View.{entries_view}
use Rattle.jt_value.proofs.entries.ascend.Given as goal

abbrev pub invariant-loop-next : goal.invariant-loop-next
invariant-loop-next l = record {
  some : 1 ≤ l.next;
  rest : ascends (entries_view l.entries) ≡ ascends (entries_view (drop (l.next - 1) l.entries));
}
