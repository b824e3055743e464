use Rattle.jt_chains.proofs.files.macro_table.Given as goal
use Rattle.jt_chains.specs.Tables.{macro_index}
use Rattle.jt_chains.proofs.{◌≡◌, ◌≤◌, length, drop, get_by_text, Text, body_view}

abbrev pub invariant-loop-left : goal.invariant-loop-left
invariant-loop-left l = record {
  within : l.left ≤ length l.body;
  indexed : (x : Text) → get_by_text l.table x ≡ macro_index x l.left (body_view (drop l.left l.body));
}

abbrev pub decreases-loop-left : goal.decreases-loop-left
decreases-loop-left l = l.left
