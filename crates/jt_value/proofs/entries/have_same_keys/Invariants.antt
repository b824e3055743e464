use Rattle.std.proofs.Common.{◌≡◌, length, drop}
use Rattle.jt_value.specs.Entries.{same_keys}
use Rattle.jt_value.specs.View.{entries_view}
use Rattle.jt_value.proofs.entries.have_same_keys.Given as goal

abbrev pub invariant-loop-entry : goal.invariant-loop-entry
invariant-loop-entry l = record {
  index : l.index ≡ l.entry-index;
  lengths : length l.entries ≡ length l.others;
  rest : same_keys (entries_view l.entries) (entries_view l.others)
      ≡ same_keys (entries_view (drop l.entry-index l.entries)) (entries_view (drop l.entry-index l.others));
}
