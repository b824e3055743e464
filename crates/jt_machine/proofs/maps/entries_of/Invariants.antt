use Rattle.jt_machine.proofs.Vocabulary.{put_entries, upward, no_entries, view}
use Rattle.std.proofs.Common.{◌≡◌, length, map}
use Rattle.jt_value.specs.View.{entries_view}
use Rattle.jt_machine.specs.internal.Making.{HasTextKeys}
use Rattle.jt_machine.proofs.maps.entries_of.Given as goal

abbrev pub invariant-pairs : goal.invariant-pairs
invariant-pairs l = record {
  texts : HasTextKeys l.values.items;
  same : put_entries (entries_view l.entries.entries) (upward l.values.items)
      ≡ put_entries no_entries (map view l.fn.values.items);
}

abbrev pub decreases-pairs : goal.decreases-pairs
decreases-pairs l = length l.values.items
