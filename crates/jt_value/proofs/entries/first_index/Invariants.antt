use Rattle.std.proofs.Common.{◌≡◌, ◌+◌, drop}
use Rattle.std.specs.Prelude.{option_map}
use Rattle.jt_value.specs.Entries.{index_of}
use Rattle.jt_value.specs.View.{entries_view}
use Rattle.jt_value.proofs.entries.first_index.Given as goal

abbrev pub invariant-loop-entry : goal.invariant-loop-entry
invariant-loop-entry l = record {
  index : l.index ≡ l.entry-index;
  rest : index_of l.key (entries_view l.entries)
      ≡ option_map (λ p. l.entry-index + p) (index_of l.key (entries_view (drop l.entry-index l.entries)));
}
