use Rattle.std.proofs.Common.{◌≡◌, ◌+◌, ◌-◌, ◌^◌, ◌≤◌, min, max, drop}
use Rattle.jt_value.specs.Tree.{items_size, items_nesting}
use Rattle.jt_value.specs.View.{entries_view}
use Rattle.jt_filter_semantics.specs.Listing.{pair_items}
use Rattle.jt_filters.proofs.listing.pairs_measure.Given as goal

abbrev pub invariant-loop-entry : goal.invariant-loop-entry
invariant-loop-entry l = record {
  size_fits : l.size ≤ 2 ^ 64 - 1;
  nesting_fits : l.nesting ≤ 2 ^ 32 - 1;
  size : min (l.size + items_size (pair_items (entries_view (drop l.entry-index l.entries)))) (2 ^ 64 - 1)
      ≡ min (items_size (pair_items (entries_view l.entries))) (2 ^ 64 - 1);
  nesting : min (max l.nesting (items_nesting (pair_items (entries_view (drop l.entry-index l.entries))))) (2 ^ 32 - 1)
      ≡ min (items_nesting (pair_items (entries_view l.entries))) (2 ^ 32 - 1);
}
