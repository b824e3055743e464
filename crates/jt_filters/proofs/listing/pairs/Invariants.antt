use Rattle.std.proofs.Common.{◌≡◌, drop}
use Rattle.jt_value.specs.View.{items_view, entries_view}
use Rattle.jt_value.specs.Payload.{joined_items}
use Rattle.jt_filter_semantics.specs.Listing.{pair_items}
use Rattle.jt_filters.proofs.listing.pairs.Given as goal

abbrev pub invariant-loop-entry : goal.invariant-loop-entry
invariant-loop-entry l =
    joined_items (items_view l.pairs.items) (pair_items (entries_view (drop l.entry-index l.entries)))
    ≡ pair_items (entries_view l.entries)
