use Rattle.std.proofs.Common.{List, arith}
use Rattle.std.proofs.lemmas.List.{at_drop_all}
use Rattle.jt_value.proofs.Lists.{Pair}
use Rattle.jt_value.specs.Tree.{items_size, items_nesting}
use Rattle.jt_value.specs.View.{entries_view}
use Rattle.jt_filter_semantics.specs.Listing.{pair_items}
use Rattle.jt_filters.proofs.listing.pairs_measure.Goals as goal

pub returns-clause-size : goal.returns-clause-size
returns-clause-size c =
    let none = at_drop_all (λ (es : List Pair). items_size (pair_items (entries_view es))) c.args.entries.now
    c.loop-entry.entry-index c.loop-entry-test.false in
    omega (arith, none, c.loop-entry.invariant.size_fits, c.loop-entry.invariant.size)

pub returns-clause-nesting : goal.returns-clause-nesting
returns-clause-nesting c =
    let none = at_drop_all (λ (es : List Pair). items_nesting (pair_items (entries_view es))) c.args.entries.now
    c.loop-entry.entry-index c.loop-entry-test.false in
    omega (arith, none, c.loop-entry.invariant.nesting_fits, c.loop-entry.invariant.nesting)
