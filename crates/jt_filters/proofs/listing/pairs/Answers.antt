use Rattle.std.proofs.Common.{refl, ap, ℕ, List, ◌∙◌, rules}
use Rattle.jt_value.specs.View.{view, entries_view}
use Rattle.jt_value.proofs.Lists.{Pair}
use Rattle.jt_filter_semantics.specs.Listing.{pair_items, pair}
use Rattle.jt_filters.proofs.ListAppend.{made_more, made_all}
use Rattle.jt_filters.proofs.listing.pairs.Goals as goal

pub loop-entry-preserved : goal.loop-entry-preserved
loop-entry-preserved c =
    made_more (λ (es : List Pair). pair_items (entries_view es)) c.loop-entry.pairs.items c.push.new.self.items
    c.in_ok-pair.field-0 c.args.entries.now c.loop-entry.entry-index c.entry-item.result
    (pair c.entry-item.result.0 (view c.entry-item.result.1)) _ c.loop-entry-test.true c.entry-item.is
    c.in_ok-push.ensures.items
    (c.in_ok-pair.ensures ∙ ap (λ (s : List ℕ). pair s (view c.entry-item.result.1)) (search rules)) refl
    c.loop-entry.invariant

pub returns : goal.returns
returns c =
    made_all (λ (es : List Pair). pair_items (entries_view es)) c.loop-entry.pairs.items c.args.entries.now
    c.loop-entry.entry-index _ c.loop-entry-test.false refl c.loop-entry.invariant
