use Rattle.std.proofs.Common.{◌<◌, length, rules, sym, ◌∙◌}
use Rattle.jt_value.proofs.KeyIndices.{indexed, not_indexed}
use Rattle.jt_value.specs.View.{entries_view}
use Rattle.jt_value.proofs.key_search.KeySearch.get.Goals as goal

pub bounds-entries-index : goal.bounds-entries-index
bounds-entries-index c =
    (indexed c.args.entries.now c.args.key.now c.in-Some.index (sym c.in-Some.is ∙ c.index_of.ensures)).0

pub offset_bounds-entries-index : goal.offset_bounds-entries-index
offset_bounds-entries-index c =
    let lt : c.in-Some.index < length c.args.entries.now = (indexed c.args.entries.now c.args.key.now c.in-Some.index
    (sym c.in-Some.is ∙ c.index_of.ensures)).0 in
    search rules

pub returns-in-Some : goal.returns-in-Some
returns-in-Some c =
    let there = indexed c.args.entries.now c.args.key.now c.in-Some.index (sym c.in-Some.is ∙ c.index_of.ensures) in
    sym (there.1 c.index-entries-index.result)

pub returns-in-None : goal.returns-in-None
returns-in-None c =
    sym (not_indexed c.args.key.now (entries_view c.args.entries.now) (sym c.in-None.is ∙ c.index_of.ensures))
