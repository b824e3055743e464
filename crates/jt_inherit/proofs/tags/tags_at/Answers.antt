use Rattle.jt_inherit.proofs.Vocabulary.{ap, ◌∙◌, map-append, tag_view, tags, tags_view, test_of}
use Rattle.jt_inherit.proofs.PathsGrow.{templates_past}
use Rattle.jt_inherit.proofs.TagPlaces.{known_uses, tags_turn}
use Rattle.jt_inherit.proofs.tags.tags_at.Goals as goal

pub loop-index-preserved-in_default : goal.loop-index-preserved-in_default
loop-index-preserved-in_default c =
    let l = c.loop-index in
    let past = (rw c.deref.ensures.value at c.in_default.ensures.lookup.3) in
    rw (← (templates_past c.args.facts.now.chain.now.templates.items c.args.indices.now l.index-index
    c.loop-index-test.true past)) l.invariant

pub loop-index-preserved : goal.loop-index-preserved
loop-index-preserved c =
    let l = c.loop-index in
    let ps = c.args.facts.now.chain.now.templates.items in
    let p = c.in-Some.file.now in
    let test = test_of c.args.wanted in
    let found = (rw c.deref.ensures.value at c.in-Some.ensures.lookup.3) in
    let theirs = known_uses ps _ p _ found.0 (found.1 p) c.uses_at.ensures in
    tags_turn ps c.args.indices.now l.index-index p c.loop-index-test.true found.0 (found.1 p) test _ _ _ _
    ((rw c.deref-in-loop-index.ensures at c.in_ok-more.ensures) ∙ ap (tags test) theirs)
    (ap tags_view c.in_ok-append.ensures.items ∙ map-append tag_view l.found.items c.in_ok-more.more.items) l.invariant
