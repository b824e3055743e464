use Rattle.jt_inherit.proofs.Vocabulary.{sym, ◌∙◌, test_of}
use Rattle.jt_inherit.proofs.PathsGrow.{templates_past}
use Rattle.jt_inherit.proofs.TagPlaces.{first_found, first_turn, none_found}
use Rattle.jt_inherit.proofs.tags.first_at.Goals as goal

pub loop-index-preserved-in_default : goal.loop-index-preserved-in_default
loop-index-preserved-in_default c =
    let l = c.loop-index in
    rw (← (templates_past c.args.files.now c.args.indices.now l.index-index c.loop-index-test.true
    c.in_default.ensures.lookup.3)) l.invariant

pub loop-index-preserved : goal.loop-index-preserved
loop-index-preserved c =
    let l = c.loop-index in
    let p = c.in-Some.file.now in
    let found = c.in-Some.ensures.lookup.3 in
    l.invariant
    ∙ first_turn c.args.files.now c.args.indices.now l.index-index p c.loop-index-test.true found.0 (found.1 p)
    (test_of c.args.wanted)
    ∙ none_found c.in_ok-place.place _ _ (sym c.is_some.ensures ∙ c.if-is_some.false)
    (rw (c.deref.ensures.value, c.in_ok-found.ensures) at c.in_ok-place.ensures)

pub returns-then-is_some : goal.returns-then-is_some
returns-then-is_some c =
    let l = c.loop-index in
    let p = c.in-Some.file.now in
    let found = c.in-Some.ensures.lookup.3 in
    first_found c.in_ok-place.place _ _ (sym c.is_some.ensures ∙ c.if-is_some.true)
    (rw (c.deref.ensures.value, c.in_ok-found.ensures) at c.in_ok-place.ensures)
    ∙ sym (l.invariant
    ∙ first_turn c.args.files.now c.args.indices.now l.index-index p c.loop-index-test.true found.0 (found.1 p)
    (test_of c.args.wanted))
