use Rattle.jt_inherit.proofs.Vocabulary.{◌≡◌, ◌++◌, drop, keyed_needs, needs_view}
use Rattle.jt_inherit.proofs.including.needs_at.Given as goal

abbrev pub invariant-loop-need : goal.invariant-loop-need
invariant-loop-need l =
    keyed_needs l.needs.items ++ needs_view (drop l.need-index l.need-items) ≡ needs_view l.need-items
