use Rattle.jt_value.specs.View.{items_view}
use Rattle.jt_filters.specs.internal.Answers.{AreRight}
use Rattle.jt_filters.proofs.answers.answers_of.Given as goal

abbrev pub invariant-loop-occurrence : goal.invariant-loop-occurrence
invariant-loop-occurrence l = AreRight (items_view l.list) l.answers.items
