use Rattle.jt_host.proofs.token_marks.word_place.Given as goal

abbrev pub invariant-loop-at : goal.invariant-loop-at
invariant-loop-at l = Unit {0}
