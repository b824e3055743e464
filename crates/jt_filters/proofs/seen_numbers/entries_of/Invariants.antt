use Rattle.jt_filters.specs.internal.NumberEntries.{AreRising}
use Rattle.jt_filters.proofs.seen_numbers.entries_of.Given as goal

abbrev pub invariant-loop-occurrence : goal.invariant-loop-occurrence
invariant-loop-occurrence l = AreRising l.entries.items l.last
