use Rattle.std.proofs.Common.{◌≡◌, false, take}
use Rattle.jt_filters.specs.internal.NumberEntries.{occurs}
use Rattle.jt_filters.proofs.seen_numbers.search.Given as goal

abbrev pub invariant-loop-index : goal.invariant-loop-index
invariant-loop-index l = occurs l.number (take l.index l.entries) ≡ false
