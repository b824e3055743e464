use Rattle.std.proofs.Common.{◌≡◌, ◌++◌, drop}
use Rattle.jt_filter_semantics.specs.Ordering.{fold}
use Rattle.jt_filters.proofs.codes.push_folded.Given as goal

abbrev pub invariant-loop-byte : goal.invariant-loop-byte
invariant-loop-byte l =
    l.bytes.items ++ fold (drop l.byte-index l.byte-items) ≡ l.initial.bytes.items ++ fold l.byte-items
