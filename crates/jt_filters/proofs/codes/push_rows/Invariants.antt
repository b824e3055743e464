use Rattle.std.proofs.Common.{◌≡◌, ◌++◌, length}
use Rattle.jt_filters.specs.internal.Codes.{rows_code, rows_in}
use Rattle.jt_filters.proofs.codes.push_rows.Given as goal

abbrev pub invariant-loop-key : goal.invariant-loop-key
invariant-loop-key l =
    l.bytes.items ++ rows_code (rows_in l.rows.entries)
    ≡ l.initial.bytes.items ++ rows_code (rows_in l.initial.rows.entries)

abbrev pub decreases-loop-key : goal.decreases-loop-key
decreases-loop-key l = length l.rows.entries
