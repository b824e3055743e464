use Rattle.jt_lower.proofs.HeightsDecided.{Left}
use Rattle.jt_lower.proofs.heights.+heights.Given as goal

abbrev pub invariant-fits_row-loop-kept : goal.invariant-fits_row-loop-kept
invariant-fits_row-loop-kept l = Left l.row l.room l.kept-index l.left
