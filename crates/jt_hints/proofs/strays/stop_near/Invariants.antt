use Rattle.std.proofs.Common.{◌≤◌, length}
use Rattle.jt_hints.proofs.strays.stop_near.Given as goal

abbrev pub invariant-halvings : goal.invariant-halvings
invariant-halvings l = (l.low ≤ l.high) × (l.high ≤ length l.text)
