use Rattle.std.proofs.Common.{◌≡◌, ◌≤◌, count_by, take, ◌==◌}
use Rattle.jt_scan.proofs.text.lines.Given as goal

abbrev pub invariant-loop-b : goal.invariant-loop-b
invariant-loop-b l = (l.count ≤ l.b-index) × (l.count ≡ count_by (λ c. c == 10) (take l.b-index l.b-items))
