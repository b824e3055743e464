use Rattle.std.proofs.Common.{◌≤◌, ◌-◌, length}
use Rattle.memchr.specs.Find.{Nowhere}
use Rattle.jt_scan.specs.internal.Scanning.{OpensAt}
use Rattle.jt_scan.proofs.find.find_opener.Given as goal

abbrev pub invariant-braces : goal.invariant-braces
invariant-braces l = (l.at ≤ length l.text) × Nowhere (OpensAt l.text) 0 l.at

abbrev pub decreases-braces : goal.decreases-braces
decreases-braces l = length l.text - l.at
