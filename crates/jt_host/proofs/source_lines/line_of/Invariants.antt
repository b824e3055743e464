use Rattle.std.proofs.Common.{◌-◌, ◌≡◌}
use denote.Text.{Utf8}
use denote.Shadow.{shadow}
use Rattle.jt_host.specs.SourceLines as spec
use Rattle.jt_host.proofs.source_lines.line_of.Given as goal

abbrev pub invariant-loop-left : goal.invariant-loop-left
invariant-loop-left l = shadow (Utf8 l.rest) × (spec.line_of l.left l.rest ≡ spec.line_of l.fn.line l.fn.text)

abbrev pub decreases-loop-left : goal.decreases-loop-left
decreases-loop-left l = l.left - 1
