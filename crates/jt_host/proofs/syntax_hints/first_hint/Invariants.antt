use Rattle.std.proofs.Common.{◌≡◌, drop}
use Rattle.jt_host.specs.SyntaxHints as spec
use Rattle.jt_host.proofs.syntax_hints.first_hint.Given as goal

abbrev pub invariant-loop-segment : goal.invariant-loop-segment
invariant-loop-segment l = spec.first_hint l.line (drop l.segment-index l.segments) ≡ spec.first_hint l.line l.segments
