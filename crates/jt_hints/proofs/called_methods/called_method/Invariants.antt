use Rattle.std.proofs.Common.{◌≡◌, drop}
use Rattle.jt_hints.specs.CalledMethods as spec
use Rattle.jt_hints.proofs.called_methods.called_method.Given as goal

abbrev pub invariant-loop-segment : goal.invariant-loop-segment
invariant-loop-segment l =
    spec.called_method l.line (drop l.segment-index l.segments) ≡ spec.called_method l.line l.segments
