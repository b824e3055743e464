use Rattle.std.proofs.Common.{◌≡◌, drop}
use Rattle.jt_hints.specs.Positions as spec
use Rattle.jt_hints.proofs.positions.position_hint.Given as goal

abbrev pub invariant-loop-segment : goal.invariant-loop-segment
invariant-loop-segment l =
    spec.hint_from l.passed l.opened.items (drop l.segment-index l.segments) l.line
    ≡ spec.position_hint l.segments l.line
