use Rattle.std.proofs.Common.{◌≡◌, drop}
use Rattle.jt_hints.specs.Fitting as spec
use Rattle.jt_hints.proofs.fitting.macro_parameters.Given as goal

abbrev pub invariant-loop-segment : goal.invariant-loop-segment
invariant-loop-segment l =
    spec.macro_parameters l.name (drop l.segment-index l.segments) ≡ spec.macro_parameters l.name l.segments
