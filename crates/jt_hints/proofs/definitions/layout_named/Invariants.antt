use Rattle.std.proofs.Common.{◌≡◌, drop}
use Rattle.jt_hints.specs.DefinedNames as spec
use Rattle.jt_hints.proofs.definitions.layout_named.Given as goal

abbrev pub invariant-loop-segment : goal.invariant-loop-segment
invariant-loop-segment l = spec.layout_named (drop l.segment-index l.segments) ≡ spec.layout_named l.segments
