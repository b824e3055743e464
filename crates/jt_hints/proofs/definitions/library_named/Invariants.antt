use Rattle.std.proofs.Common.{◌≡◌, drop}
use Rattle.jt_hints.specs.DefinedNames as spec
use Rattle.jt_hints.proofs.definitions.library_named.Given as goal

abbrev pub invariant-loop-segment : goal.invariant-loop-segment
invariant-loop-segment l =
    spec.library_named l.name (drop l.segment-index l.segments) ≡ spec.library_named l.name l.segments
