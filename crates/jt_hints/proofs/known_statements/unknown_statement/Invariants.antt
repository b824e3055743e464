use Rattle.std.proofs.Common.{◌≡◌, drop}
use Rattle.jt_hints.specs.KnownStatements as spec
use Rattle.jt_hints.proofs.known_statements.unknown_statement.Given as goal

abbrev pub invariant-loop-segment : goal.invariant-loop-segment
invariant-loop-segment l =
    spec.unknown_statement l.line (drop l.segment-index l.segments) ≡ spec.unknown_statement l.line l.segments
