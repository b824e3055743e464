use Rattle.std.proofs.Common.{◌≡◌, [], drop}
use Rattle.jt_hints.specs.Nesting.{hint_from}
use Rattle.jt_hints.proofs.nesting.nesting_hint.Given as goal

abbrev pub invariant-loop-segment : goal.invariant-loop-segment
invariant-loop-segment l =
    hint_from l.opened.items (drop l.segment-index l.segments) l.line ≡ hint_from [] l.segments l.line
