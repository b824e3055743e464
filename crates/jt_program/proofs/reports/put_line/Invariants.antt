use Rattle.std.proofs.Common.{Bool, List, Option, Result, ℕ}
use Rattle.jt_machine.specs.declared.SinkFailed.{SinkFailed}
use Rattle.jt_turns.specs.Shown.{one_line}
use Rattle.jt_program.specs.Reports.{Puts, texts_of}
use Rattle.jt_program.proofs.SinkLines.{line_from}
use Rattle.jt_program.proofs.reports.put_line.Given as goal

-- If the remaining parts are put, the whole line has been put.
abbrev pub invariant-loop-part : goal.invariant-loop-part
invariant-loop-part g l =
    (new : Option (List ℕ)) (f : Bool) (r : Result (Unit {0}) SinkFailed)
    → Puts (line_from l.parts l.part-index) (g.E.Sink.taken l.errors) new f r
    → Puts (one_line (texts_of l.parts)) (g.E.Sink.taken l.initial.errors) new f r
