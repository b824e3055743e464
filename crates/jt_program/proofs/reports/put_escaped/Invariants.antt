use Rattle.std.proofs.Common.{Bool, List, Option, Result, length, ◌≤◌, ℕ}
use Rattle.jt_machine.specs.declared.SinkFailed.{SinkFailed}
use Rattle.std.specs.Char.{is_ascii_control}
use Rattle.jt_escape.proofs.EscapedTextCorrect.{still_shown}
use Rattle.jt_turns.specs.Shown.{escape, shown}
use Rattle.jt_program.specs.Reports.{Puts}
use Rattle.jt_program.proofs.reports.put_escaped.Given as goal

-- If the bytes still to be shown are put, the whole text has been put.
abbrev pub invariant-loop-at : goal.invariant-loop-at
invariant-loop-at g l = record {
  order : l.plain ≤ l.at;
  within : l.plain ≤ length l.text;
  so : (new : Option (List ℕ)) (f : Bool) (r : Result (Unit {0}) SinkFailed)
      → Puts (still_shown is_ascii_control escape l.text l.plain l.at) (g.E.Sink.taken l.errors) new f r
      → Puts (shown l.text) (g.E.Sink.taken l.initial.errors) new f r;
}
