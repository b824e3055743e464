use Rattle.std.proofs.Common.{◌≡◌, string_bytes, take}
use Rattle.jt_turns.specs.Lines.{session_lines}
use Rattle.jt_turns.specs.SessionStates.{outcomes}
use Rattle.jt_turns.proofs.lines.lines.Given as goal

-- The text so far has the lines of the sessions so far.
abbrev pub invariant-ids : goal.invariant-ids
invariant-ids l = string_bytes l.text ≡ session_lines 1 (outcomes (take l.before l.host.sessions))
