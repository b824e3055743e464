use Rattle.std.proofs.Common.{◌≡◌, None, take}
use Rattle.jt_sessions.specs.Turns.{find}
use Rattle.jt_sessions.proofs.sessions.place_of.Given as goal

abbrev pub invariant-places : goal.invariant-places
invariant-places l = find l.id (take l.i l.sessions) ≡ None
