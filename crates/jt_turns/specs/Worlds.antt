-- The view in contracts of sessions that take turns.
use Rattle.jt_sessions.specs.Turns.{World}
use Rattle.jt_turns.specs.declared.turns.Sessions.{Sessions}

-- The open sessions, and the last id that was assigned.
abbrev pub world_of : Sessions → World
world_of s = s.host
