use Rattle.std.proofs.Common.{◌≡◌, ◌+◌, true, false, if◌then◌else◌}
use Rattle.jt_turns.specs.SessionStates.{HaveMoved, fuel_left, have_ended}
use Rattle.jt_turns.proofs.rounds.run_all.Given as goal

-- The sessions have moved, and all have ended if none is still going.
abbrev pub invariant-rounds : goal.invariant-rounds
invariant-rounds l = record {
  moved : HaveMoved l.initial.host.sessions l.host.sessions;
  ended : l.going ≡ false → have_ended l.host.sessions ≡ true;
}

-- The remaining fuel, and 1 more while a session is still going.
abbrev pub decreases-rounds : goal.decreases-rounds
decreases-rounds l = fuel_left l.host.sessions + (if l.going then 1 else 0)
