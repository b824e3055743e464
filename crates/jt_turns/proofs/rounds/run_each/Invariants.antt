use Rattle.jt_turns.proofs.RoundStep.{Round}
use Rattle.jt_turns.proofs.rounds.run_each.Given as goal

-- The round has gone up to the sessions so far.
abbrev pub invariant-ids : goal.invariant-ids
invariant-ids l = Round l.initial.host.sessions l.host l.before l.going
