use Rattle.std.proofs.Common.{sym, arith, rules}
use Rattle.jt_turns.proofs.SessionsById.{false_true}
use Rattle.jt_turns.proofs.TurnOutcomes.{moved_both, moved_length, moved_none, moved_numbered}
use Rattle.jt_turns.proofs.rounds.run_all.Goals as goal

pub rounds-init : goal.rounds-init
rounds-init c = record { moved = moved_none _; ended = λ e. absurd (false_true (sym e)) }

pub run_each-requires-clause-numbered : goal.run_each-requires-clause-numbered
run_each-requires-clause-numbered c = search (arith, rules, moved_length, moved_numbered)

pub rounds-preserved : goal.rounds-preserved
rounds-preserved c = search (arith, rules, moved_both)
