use Rattle.std.proofs.Common.{arith, rules}
use Rattle.jt_turns.proofs.TurnOutcomes.{ended_session, is_not_refused, is_told}
use Rattle.jt_turns.proofs.lines.outcome_at.Goals as goal

pub unreachable-requires : goal.unreachable-requires
unreachable-requires c = search (arith, rules, ended_session c.args.id c.args.count, is_told)

pub unreachable-requires-in-Err : goal.unreachable-requires-in-Err
unreachable-requires-in-Err c = search (arith, rules, ended_session c.args.id c.args.count, is_not_refused)
