use Rattle.std.proofs.Common.{rules, tests}
use Rattle.jt_turns.specs.SessionStates.{outcomes}
use Rattle.jt_turns.proofs.OpenedSessions.{are_numbered}
use Rattle.jt_turns.proofs.TurnOutcomes.{moved_are_numbered, outcomes_are, said, still_sessions}
use Rattle.jt_turns.proofs.turns.Sessions.run.Goals as goal

pub run_all-requires-clause-numbered : goal.run_all-requires-clause-numbered
run_all-requires-clause-numbered c = are_numbered c.args.self.count c.args.self.host.sessions c.args.self.numbered

pub lines-requires-clause-numbered : goal.lines-requires-clause-numbered
lines-requires-clause-numbered c =
    moved_are_numbered c.args.self.count c.args.self.host.sessions c.run_all.new.host.sessions
    c.in_ok-run_all.ensures.moved (are_numbered c.args.self.count c.args.self.host.sessions c.args.self.numbered)

pub returns : goal.returns
returns c = λ os h.
    let es = c.run_all.new.host.sessions in
    let still =
    still_sessions c.session_laws.ensures 1 os c.args.self.host.sessions es h.1 c.in_ok-run_all.ensures.moved in
    said os (outcomes es) c.lines.result c.map_err.result _
    (outcomes_are 1 os es still c.in_ok-run_all.ensures.ended) c.lines.ensures c.map_err.ensures.cases
    (λ e x q. search (rules, tests))
