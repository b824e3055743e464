use Rattle.std.proofs.Common.{arith, rules}
use Rattle.jt_machine.specs.View.{budget_view}
use Rattle.jt_turns.specs.Openings.{under}
use Rattle.jt_turns.proofs.OpenedSessions.{next_id, refused_start, stands_more}
use Rattle.jt_turns.proofs.turns.Sessions.open.Goals as goal

pub returns-in-Ok-clause-opened : goal.returns-in-Ok-clause-opened
returns-in-Ok-clause-opened c = λ os h.
    stands_more os (under (budget_view c.args.budget) c.args.start) c.args.self.now.host c.open.new.self c.in-Ok.id h
    c.in-Ok.ensures.opens c.in-Ok.ensures.reply

pub returns-clause-refused : goal.returns-clause-refused
returns-clause-refused c =
    λ os h. refused_start os c.args.self.now.host c.in-Err.error h c.in-Err.ensures.refused

pub invariant_of-self : goal.invariant_of-self
invariant_of-self c = search (arith, rules, next_id)
