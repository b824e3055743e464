use Rattle.std.proofs.Common.{◌≡◌, ◌∙◌, ℕ, List, subst, arith, rules}
use Rattle.std.specs.Prelude.{option_map}
use Rattle.jt_machine.specs.Session.{Session}
use Rattle.jt_machine.specs.View.{outcome_view}
use Rattle.jt_sessions.specs.Turns.{World, find, remove, with_sessions, closed, closing_reply}
use Rattle.jt_sessions.specs.internal.Positions.{IsAt}
use Rattle.jt_sessions.proofs.SessionLookup.{there, closed_at, closed_reply, none_closed}
use Rattle.jt_sessions.proofs.sessions.Host.close.Goals as goal

pub returns-in_default-clause-closes : goal.returns-in_default-clause-closes
returns-in_default-clause-closes c = search (arith, rules, none_closed)

pub returns-clause-closes : goal.returns-clause-closes
returns-clause-closes c =
    let w : World = record { last = c.self.inside.last; sessions = c.self.inside.sessions.items } in
    let a = subst (λ (xs : List (ℕ × Session)). IsAt c.args.id c.in-Some.place xs) c.deref.ensures.value
    c.in-Some.ensures.some in
    subst
    (λ (v : World). with_sessions w c.remove-machine.new.self.items ≡ with_sessions v (remove c.args.id v.sessions))
    c.self.view_is
    (closed_at w c.args.id c.in-Some.place c.remove-machine.new.self.items a c.remove-machine.ensures.items)

pub returns-clause-reply : goal.returns-clause-reply
returns-clause-reply c =
    let w : World = record { last = c.self.inside.last; sessions = c.self.inside.sessions.items } in
    let a = subst (λ (xs : List (ℕ × Session)). IsAt c.args.id c.in-Some.place xs) c.deref.ensures.value
    c.in-Some.ensures.some in
    let e : c.remove-machine.result ≡ (c.args.id, a.session) =
    c.remove-machine.ensures.value ∙ there c.args.id c.in-Some.place w.sessions c.remove-machine.result a in
    subst (λ (v : World).
    closing_reply (find c.args.id v.sessions) ≡ closed (option_map outcome_view c.finish-outcome.result.1))
    c.self.view_is (closed_reply w c.args.id c.in-Some.place c.remove-machine.result
    (option_map outcome_view c.finish-outcome.result.1) a e c.finish-outcome.ensures.outcome)
