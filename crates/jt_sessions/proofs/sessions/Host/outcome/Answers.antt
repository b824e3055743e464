use Rattle.std.proofs.Common.{◌≡◌, ◌∙◌, ℕ, List, Some, true, false, sym, subst}
use Rattle.std.specs.Prelude.{option_map, option_copied}
use Rattle.jt_machine.specs.Session.{Session, is_lost, outcome_of}
use Rattle.jt_machine.specs.View.{outcome_view}
use Rattle.jt_sessions.specs.Turns.{World, find}
use Rattle.jt_sessions.specs.internal.Positions.{IsAt}
use Rattle.jt_sessions.proofs.SessionLookup.{there, lost_there, outcome_there}
use Rattle.jt_sessions.proofs.sessions.Host.outcome.Goals as goal

pub returns-then-is_lost-clause-refused : goal.returns-then-is_lost-clause-refused
returns-then-is_lost-clause-refused c =
    let w : World = record { last = c.self.inside.last; sessions = c.self.inside.sessions.items } in
    let a = subst (λ (xs : List (ℕ × Session)). IsAt c.args.id c.in-Some.place xs) c.deref.ensures.value
    c.in-Some.ensures.some in
    let e : c.index.result.now ≡ (c.args.id, a.session) =
    c.index.ensures ∙ there c.args.id c.in-Some.place w.sessions c.index.result.now a in
    subst (λ (v : World). option_map (λ (s : Session). is_lost s.stage) (find c.args.id v.sessions) ≡ Some true)
    c.self.view_is
    (lost_there w c.args.id c.in-Some.place c.index.result.now true a e (sym c.is_lost.ensures ∙ c.if-is_lost.true))

pub returns-clause-going : goal.returns-clause-going
returns-clause-going c =
    let w : World = record { last = c.self.inside.last; sessions = c.self.inside.sessions.items } in
    let a = subst (λ (xs : List (ℕ × Session)). IsAt c.args.id c.in-Some.place xs) c.deref.ensures.value
    c.in-Some.ensures.some in
    let e : c.index.result.now ≡ (c.args.id, a.session) =
    c.index.ensures ∙ there c.args.id c.in-Some.place w.sessions c.index.result.now a in
    subst (λ (v : World). option_map (λ (s : Session). is_lost s.stage) (find c.args.id v.sessions) ≡ Some false)
    c.self.view_is
    (lost_there w c.args.id c.in-Some.place c.index.result.now false a e (sym c.is_lost.ensures ∙ c.if-is_lost.false))

pub returns-clause-outcome : goal.returns-clause-outcome
returns-clause-outcome c =
    let w : World = record { last = c.self.inside.last; sessions = c.self.inside.sessions.items } in
    let a = subst (λ (xs : List (ℕ × Session)). IsAt c.args.id c.in-Some.place xs) c.deref.ensures.value
    c.in-Some.ensures.some in
    let e : c.index.result.now ≡ (c.args.id, a.session) =
    c.index.ensures ∙ there c.args.id c.in-Some.place w.sessions c.index.result.now a in
    subst (λ (v : World).
    Some (option_map outcome_view (option_copied c.outcome.result)) ≡ option_map outcome_of (find c.args.id v.sessions))
    c.self.view_is (outcome_there w c.args.id c.in-Some.place c.index.result.now
    (option_map outcome_view (option_copied c.outcome.result)) a e c.outcome.ensures)
