use Rattle.std.proofs.Common.{◌≡◌, ◌∙◌, ℕ, List, subst}
use Rattle.std.specs.Prelude.{slice_set}
use Rattle.jt_machine.specs.Session.{Session}
use Rattle.jt_sessions.specs.Turns.{World, find, with_sessions, turning, turning_reply, turned, IsLost}
use Rattle.jt_sessions.specs.internal.Positions.{IsAt}
use Rattle.jt_sessions.proofs.SessionLookup.{there, turned_at, replied_at, lost_at}
use Rattle.jt_sessions.proofs.sessions.Host.turn.Goals as goal

pub returns-clause-turns : goal.returns-clause-turns
returns-clause-turns c =
    let w : World = record { last = c.self.inside.last; sessions = c.self.inside.sessions.items } in
    let a = subst (λ (xs : List (ℕ × Session)). IsAt c.args.id c.in-Some.place xs) c.deref.ensures.value
    c.in-Some.ensures.some in
    let e : c.index_mut.result.now ≡ (c.args.id, a.session) =
    c.index_mut.ensures.value ∙ there c.args.id c.in-Some.place w.sessions c.index_mut.result.now a in
    subst (λ (v : World). with_sessions w
    (slice_set w.sessions c.in-Some.place (c.index_mut.result.now.0, c.advance.new.self))
    ≡ turning (find c.args.id v.sessions) c.args.id c.args.k v)
    c.self.view_is
    (turned_at w c.args.id c.in-Some.place c.args.k c.index_mut.result.now c.advance.new.self a e c.in-Ok.ensures.steps)

pub returns-clause-reply : goal.returns-clause-reply
returns-clause-reply c =
    let w : World = record { last = c.self.inside.last; sessions = c.self.inside.sessions.items } in
    let a = subst (λ (xs : List (ℕ × Session)). IsAt c.args.id c.in-Some.place xs) c.deref.ensures.value
    c.in-Some.ensures.some in
    let e : c.index_mut.result.now ≡ (c.args.id, a.session) =
    c.index_mut.ensures.value ∙ there c.args.id c.in-Some.place w.sessions c.index_mut.result.now a in
    subst (λ (v : World). turning_reply (find c.args.id v.sessions) c.args.k ≡ turned c.in-Ok.progress) c.self.view_is
    (replied_at w c.args.id c.in-Some.place c.args.k c.index_mut.result.now c.advance.new.self c.in-Ok.progress a e
    c.in-Ok.ensures.steps c.in-Ok.ensures.progress)

pub returns-in-Err-clause-refused : goal.returns-in-Err-clause-refused
returns-in-Err-clause-refused c =
    let w : World = record { last = c.self.inside.last; sessions = c.self.inside.sessions.items } in
    let a = subst (λ (xs : List (ℕ × Session)). IsAt c.args.id c.in-Some.place xs) c.deref.ensures.value
    c.in-Some.ensures.some in
    let e : c.index_mut.result.now ≡ (c.args.id, a.session) =
    c.index_mut.ensures.value ∙ there c.args.id c.in-Some.place w.sessions c.index_mut.result.now a in
    subst (λ (v : World). IsLost c.args.id c.args.k v
    (with_sessions w (slice_set w.sessions c.in-Some.place (c.index_mut.result.now.0, c.advance.new.self))))
    c.self.view_is (lost_at w c.args.id c.in-Some.place c.args.k c.index_mut.result.now c.advance.new.self a e
    c.in-Err.ensures.lost c.in-Err.ensures.unended c.in-Err.ensures.memory)
