use Rattle.std.proofs.Common.{◌≡◌, ◌∙◌, ◌+◌, ◌<◌, ◌++◌, ◌∷◌, [], ℕ, List, None, length, sym, ap, subst, arith}
use Rattle.jt_value.specs.ContextView.{pairs_of}
use Rattle.jt_machine.specs.Session.{Session, started}
use Rattle.jt_machine.specs.View.{budget_view}
use Rattle.jt_sessions.specs.Turns.{World, opened, opening, opening_reply, bar, max_sessions, max_id}
use Rattle.jt_sessions.proofs.SessionLookup.{no_bar}
use Rattle.jt_sessions.proofs.sessions.Host.open.Goals as goal

pub returns-in-Err-push-clause-refused : goal.returns-in-Err-push-clause-refused
returns-in-Err-push-clause-refused c =
    let w : World = record { last = c.self.inside.last; sessions = c.self.inside.sessions.items } in
    let h : length w.sessions < max_sessions =
    omega (arith, c.if-len-ge-MAX_SESSIONS.false, c.len.ensures, c.self.inside.sessions.ok.0) in
    let g : w.last < max_id = grind (arith) in
    subst (λ (v : World). bar v ≡ None) c.self.view_is (no_bar w h g)

pub returns-in-Ok-push-clause-opens : goal.returns-in-Ok-push-clause-opens
returns-in-Ok-push-clause-opens c =
    let w : World = record { last = c.self.inside.last; sessions = c.self.inside.sessions.items } in
    let h : length w.sessions < max_sessions =
    omega (arith, c.if-len-ge-MAX_SESSIONS.false, c.len.ensures, c.self.inside.sessions.ok.0) in
    let g : w.last < max_id = grind (arith) in
    let s : Session = started c.args.verified (pairs_of c.args.context.now) (budget_view c.args.budget) in
    let n : World = record { last = w.last + 1; sessions = c.push.new.self.items } in
    let pushed : c.push.new.self.items ≡ w.sessions ++ (w.last + 1, s) ∷ [] =
    c.in-Ok-push.ensures.items ∙ ap (λ (m : Session). w.sessions ++ (w.last + 1, m) ∷ []) c.in-Ok.ensures.started in
    let here : n ≡ opening (bar w) s w = ap
    (λ (xs : List (ℕ × Session)). let v : World = record { last = w.last + 1; sessions = xs } in v) pushed
    ∙ sym (ap (λ b. opening b s w) (no_bar w h g)) in
    subst (λ (v : World). n ≡ opening (bar v) s v) c.self.view_is here

pub returns-in-Ok-push-clause-reply : goal.returns-in-Ok-push-clause-reply
returns-in-Ok-push-clause-reply c =
    let w : World = record { last = c.self.inside.last; sessions = c.self.inside.sessions.items } in
    let h : length w.sessions < max_sessions =
    omega (arith, c.if-len-ge-MAX_SESSIONS.false, c.len.ensures, c.self.inside.sessions.ok.0) in
    let g : w.last < max_id = grind (arith) in
    let here : opening_reply (bar w) w ≡ opened (w.last + 1) = ap (λ b. opening_reply b w) (no_bar w h g) in
    subst (λ (v : World). opening_reply (bar v) v ≡ opened (w.last + 1)) c.self.view_is here
