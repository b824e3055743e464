use Rattle.std.proofs.Common.{◌∙◌, ℕ, sym, ap}
use Rattle.jt_machine.specs.Session.{Session}
use Rattle.jt_sessions.proofs.SessionLookup.{at_place, not_yet, is_other}
use Rattle.jt_sessions.proofs.sessions.place_of.Goals as goal

pub returns-then-sessions-i-clause-some : goal.returns-then-sessions-i-clause-some
returns-then-sessions-i-clause-some c =
    at_place c.args.id c.places.i c.args.sessions.now c.index-sessions-i.result c.places-test.true c.index-sessions-i.is
    c.places.invariant (ap (λ (f : ℕ × Session). f.0) c.index-sessions-i.is ∙ c.if-sessions-i.true)

pub places-preserved : goal.places-preserved
places-preserved c =
    not_yet c.args.id c.places.i c.args.sessions.now c.index-sessions-i.result c.places-test.true c.index-sessions-i.is
    c.places.invariant (is_other c.index-sessions-i.result.0 c.args.id
    (λ h. c.if-sessions-i.false (sym (ap (λ (f : ℕ × Session). f.0) c.index-sessions-i.is) ∙ h)))
