-- Sessions with consecutive ids.
use Rattle.std.proofs.Common.{◌≡◌, ◌∙◌, ℕ, ◌+◌, true, false, List, [], ◌∷◌, ◌++◌, length, Some, ap, arith, rules}
use Rattle.jt_value.specs.Pairs.{Pairs}
use Rattle.jt_image.specs.Code.{Code}
use Rattle.jt_image.specs.Config as config
use Rattle.jt_image.specs.Config.{Outcome}
use Rattle.jt_image.specs.Run.{Run}
use Rattle.jt_machine.specs.Session.{Session, SessionLaws, advanced, outcome_of, started}
use Rattle.jt_sessions.specs.Turns.{find, replace}
use Rattle.jt_turns.specs.Openings.{Opening}
use Rattle.jt_turns.specs.SessionStates.{AreSessions, IsSession, first_of, fuel_left, fuel_of}

pub false_true : false ≡ true → ⊥
false_true e = absurd (cc)

-- An outcome after some instructions is that of the run.
pub run_of : (k : Code) (x : Pairs) (b : config.Budget) (n : ℕ) (o : Outcome)
    → outcome_of (advanced n (started k x b)) ≡ Some o → Run k x b o
run_of k x b n o e = search (arith, rules)

-- If a session replaces another, the sum of the remaining fuel changes by the difference of both.
pub replaced_fuel : (j : ℕ) (s t : Session) (es : List (ℕ × Session)) → find j es ≡ Some s
    → fuel_left (replace j t es) + fuel_of s.stage ≡ fuel_left es + fuel_of t.stage
replaced_fuel j s t [] e = absurd (cc)
replaced_fuel j s t (x ∷ es) e = search (arith, rules, replaced_fuel j s t es)

-- If one more session of one more image is opened, the sessions are those of the images.
pub one_session_more : (i : ℕ) (os : List Opening) (o : Opening) (es : List (ℕ × Session)) (x : Session)
    → AreSessions i os es → IsSession o x
    → AreSessions i (os ++ o ∷ []) (es ++ (i + length os, x) ∷ [])
one_session_more i (r ∷ rs) o (e ∷ es) x h is = search (arith, rules, one_session_more (i + 1) rs o es x h.2 is)
one_session_more i a1 o a3 x h is = search (arith, rules)

-- A session after a turn is still a session of its image.
pub moved_session : SessionLaws → (o : Opening) (x : Session) (n : ℕ) → IsSession o x → IsSession o (advanced n x)
moved_session laws o x n h = (h.0 + n, ap (advanced n) h.1 ∙ laws.both h.0 n (first_of o))
