-- The states of sessions that take turns in a host.
use Rattle.std.specs.Prelude.{◌≡◌, ◌≤◌, ℕ, ◌+◌, Bool, true, false, List, [], ◌∷◌, ◌++◌, length, Some, is_some}
use Rattle.std.specs.Prelude.{option_to_list}
use Rattle.std.specs.List.{list_all}
use Rattle.jt_value.specs.ContextView.{pairs_of}
use Rattle.jt_image.specs.Config.{Outcome}
use Rattle.jt_machine.specs.Session.{Session, RunStage, advanced, outcome_of, started, going, done, lost}
use Rattle.jt_machine.specs.declared.outcome.Progress.{Progress}
use Rattle.jt_machine.specs.declared.outcome.Progress.TheVariants as progress
use Rattle.jt_sessions.specs.Turns.{World, after, find, max_sessions, reply, turned, turns}
use Rattle.jt_turns.specs.Openings.{Opening}

-- The session of an image for its context under its budget, before its first instruction.
abbrev pub first_of : Opening → Session
first_of o = started o.start.code (pairs_of o.start.context) o.budget

-- The session of an image, after some number of instructions.
abbrev pub IsSession : Opening → Session → Type 0
IsSession o x = (n : ℕ) × (x ≡ advanced n (first_of o))

-- The sessions are the sessions of the images, with consecutive ids.
abbrev pub AreSessions : ℕ → List Opening → List (ℕ × Session) → Type 0
AreSessions i [] [] = Unit {0}
AreSessions i [] (e ∷ es) = ⊥
AreSessions i (o ∷ os) [] = ⊥
AreSessions i (o ∷ os) (e ∷ es) = (e.0 ≡ i) × IsSession o e.1 × AreSessions (i + 1) os es

-- The host has exactly the sessions of the images, each under its own budget, and has space for
-- them.
abbrev pub Stands : List Opening → World → Type 0
Stands os w = (w.last ≡ length os) × AreSessions 1 os w.sessions × (length os ≤ max_sessions)

-- The ids of the sessions are consecutive.
abbrev pub AreNumbered : ℕ → List (ℕ × Session) → Type 0
AreNumbered i [] = Unit {0}
AreNumbered i (e ∷ es) = (e.0 ≡ i) × AreNumbered (i + 1) es

-- The number of sessions is `n`, with the ids from 1.
abbrev pub IsNumbered : ℕ → List (ℕ × Session) → Type 0
IsNumbered n es = (length es ≡ n) × AreNumbered 1 es

-- Each session has executed some number of further instructions.
abbrev pub HaveMoved : List (ℕ × Session) → List (ℕ × Session) → Type 0
HaveMoved [] [] = Unit {0}
HaveMoved [] (e ∷ es) = ⊥
HaveMoved (d ∷ ds) [] = ⊥
HaveMoved (d ∷ ds) (e ∷ es) = (d.0 ≡ e.0) × ((n : ℕ) × (e.1 ≡ advanced n d.1)) × HaveMoved ds es

-- The progress that a turn reports, by whether the session is still going.
abbrev pub progress_of : Bool → Progress
progress_of true = progress.Going
progress_of false = progress.Done

-- A turn of the session with the id `i` led from one world to the other, with this progress.
pub record HadTurn (w v : World) (i n : ℕ) (p : Progress) : Type 0 where
  pub new : v ≡ after (turns i n) w
  pub told : reply (turns i n) w ≡ turned p

-- The fuel that a session has left plus 1 if it is still going, else 0.
abbrev pub fuel_of : RunStage → ℕ
fuel_of (going c) = c.left.fuel + 1
fuel_of (done o) = 0
fuel_of lost = 0

-- The sum of `fuel_of` over all sessions.
abbrev pub fuel_left : List (ℕ × Session) → ℕ
fuel_left [] = 0
fuel_left (e ∷ es) = fuel_of e.1.stage + fuel_left es

-- Whether each session has ended.
abbrev pub have_ended : List (ℕ × Session) → Bool
have_ended = list_all (λ e. is_some (outcome_of e.1))

-- The outcomes of the sessions that have ended, in order.
abbrev pub outcomes : List (ℕ × Session) → List Outcome
outcomes [] = []
outcomes (e ∷ es) = option_to_list (outcome_of e.1) ++ outcomes es

-- The session with this id has ended with this outcome.
pub record OutcomeAt (i : ℕ) (es : List (ℕ × Session)) (o : Outcome) : Type 0 where
  pub session : Session
  pub found : find i es ≡ Some session
  pub ended : outcome_of session ≡ Some o
