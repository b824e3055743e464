-- Sessions that take turns: the effect of each event on all of them, and the run of one of them
-- alone.
use Rattle.std.specs.Prelude.{◌≡◌, ℕ, ◌+◌, ◌-◌, ◌^◌, ◌≤◌, Bool, true, false, List, [], ◌∷◌, ◌++◌, length, Option, Some}
use Rattle.std.specs.Prelude.{None, option_map, ◌==◌, nat_le, if◌then◌else◌}
use Rattle.jt_value.specs.Pairs.{Pairs}
use Rattle.jt_image.specs.Code.{Code}
use Rattle.jt_image.specs.Config.{Budget, Outcome}
use Rattle.jt_machine.specs.Session.{Session, started, advanced, lost_session, is_lost, outcome_of, stage_progress}
use Rattle.jt_machine.specs.Growing.{MayLose}
use Rattle.jt_machine.specs.declared.Progress.{Progress}
use Rattle.jt_sessions.specs.declared.error.HostError.{HostError}
use Rattle.jt_sessions.specs.declared.error.HostError.TheVariants as error

-- ---- worlds and events

-- The open sessions, by their ids, and the last id that was assigned.
pub record World : Type 0 where
  pub last : ℕ
  pub sessions : List (ℕ × Session)

abbrev pub empty : World
empty = record { last = 0; sessions = [] }

-- The number of sessions that may be open at one time.
abbrev pub max_sessions : ℕ
max_sessions = 64

-- The greatest id.
abbrev pub max_id : ℕ
max_id = 2 ^ 64 - 1

-- A call of a host. It opens a session of a code for a context under a budget, executes a number of
-- instructions of a session, or closes it.
pub data Event : Type 0 where
  opens : Code → Pairs → Budget → Event
  turns : ℕ → ℕ → Event
  closes : ℕ → Event

-- The reply to an event: a new id, whether a session is still going, its outcome if it has ended,
-- or a refusal.
pub data Reply : Type 0 where
  opened : ℕ → Reply
  turned : Progress → Reply
  closed : Option Outcome → Reply
  refused : HostError → Reply

-- The session with this id.
abbrev pub find : ℕ → List (ℕ × Session) → Option Session
find id [] = None
find id (entry ∷ entries) = if entry.0 == id then Some entry.1 else find id entries

-- The sessions with `s` in place of the session with this id.
abbrev pub replace : ℕ → Session → List (ℕ × Session) → List (ℕ × Session)
replace id session [] = []
replace id session (entry ∷ entries) =
    if entry.0 == id then (id, session) ∷ entries else entry ∷ replace id session entries

-- The sessions without the session with this id.
abbrev pub remove : ℕ → List (ℕ × Session) → List (ℕ × Session)
remove id [] = []
remove id (entry ∷ entries) = if entry.0 == id then entries else entry ∷ remove id entries

abbrev pub with_sessions : World → List (ℕ × Session) → World
with_sessions w es = record w { sessions = es }

-- The reason why no session can be opened: 64 are open, or every id was assigned.
abbrev pub bar : World → Option HostError
bar world =
    if nat_le max_sessions (length world.sessions)
    then Some error.Full
    else if nat_le max_id world.last then Some error.NoId else None

-- ---- an event

-- The world with a new session, unless a bar exists.
abbrev pub opening : Option HostError → Session → World → World
opening (Some e) session world = world
opening None session world = record {
  last = world.last + 1;
  sessions = world.sessions ++ (world.last + 1, session) ∷ [];
}

abbrev pub turning : Option Session → ℕ → ℕ → World → World
turning None id n world = world
turning (Some session) id n world = with_sessions world (replace id (advanced n session) world.sessions)

-- The world after an event.
abbrev pub after : Event → World → World
after (opens code context budget) world = opening (bar world) (started code context budget) world
after (turns id n) world = turning (find id world.sessions) id n world
after (closes id) world = with_sessions world (remove id world.sessions)

abbrev pub opening_reply : Option HostError → World → Reply
opening_reply (Some e) world = refused e
opening_reply None world = opened (world.last + 1)

-- The reply to a turn. A lost session has no more turns.
abbrev pub turn_reply : Option Progress → Reply
turn_reply (Some p) = turned p
turn_reply None = refused error.NoMemory

abbrev pub turning_reply : Option Session → ℕ → Reply
turning_reply None n = refused error.NoSession
turning_reply (Some session) n = turn_reply (stage_progress (advanced n session).stage)

abbrev pub closing_reply : Option Session → Reply
closing_reply None = refused error.NoSession
closing_reply (Some session) = closed (outcome_of session)

-- The reply to an event.
abbrev pub reply : Event → World → Reply
reply (opens code context budget) world = opening_reply (bar world) world
reply (turns id n) world = turning_reply (find id world.sessions) n
reply (closes id) world = closing_reply (find id world.sessions)

-- ---- lists of events

-- The world after events, in order.
abbrev pub come : List Event → World → World
come [] world = world
come (event ∷ events) world = come events (after event world)

-- The effect of an event on the session with an id: its own turn, its own end, or nothing.
abbrev pub own : ℕ → Event → Option Session → Option Session
own id (opens code context budget) session = session
own id (turns named n) session = if named == id then option_map (advanced n) session else session
own id (closes named) session = if named == id then None else session

-- The session with this id alone, after the events: it takes its own turns in order, until it is
-- closed.
abbrev pub alone : ℕ → List Event → Option Session → Option Session
alone id [] session = session
alone id (event ∷ events) session = alone id events (own id event session)

abbrev pub is_opened : Reply → Bool
is_opened (opened i) = true
is_opened (turned p) = false
is_opened (closed o) = false
is_opened (refused e) = false

-- The number of sessions that the events opened.
abbrev pub count_opened : List Event → World → ℕ
count_opened [] world = 0
count_opened (event ∷ events) world =
    (if is_opened (reply event world) then 1 else 0) + count_opened events (after event world)

-- A session that was opened after some events. Whatever events come later, it is as it would be
-- alone. Each reply to a turn or a close of it is the reply of the session alone. Its id is 1 more
-- than the number of sessions that were opened before it.
pub record RunsAlone (before : List Event) (code : Code) (context : Pairs) (budget : Budget) (own_id : ℕ) :
    Type 0 where
  pub session : (later : List Event)
      → find own_id (come (before ++ opens code context budget ∷ later) empty).sessions
      ≡ alone own_id later (Some (started code context budget))
  pub turn : (later : List Event) (n : ℕ)
      → reply (turns own_id n) (come (before ++ opens code context budget ∷ later) empty)
      ≡ turning_reply (alone own_id later (Some (started code context budget))) n
  pub end : (later : List Event)
      → reply (closes own_id) (come (before ++ opens code context budget ∷ later) empty)
      ≡ closing_reply (alone own_id later (Some (started code context budget)))
  pub id : own_id ≡ count_opened before empty + 1

-- In every list of events each session runs as it would alone, and at most 64 are open.
pub record SessionsRunAlone : Type 0 where
  pub alone : (before : List Event) (code : Code) (context : Pairs) (budget : Budget) (i : ℕ)
      → reply (opens code context budget) (come before empty) ≡ opened i → RunsAlone before code context budget i
  pub few : (events : List Event) → length (come events empty).sessions ≤ max_sessions

-- ---- refusals

-- The effect of a turn of `n` instructions that a refused growth ends: the session is lost, and all
-- other sessions are unchanged. The session had no outcome yet, and these instructions may need
-- memory; a turn of 0 loses no session.
pub record IsLost (id n : ℕ) (old new : World) : Type 0 where
  pub session : Session
  pub found : find id old.sessions ≡ Some session
  pub unended : outcome_of session ≡ None
  pub memory : MayLose n session
  pub lost : new ≡ with_sessions old (replace id (lost_session session) old.sessions)

abbrev pub TurnRefused : ℕ → ℕ → World → World → HostError → Type 0
TurnRefused i n old new error.NoSession =
    (reply (turns i n) old ≡ refused error.NoSession) × (new ≡ old)
TurnRefused i n old new error.NoMemory = IsLost i n old new
TurnRefused i n old new error.Full = ⊥
TurnRefused i n old new error.NoId = ⊥

-- The reason why no session was opened: a bar existed, or a growth was refused.
abbrev pub OpenRefused : World → HostError → Type 0
OpenRefused world error.NoMemory = bar world ≡ None
OpenRefused world e = bar world ≡ Some e

-- The reason why a session reports no outcome: it does not exist, or it is lost.
abbrev pub OutcomeRefused : Option Session → HostError → Type 0
OutcomeRefused o error.NoSession = o ≡ None
OutcomeRefused o error.NoMemory = option_map (λ s. is_lost s.stage) o ≡ Some true
OutcomeRefused o error.Full = ⊥
OutcomeRefused o error.NoId = ⊥
