-- The result of turns: each image runs as it would alone.
use Rattle.std.specs.Prelude.{◌≡◌, List, [], ◌∷◌, length, Result, Ok, Err, String, string_bytes}
use Rattle.std.specs.declared.alloc.Global.{Global}
use Rattle.jt_value.specs.ContextView.{pairs_of}
use Rattle.jt_image.specs.Config.{Outcome}
use Rattle.jt_image.specs.Run.{Run}
use Rattle.jt_sessions.specs.Turns.{max_sessions}
use Rattle.jt_sessions.specs.declared.HostError.{HostError}
use Rattle.jt_sessions.specs.declared.HostError.TheVariants as host_error
use Rattle.jt_turns.specs.Openings.{Opening}
use Rattle.jt_turns.specs.Lines.{session_lines}

-- Each image, run alone for its context under its budget, ends with its outcome in the list.
abbrev pub AreOutcomes : List Opening → List Outcome → Type 0
AreOutcomes [] [] = Unit {0}
AreOutcomes [] (outcome ∷ outcomes) = ⊥
AreOutcomes (opening ∷ openings) [] = ⊥
AreOutcomes (opening ∷ openings) (outcome ∷ outcomes) =
    Run opening.start.code (pairs_of opening.start.context) opening.budget outcome × AreOutcomes openings outcomes

-- The text has the line of each image, whatever the turns are; or a growth was refused.
abbrev pub TakesTurns : List Opening → Result (String Global) HostError → Type 0
TakesTurns openings (Ok text) =
    (outcomes : List Outcome) × AreOutcomes openings outcomes × (string_bytes text ≡ session_lines 1 outcomes)
TakesTurns openings (Err e) = e ≡ host_error.NoMemory

-- The reason why another session is not opened: the host is full, or a growth was refused.
abbrev pub IsNotOpened : List Opening → HostError → Type 0
IsNotOpened openings host_error.Full = length openings ≡ max_sessions
IsNotOpened openings host_error.NoMemory = Unit {0}
IsNotOpened openings e = ⊥
