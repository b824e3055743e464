-- Runs in slices over handles.
use Rattle.std.specs.Prelude.{◌≡◌, ◌≢◌, ◌⊎◌, ℕ, List, [], Option, Some, None, Result, Ok, Err}
use Rattle.std.specs.Arc.{arc_value}
use Rattle.jt_host.specs.declared.Budget.{Budget}
use Rattle.jt_host.specs.declared.CallError.TheVariants as call_error
use Rattle.jt_image.specs.Code.{Code}
use Rattle.jt_image.specs.Config as config
use Rattle.jt_image.specs.Config.{Limit, Outcome as End}
use Rattle.jt_machine.specs.Metering.{Metered, metered_after, metered_start, nothing_used}
use Rattle.jt_machine.specs.Session.{RunStage, going, done, lost, lost_session}
use Rattle.jt_machine.specs.View.{budget_view}
use Rattle.jt_machine.specs.declared.metered_run.Used.{Used}
use Rattle.jt_value.specs.ContextView.{pairs_of}
use Rattle.jt_ffi.specs.Answers.{CallResult, IsAnswer, Reports, fault_number}
use Rattle.jt_ffi.specs.Handles.{RunsHeld}
use Rattle.jt_ffi.specs.declared.answer.Answer.{Answer}
use Rattle.jt_ffi.specs.declared.local.Local.{Local}
use Rattle.jt_ffi.specs.declared.local.Local.TheVariants.{Context, Outcome, Run}
use Rattle.jt_ffi.specs.declared.shared.Shared.{Shared}
use Rattle.jt_ffi.specs.declared.shared.Shared.TheVariants.{Image, Library}
use Rattle.jt_ffi.specs.declared.error.FfiError.{FfiError}
use Rattle.jt_ffi.specs.declared.error.FfiError.TheVariants as ffi_error

-- ---- the start

-- A started run, or an error.
abbrev pub StartResult : Type 0
StartResult = Result Metered FfiError

-- The result is this run, or lack of memory.
abbrev pub IsStarted : Metered → StartResult → Type 0
IsStarted run (Ok started) = started ≡ run
IsStarted run (Err (ffi_error.Call call_error.NoMemory)) = Unit {0}
IsStarted run (Err e) = ⊥

-- The code starts a run for the held value, if that is a context.
abbrev pub StartedFor : Code → Local → Budget → StartResult → Type 0
StartedFor code (Context context) b r =
    IsStarted (metered_start code (pairs_of context) (budget_view b)) r
StartedFor code (Outcome outcome) b r = r ≡ Err ffi_error.NotHeld
StartedFor code (Run run) b r = r ≡ Err ffi_error.NotHeld

-- The image that is held starts a run for the context that is held.
abbrev pub StartedHeld : Option Shared → Option Local → Budget → StartResult → Type 0
StartedHeld (Some (Image image)) (Some context) b r = StartedFor (arc_value image) context b r
StartedHeld (Some (Image image)) None b r = r ≡ Err ffi_error.NotHeld
StartedHeld (Some (Library templates)) context b r = r ≡ Err ffi_error.NotHeld
StartedHeld None context b r = r ≡ Err ffi_error.NotHeld

-- A started run is held, with status 0, unless memory is lacking. Else nothing is held, and the
-- status is 2 for misuse or 6 for lack of memory.
abbrev pub StartsKept : StartResult → Option Local → ℕ → Type 0
StartsKept (Ok run) held status =
    ((held ≡ Some (Run run)) × (status ≡ 0)) ⊎ ((held ≡ None) × (status ≡ 6))
StartsKept (Err ffi_error.NotHeld) held status = (held ≡ None) × (status ≡ 2)
StartsKept (Err e) held status = (held ≡ None) × (status ≡ 6)

-- A run of the image for the context is started, and held.
abbrev pub StartsHeld : Option Shared → Option Local → Budget → Option Local → ℕ → Type 0
StartsHeld image context b held status =
    (r : StartResult) × StartedHeld image context b r × StartsKept r held status

-- ---- slices

-- The status of a run: 7 if it goes on, 0 if it has ended, 6 if it is lost.
abbrev pub stage_status : RunStage → ℕ
stage_status (going c) = 7
stage_status (done o) = 0
stage_status lost = 6

-- The run has executed `n` more steps, or it is lost because memory was refused.
abbrev pub Advances : ℕ → Metered → Metered → ℕ → Type 0
Advances n old new status =
    ((new ≡ metered_after n old) × (status ≡ stage_status (metered_after n old).session.stage))
    ⊎ ((new ≡ record old { session = lost_session old.session }) × (status ≡ 6))

-- The held run advances. Another value stays as it is, and the status is misuse.
abbrev pub AdvancesLocal : ℕ → Local → Local → ℕ → Type 0
AdvancesLocal n (Run old) held status = (new : Metered) × (held ≡ Run new) × Advances n old new status
AdvancesLocal n (Context context) held status = (held ≡ Context context) × (status ≡ 2)
AdvancesLocal n (Outcome outcome) held status = (held ≡ Outcome outcome) × (status ≡ 2)

abbrev pub AdvancesHeld : ℕ → Option Local → Option Local → ℕ → Type 0
AdvancesHeld n (Some old) held status = (new : Local) × (held ≡ Some new) × AdvancesLocal n old new status
AdvancesHeld n None held status = (held ≡ None) × (status ≡ 2)

-- ---- outcomes

-- The number that an answer has for a limit.
abbrev pub limit_number : Limit → ℕ
limit_number config.fuel = 1
limit_number config.depth = 2
limit_number config.output = 3
limit_number config.size = 4
limit_number config.nesting = 5

-- The outcome of a run is reported: a text with status 0, a fault by its number, its template and
-- its line, a spent budget by its number.
abbrev pub ReportsEnd : End → List ℕ → List ℕ → Answer → Type 0
ReportsEnd (config.text t) old new answer = IsAnswer t 0 0 0 old new answer
ReportsEnd (config.fault f (Some place)) old new answer =
    IsAnswer place.template 1 (fault_number f) place.line old new answer
ReportsEnd (config.fault f None) old new answer = IsAnswer [] 1 (fault_number f) 0 old new answer
ReportsEnd (config.spent l) old new answer = IsAnswer [] 4 (limit_number l) 0 old new answer

-- A run that has ended is reported by its outcome. A run that goes on has none, which is misuse, and
-- a lost run lacks memory.
abbrev pub ReportsStage : RunStage → List ℕ → List ℕ → Answer → Type 0
ReportsStage (going c) old new answer = IsAnswer [] 2 4 0 old new answer
ReportsStage (done o) old new answer = ReportsEnd o old new answer
ReportsStage lost old new answer = IsAnswer [] 6 0 0 old new answer

abbrev pub ReportsRunOf : Local → List ℕ → List ℕ → Answer → Type 0
ReportsRunOf (Run run) old new answer = ReportsStage run.session.stage old new answer
ReportsRunOf (Context context) old new answer = Reports (Err ffi_error.NotHeld) old new answer
ReportsRunOf (Outcome outcome) old new answer = Reports (Err ffi_error.NotHeld) old new answer

-- The outcome of the run that is held is reported.
abbrev pub ReportsRun : Option Local → List ℕ → List ℕ → Answer → Type 0
ReportsRun (Some held) old new answer = ReportsRunOf held old new answer
ReportsRun None old new answer = Reports (Err ffi_error.NotHeld) old new answer

-- The handle holds the run of the image for the context under the budget after `n` steps, at which
-- it has ended.
abbrev pub EndsFor : Code → Local → Budget → ℕ → Option Local → Type 0
EndsFor code (Context context) b n held = (o : End)
    × ((metered_after n (metered_start code (pairs_of context) (budget_view b))).session.stage ≡ done o)
    × (held ≡ Some (Run (metered_after n (metered_start code (pairs_of context) (budget_view b)))))
EndsFor code (Outcome outcome) b n held = ⊥
EndsFor code (Run run) b n held = ⊥

abbrev pub HasEnded : Option Shared → Option Local → Budget → ℕ → Option Local → Type 0
HasEnded (Some (Image image)) (Some context) b n held = EndsFor (arc_value image) context b n held
HasEnded (Some (Image image)) None b n held = ⊥
HasEnded (Some (Library templates)) context b n held = ⊥
HasEnded None context b n held = ⊥

-- The answer reports whatever result the run of the image for the context has in one call, unless
-- that lacks memory.
abbrev pub ReportsWhole : Option Shared → Option Local → Budget → List ℕ → List ℕ → Answer → Type 0
ReportsWhole image context b old new answer =
    (r : CallResult) → RunsHeld image context b r → r ≢ Err (ffi_error.Call call_error.NoMemory)
    → Reports r old new answer

-- ---- what a run used

abbrev pub used_in : Local → Used
used_in (Run run) = run.used
used_in (Context context) = nothing_used
used_in (Outcome outcome) = nothing_used

-- What the run that is held has used; nothing if no run is held.
abbrev pub used_held : Option Local → Used
used_held (Some held) = used_in held
used_held None = nothing_used
