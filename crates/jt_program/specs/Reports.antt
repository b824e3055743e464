-- The reports of an ending: its status, and the bytes that both outputs take.
use Rattle.std.specs.Prelude.{◌≡◌, ◌≢◌, ◌⊎◌, ◌<◌, ℕ, length, Bool, true, false, List, [], ◌∷◌, ◌++◌, Option, option_map}
use Rattle.std.specs.Prelude.{Some, None, Result, Ok, Err, codes, string_bytes}
use Rattle.std.specs.Borrow.{Bor}
use Rattle.std.specs.Fmt.{decimal}
use Rattle.std.specs.Io.KnownBytes.{Appends, Keeps}
use Rattle.jt_ast.specs.Expressions.{Text}
use Rattle.jt_value.specs.Place.{Place}
use Rattle.jt_value.specs.declared.Fault.{Fault}
use Rattle.jt_image.specs.Config.{Limit}
use Rattle.jt_machine.specs.Sinks.{TookFront}
use Rattle.jt_machine.specs.View.{limit_view, place_view}
use Rattle.jt_machine.specs.declared.Used.{Used}
use Rattle.jt_turns.specs.Lines.{placed_fault, limit_name}
use Rattle.jt_turns.specs.Shown.{one_line}
use Rattle.jt_host.specs.Reasons.{error_text}
use Rattle.jt_host.specs.declared.CallError.TheVariants as call_error
use Rattle.jt_sessions.specs.declared.HostError.{HostError}
use Rattle.jt_sessions.specs.declared.HostError.TheVariants as host_error
use Rattle.jt_program.specs.declared.messages.Failure.{Failure}
use Rattle.jt_program.specs.declared.messages.Failure.TheVariants as failure
use Rattle.jt_program.specs.Commands.{Ending}
use Rattle.jt_program.specs.Ending.{code_of, status_of}

-- The status, and the bytes that standard output takes. A command that succeeded prints its whole
-- text, with status 0. Status 5 reports that only a beginning was printed, since the sink has
-- failed. A command that failed prints nothing.
abbrev pub Prints : Option (List ℕ) → Option (List ℕ) → Bool → Ending → ℕ → Type 0
Prints old new sink_failed (Ok text) status =
    ((status ≡ 0) × (sink_failed ≡ false) × Appends old new (string_bytes text))
    ⊎ ((status ≡ 5) × (sink_failed ≡ true) × TookFront (string_bytes text) old new)
Prints old new sink_failed (Err e) status = (status ≡ code_of (status_of e)) × Keeps old new

-- ---- standard error

-- The sink works and has taken all of these bytes, or it has failed and has taken a beginning of
-- them.
abbrev pub TookUnlessFailed : List ℕ → Option (List ℕ) → Option (List ℕ) → Bool → Type 0
TookUnlessFailed all old new sink_failed =
    ((sink_failed ≡ false) × Appends old new all) ⊎ ((sink_failed ≡ true) × TookFront all old new)

-- The sink has taken all of these bytes on success. On an error it has failed, and has taken a
-- beginning of them.
abbrev pub Puts : {E : Type 0} → List ℕ → Option (List ℕ) → Option (List ℕ) → Bool
    → Result (Unit {0}) E → Type 0
Puts all old new sink_failed (Ok u) = (sink_failed ≡ false) × Appends old new all
Puts all old new sink_failed (Err e) = (sink_failed ≡ true) × TookFront all old new

-- The texts in order, as one text.
abbrev pub texts_of : List (Bor Text) → Text
texts_of [] = []
texts_of (text ∷ []) = text.now
texts_of (text ∷ next ∷ rest) = text.now ++ texts_of (next ∷ rest)

-- The line of a fault, with its place if it has one.
abbrev pub fault_line : Fault → Option Place → Text
fault_line fault place = one_line (codes "jt: fault " ++ placed_fault fault place)

-- The code and the name of a refusal of the host.
abbrev pub host_text : HostError → Text
host_text host_error.NoSession = codes "H1 NoSession"
host_text host_error.Full = codes "H2 Full"
host_text host_error.NoMemory = codes "H3 NoMemory"
host_text host_error.NoId = codes "H4 NoId"

-- The line of a refusal.
abbrev pub refused_line : Text → Text
refused_line text = one_line (codes "jt: refused " ++ text)

-- The line of a number of the budget that was spent.
abbrev pub spent_line : Limit → Text
spent_line limit = one_line (codes "jt: spent " ++ limit_name limit)

-- The line of a file.
abbrev pub file_line : Text → Text
file_line path = one_line (codes "jt: file " ++ path)

-- The line of lack of memory.
abbrev pub memory_line : Text
memory_line = one_line (codes "jt: no memory")

-- The usage, or the line of a fault, a refusal, a spent number, a file or lack of memory.
abbrev pub failure_text : Failure → Text
failure_text (failure.Usage text) = string_bytes text
failure_text failure.Words = one_line (codes "jt: usage")
failure_text (failure.Call (call_error.Fault fault place)) = fault_line fault (option_map place_view place)
failure_text (failure.Call (call_error.Spent spent)) = spent_line (limit_view spent)
failure_text (failure.File path) = file_line (string_bytes path)
failure_text failure.Output = file_line (codes "-")
failure_text (failure.Call call_error.NoMemory) = memory_line
failure_text (failure.Call e) = refused_line (error_text e)
failure_text (failure.Host e) = refused_line (host_text e)

-- Standard error takes the text of a failure, or only a beginning of it if the sink has failed.
abbrev pub ReportsFailure : Option (List ℕ) → Option (List ℕ) → Bool → Failure → Type 0
ReportsFailure old new sink_failed e = TookUnlessFailed (failure_text e) old new sink_failed

-- The line of what a run used of its budget.
abbrev pub used_line : Used → Text
used_line u = one_line (codes "jt: used fuel " ++ (decimal u.fuel
    ++ (codes " depth " ++ (decimal u.depth ++ (codes " output " ++ (decimal u.output
    ++ (codes " size " ++ (decimal u.size ++ (codes " nesting " ++ decimal u.nesting)))))))))

-- The line of what a run used, if that is to be reported.
abbrev pub use_text : Option Used → Text
use_text None = []
use_text (Some u) = used_line u

-- Standard error takes a usage: some text that is not empty.
abbrev pub ReportsUsage : Option (List ℕ) → Option (List ℕ) → Bool → Type 0
ReportsUsage old new sink_failed =
    (text : Text) × (0 < length text) × TookUnlessFailed text old new sink_failed

-- The bytes that standard error takes for a command. For one that failed they are the text of the
-- failure, and then what its run used; for one that succeeded what its run used, or the line of
-- standard output if that has failed.
abbrev pub Explains : Option (List ℕ) → Option (List ℕ) → Bool → Ending → Option Used → ℕ → Type 0
Explains old new sink_failed (Ok text) used status =
    (status ≡ 0 → TookUnlessFailed (use_text used) old new sink_failed)
    × (status ≢ 0 → ReportsFailure old new sink_failed failure.Output)
Explains old new sink_failed (Err e) used status =
    TookUnlessFailed (failure_text e ++ use_text used) old new sink_failed
