-- How a run of the program ends.
use Rattle.std.specs.Prelude.{◌<◌, ℕ, length, Result, Ok, Err, String, string_bytes}
use Rattle.std.specs.declared.alloc.Global.{Global}
use Rattle.jt_program.specs.declared.messages.Status.{Status}
use Rattle.jt_program.specs.declared.messages.Status.TheVariants as status
use Rattle.jt_program.specs.declared.messages.Failure.{Failure}
use Rattle.jt_program.specs.declared.messages.Failure.TheVariants as failure
use Rattle.jt_program.specs.declared.files.FileError.{FileError}
use Rattle.jt_program.specs.declared.files.FileError.TheVariants as file_error
use Rattle.jt_args.specs.declared.JobError.{JobError}
use Rattle.jt_args.specs.declared.JobError.TheVariants as job_error
use Rattle.jt_host.specs.declared.CallError.{CallError}
use Rattle.jt_host.specs.declared.CallError.TheVariants as call_error
use Rattle.jt_sessions.specs.declared.HostError.{HostError}
use Rattle.jt_sessions.specs.declared.HostError.TheVariants as host_error

-- The number of each status.
abbrev pub code_of : Status → ℕ
code_of status.Done = 0
code_of status.Fault = 1
code_of status.Usage = 2
code_of status.Refused = 3
code_of status.Spent = 4
code_of status.File = 5
code_of status.Memory = 6

-- The status of each error of a call.
abbrev pub call_status : CallError → Status
call_status (call_error.Image fault) = status.Refused
call_status (call_error.Code refusal) = status.Refused
call_status (call_error.Template refusal) = status.Refused
call_status (call_error.Context flaw) = status.Refused
call_status (call_error.Fault fault place) = status.Fault
call_status (call_error.Spent spent) = status.Spent
call_status call_error.NoMemory = status.Memory

-- The status of each failure.
abbrev pub status_of : Failure → Status
status_of (failure.Usage text) = status.Usage
status_of failure.Words = status.Usage
status_of (failure.Call e) = call_status e
status_of (failure.Host e) = status.Refused
status_of (failure.File path) = status.File
status_of failure.Output = status.File

-- The failure for lack of memory.
abbrev pub no_memory : Failure
no_memory = failure.Call call_error.NoMemory

-- The failure for an error of the line.
abbrev pub of_line : JobError → Failure
of_line (job_error.Usage text) = failure.Usage text
of_line job_error.NoMemory = no_memory

-- The failure for an error of the file at a path: the path, or lack of memory.
abbrev pub of_file : FileError → String Global → Failure
of_file file_error.Failed path = failure.File path
of_file file_error.NoMemory path = no_memory

-- The failure for a refusal of the host: the reason, or lack of memory.
abbrev pub of_host : HostError → Failure
of_host host_error.NoMemory = no_memory
of_host e = failure.Host e

-- The result for a line that the program does not take: the usage, or lack of memory.
abbrev pub IfUntaken : {T : Type 0} → Result T Failure → Type 0
IfUntaken (Ok x) = ⊥
IfUntaken (Err (failure.Usage text)) = Unit {0}
IfUntaken (Err (failure.Call call_error.NoMemory)) = Unit {0}
IfUntaken (Err e) = ⊥

-- The failure is the usage, and its text is not empty.
abbrev pub HasUsage : Failure → Type 0
HasUsage (failure.Usage text) = 0 < length (string_bytes text)
HasUsage e = ⊥

-- The failure of some file, or lack of memory.
abbrev pub IsOfFiles : Failure → Type 0
IsOfFiles (failure.File path) = Unit {0}
IsOfFiles (failure.Call call_error.NoMemory) = Unit {0}
IsOfFiles e = ⊥
