-- The answers of calls, and the bytes that they write to the caller's buffer.
use Rattle.std.specs.Prelude.{◌≡◌, ◌⊎◌, ℕ, List, [], ◌++◌, length, drop, nat_le, Option, Some, None, Result, Ok, Err}
use Rattle.std.specs.Prelude.{Vec, string_bytes, if◌then◌else◌}
use Rattle.std.specs.declared.alloc.Global.{Global}
use Rattle.jt_host.specs.Reasons.{error_text}
use Rattle.jt_host.specs.declared.Explanation.{Explanation}
use Rattle.jt_host.specs.declared.TagPlace.{TagPlace}
use Rattle.jt_host.specs.declared.TemplateRefusal.{TemplateRefusal}
use Rattle.jt_host.specs.declared.CallError.{CallError}
use Rattle.jt_host.specs.declared.CallError.TheVariants as call_error
use Rattle.jt_host.specs.declared.Fault.{Fault}
use Rattle.jt_host.specs.declared.Fault.TheVariants as fault
use Rattle.jt_host.specs.declared.Spent.{Spent}
use Rattle.jt_host.specs.declared.Spent.TheVariants as spent
use Rattle.jt_ffi.specs.declared.answer.Answer.{Answer}
use Rattle.jt_ffi.specs.declared.error.FfiError.{FfiError}
use Rattle.jt_ffi.specs.declared.error.FfiError.TheVariants as ffi_error

-- The result of a call: bytes, or an error.
abbrev pub CallResult : Type 0
CallResult = Result (Vec ℕ Global) FfiError

-- The buffer with `bytes` at its start if they fit, or unchanged if they do not.
abbrev pub put : List ℕ → List ℕ → List ℕ
put bytes old = if nat_le (length bytes) (length old) then bytes ++ drop (length bytes) old else old

-- The answer has these numbers, and the buffer has `bytes` at its start if they fit.
abbrev pub IsAnswer : List ℕ → ℕ → ℕ → ℕ → List ℕ → List ℕ → Answer → Type 0
IsAnswer bytes status code line old new answer =
    (answer ≡ record {
      status = status;
      code = code;
      line = line;
      letter = 0;
      length = length bytes;
    })
    × (new ≡ put bytes old)

-- The number in a fault's code.
abbrev pub fault_number : Fault → ℕ
fault_number fault.BadType = 1
fault_number fault.Undefined = 2
fault_number fault.Overflow = 3
fault_number fault.ZeroDivide = 4
fault_number fault.Unprintable = 5
fault_number fault.NotIterable = 6
fault_number fault.Unpack = 7
fault_number fault.Range = 8
fault_number fault.BadArgument = 9

-- The number that an answer has for a number of the budget.
abbrev pub spent_number : Spent → ℕ
spent_number spent.Fuel = 1
spent_number spent.Depth = 2
spent_number spent.Output = 3
spent_number spent.Size = 4
spent_number spent.Nesting = 5

-- An error is reported by the program's statuses: a fault by its number, its template and its
-- line, a spent budget by its number, and a refusal by its text, which lack of memory may replace.
abbrev pub ReportsError : CallError → List ℕ → List ℕ → Answer → Type 0
ReportsError (call_error.Fault f (Some place)) old new answer =
    IsAnswer (string_bytes place.template) 1 (fault_number f) place.line old new answer
ReportsError (call_error.Fault f None) old new answer =
    IsAnswer [] 1 (fault_number f) 0 old new answer
ReportsError (call_error.Spent s) old new answer = IsAnswer [] 4 (spent_number s) 0 old new answer
ReportsError call_error.NoMemory old new answer = IsAnswer [] 6 0 0 old new answer
ReportsError refusal old new answer =
    IsAnswer [] 6 0 0 old new answer ⊎ IsAnswer (error_text refusal) 3 0 0 old new answer

-- A failure is reported: misuse with status 2 and its number, an error as `ReportsError` states.
abbrev pub ReportsFailure : FfiError → List ℕ → List ℕ → Answer → Type 0
ReportsFailure ffi_error.Lengths old new answer = IsAnswer [] 2 1 0 old new answer
ReportsFailure ffi_error.NotText old new answer = IsAnswer [] 2 2 0 old new answer
ReportsFailure ffi_error.NotHeld old new answer = IsAnswer [] 2 3 0 old new answer
ReportsFailure (ffi_error.Call e) old new answer = ReportsError e old new answer

-- A result is reported: bytes with status 0, and a failure as `ReportsFailure` states.
abbrev pub Reports : CallResult → List ℕ → List ℕ → Answer → Type 0
Reports (Ok bytes) old new answer = IsAnswer bytes.items 0 0 0 old new answer
Reports (Err e) old new answer = ReportsFailure e old new answer

-- The call has a result of this kind, and reports it.
abbrev pub Answers : (CallResult → Type 0) → List ℕ → List ℕ → Answer → Type 0
Answers IsSo old new answer = (r : CallResult) × IsSo r × Reports r old new answer

-- ---- explanations

-- The result of a call that explains: an explanation, or an error.
abbrev pub ExplanationResult : Type 0
ExplanationResult = Result Explanation FfiError

-- The letter and the number of a refusal's code, and the line of its tag. What there is not is 0.
abbrev pub letter_of : Option TemplateRefusal → ℕ
letter_of (Some r) = r.code.letter
letter_of None = 0

abbrev pub number_of : Option TemplateRefusal → ℕ
number_of (Some r) = r.code.number
number_of None = 0

abbrev pub line_at : Option TagPlace → ℕ
line_at (Some place) = place.line
line_at None = 0

abbrev pub line_of : Option TemplateRefusal → ℕ
line_of (Some r) = line_at r.place
line_of None = 0

-- The answer has the code and the line of the refusal, and the buffer has the text at its start if
-- it fits.
abbrev pub IsExplanationAnswer : Explanation → List ℕ → List ℕ → Answer → Type 0
IsExplanationAnswer x old new answer =
    (answer ≡ record {
      status = 0;
      code = number_of x.refusal;
      line = line_of x.refusal;
      letter = letter_of x.refusal;
      length = length (string_bytes x.text);
    })
    × (new ≡ put (string_bytes x.text) old)

-- An explanation is reported with status 0, and a failure as `ReportsFailure` states.
abbrev pub ReportsExplanation : ExplanationResult → List ℕ → List ℕ → Answer → Type 0
ReportsExplanation (Ok x) old new answer = IsExplanationAnswer x old new answer
ReportsExplanation (Err e) old new answer = ReportsFailure e old new answer

-- The call has an explanation of this kind, or an error, and reports it.
abbrev pub AnswersExplained : (ExplanationResult → Type 0) → List ℕ → List ℕ → Answer → Type 0
AnswersExplained IsSo old new answer = (r : ExplanationResult) × IsSo r × ReportsExplanation r old new answer
