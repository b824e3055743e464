-- The result of an operation under limits of size and nesting.
use Rattle.std.specs.Prelude.{◌≡◌, ℕ, Bool, ◌-◌, ◌^◌, min, true, Result, Ok, Err, nat_lt, if◌then◌else◌}
use Rattle.jt_value.specs.Payload.{has_payload}
use Rattle.jt_value.specs.Tree.{Tree, size, nesting}
use Rattle.jt_value.specs.View.{view}
use Rattle.jt_value.specs.declared.value.Value.{Value}
use Rattle.jt_value.specs.declared.fault.Fault.{Fault}
use Rattle.jt_ops.specs.declared.limits.Limits.{Limits}
use Rattle.jt_ops.specs.declared.limits.OpError.{OpError}
use Rattle.jt_ops.specs.declared.limits.OpError.TheVariants as error
use Rattle.jt_value.specs.declared.fault.ValueError.{ValueError}
use Rattle.jt_value.specs.declared.fault.ValueError.TheVariants as value_error

-- The fault, if there is one. Otherwise TooLarge if the result's size exceeds its limit, else
-- TooDeep if its nesting does, else the result.
abbrev pub limited : ℕ → ℕ → Result Tree Fault → Result Tree OpError
limited most deepest (Err fault) = Err (error.Fault fault)
limited most deepest (Ok t) =
    if nat_lt most (size t)
    then Err error.TooLarge
    else (if nat_lt deepest (nesting t) then Err error.TooDeep else Ok t)

abbrev pub limited_by : Limits → Result Tree Fault → Result Tree OpError
limited_by limits given = limited limits.size limits.nesting given

-- Holds if the result is a value with a payload.
abbrev pub NeedsMemory : Result Tree OpError → Type 0
NeedsMemory (Ok t) = has_payload t ≡ true
NeedsMemory (Err e) = ⊥

-- Holds if a call returns the result of the operation. It returns NoMemory only if the result is a
-- value with a payload, so lack of memory never hides a fault or a limit.
abbrev pub Answers : Result Value OpError → Result Tree OpError → Type 0
Answers (Ok value) wanted = wanted ≡ Ok (view value)
Answers (Err (error.Fault fault)) wanted = wanted ≡ Err (error.Fault fault)
Answers (Err error.TooLarge) wanted = wanted ≡ Err error.TooLarge
Answers (Err error.TooDeep) wanted = wanted ≡ Err error.TooDeep
Answers (Err error.NoMemory) wanted = NeedsMemory wanted

-- Holds if a call returns this value, or the limit that refuses it.
abbrev pub AnswersWith : Limits → Tree → Result Value OpError → Type 0
AnswersWith limits t result = Answers result (limited_by limits (Ok t))

-- Holds if P holds of each value with this size and nesting. Each of the two may be the greatest
-- number of its type for a value that exceeds it.
abbrev pub OfMeasure : ℕ → ℕ → (Tree → Type 0) → Type 0
OfMeasure s n P =
    (t : Tree) → s ≡ min (size t) (2 ^ 64 - 1) → n ≡ min (nesting t) (2 ^ 32 - 1) → P t

-- The error of a call on values as an error of an operation.
abbrev pub of_value_error : ValueError → OpError
of_value_error (value_error.Fault fault) = error.Fault fault
of_value_error value_error.NoMemory = error.NoMemory

-- The result of a call of a test. A test has no limits and allocates nothing.
abbrev pub as_answer : Result Bool Fault → Result Bool OpError
as_answer (Ok b) = Ok b
as_answer (Err fault) = Err (error.Fault fault)
