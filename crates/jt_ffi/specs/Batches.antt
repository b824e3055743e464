-- Runs of one image for many contexts in one call.
use Rattle.std.specs.Prelude.{◌≡◌, ◌⊎◌, ◌<◌, ◌≤◌, ℕ, List, [], ◌∷◌, ◌++◌, length, take, drop, nat_le, Option}
use Rattle.std.specs.Prelude.{Some, None, Err, if◌then◌else◌}
use Rattle.jt_host.specs.Calls.{IsNoContext}
use Rattle.jt_host.specs.declared.Budget.{Budget}
use Rattle.jt_host.specs.declared.CallError.{CallError}
use Rattle.jt_ffi.specs.Answers.{CallResult, Reports}
use Rattle.jt_ffi.specs.Handles.{HoldsContext, ReportsKept, RunsHeld}
use Rattle.jt_ffi.specs.declared.answer.Answer.{Answer}
use Rattle.jt_ffi.specs.declared.local.Local.{Local}
use Rattle.jt_ffi.specs.declared.shared.Shared.{Shared}
use Rattle.jt_ffi.specs.declared.error.FfiError.TheVariants as ffi_error

-- ---- the result of one context

-- The held image runs for the context that the bytes spell. Or they spell none, and the error states
-- why.
abbrev pub RunsBytes : Option Shared → Budget → List ℕ → CallResult → Type 0
RunsBytes image b bytes r =
    ((context : Local) × HoldsContext bytes (Some context) × RunsHeld image (Some context) b r)
    ⊎ ((e : CallError) × (r ≡ Err (ffi_error.Call e)) × IsNoContext bytes e)

-- The held image runs for the context that the first `n` bytes spell, or there are fewer bytes.
abbrev pub RunsNext : Option Shared → Budget → ℕ → List ℕ → CallResult → Type 0
RunsNext image b n bytes r =
    ((n ≤ length bytes) × RunsBytes image b (take n bytes) r)
    ⊎ ((length bytes < n) × (r ≡ Err ffi_error.Lengths))

-- The bytes after a context of this length, or all bytes if they are fewer.
abbrev pub bytes_left : ℕ → List ℕ → List ℕ
bytes_left n bytes = if nat_le n (length bytes) then drop n bytes else bytes

-- ---- the results of many contexts

-- A result is reported in the buffer and fits it. Its answer comes first, and `More` holds of the
-- other answers, of the buffer after the result, and of what this is left as.
pub record Fits (r : CallResult) (answers : List Answer) (old new : List ℕ)
    (More : List Answer → List ℕ → List ℕ → Type 0) : Type 0 where
  pub answer : Answer
  pub others : List Answer
  pub first : answers ≡ answer ∷ others
  pub buffer : List ℕ
  pub reports : Reports r old buffer answer
  pub fits : answer.length ≤ length old
  pub rest : List ℕ
  pub bytes : new ≡ take answer.length buffer ++ rest
  pub more : More others (drop answer.length buffer) rest

-- A result is longer than the buffer. It has the last answer, and is held unless memory is lacking.
pub record IsLast (r : CallResult) (answers : List Answer) (old new : List ℕ) (held : Option Local) : Type 0 where
  pub tried : Answer
  pub buffer : List ℕ
  pub reports : Reports r old buffer tried
  pub long : length old < tried.length
  pub answer : Answer
  pub only : answers ≡ answer ∷ []
  pub kept : ReportsKept r held buffer new answer

module _ (Is : ℕ → List ℕ → CallResult → Type 0) where
  -- Each context of these lengths has a result. The results follow one another in the buffer, until
  -- one does not fit.
  abbrev pub Each : List ℕ → List ℕ → List Answer → List ℕ → List ℕ → Option Local → Type 0
  Each [] bytes answers old new held = (answers ≡ []) × (new ≡ old) × (held ≡ None)
  Each (n ∷ lengths) bytes answers old new held = (r : CallResult) × Is n bytes r
      × (Fits r answers old new (λ others next rest. Each lengths (bytes_left n bytes) others next rest held)
      ⊎ IsLast r answers old new held)

  -- The first `n` answers are those of the contexts for which there is room, and the others stay.
  pub record AnswersEach (lengths bytes : List ℕ) (before after : List Answer) (old new : List ℕ)
      (held : Option Local) (n : ℕ) : Type 0 where
    pub given : List Answer
    pub count : n ≡ length given
    pub answers : after ≡ given ++ drop n before
    pub each : Each (take (length before) lengths) bytes given old new held
