-- The result of each call over bytes.
use Rattle.std.specs.Prelude.{◌≡◌, ◌≢◌, ℕ, List, [], Result, Ok, Err, String, length, string_bytes}
use Rattle.std.specs.declared.alloc.Global.{Global}
use Rattle.std.specs.Str.{IsUtf8}
use Rattle.jt_contexts.specs.Json.{IsContext}
use Rattle.jt_host.specs.Calls.{ComesTo, GivesImage, IsExplanation, IsImageOf, IsNoContext, IsNoImage, RendersTo}
use Rattle.jt_host.specs.declared.Budget.{Budget}
use Rattle.jt_host.specs.declared.CallError.{CallError}
use Rattle.jt_host.specs.declared.CallError.TheVariants as call_error
use Rattle.jt_host.specs.declared.Options.{Options}
use Rattle.jt_image.specs.Code.{Code}
use Rattle.jt_value.specs.Pairs.{Pairs}
use Rattle.jt_ffi.specs.Answers.{CallResult, ExplanationResult}
use Rattle.jt_ffi.specs.HostTemplates.{AreTexts, sources_in, total}
use Rattle.jt_ffi.specs.declared.templates.Lengths.{Lengths}
use Rattle.jt_ffi.specs.declared.error.FfiError.{FfiError}
use Rattle.jt_ffi.specs.declared.error.FfiError.TheVariants as ffi_error

-- The bytes spell a context of this kind.
abbrev pub ForContext : List ℕ → (Pairs → Type 0) → Type 0
ForContext bytes IsSo = (context : Pairs) × IsContext bytes context × IsSo context

-- The bytes spell a text that is a result of this kind.
abbrev pub ForText : List ℕ → (Result (String Global) CallError → Type 0) → Type 0
ForText bytes IsSo = (text : String Global) × (bytes ≡ string_bytes text) × IsSo (Ok text)

module _ (lengths : List Lengths) (texts entry : List ℕ) where
  -- The lengths sum to the number of bytes, and each name and source and the entry are UTF-8.
  pub record IsGiven : Type 0 where
    pub whole : total lengths ≡ length texts
    pub templates : AreTexts lengths texts
    pub name : IsUtf8 entry

  -- The lengths do not sum up, or a text is not UTF-8, and the error states which.
  abbrev pub IsMisuse : FfiError → Type 0
  IsMisuse ffi_error.Lengths = total lengths ≢ length texts
  IsMisuse ffi_error.NotText = AreTexts lengths texts → IsUtf8 entry → ⊥
  IsMisuse ffi_error.NotHeld = ⊥
  IsMisuse (ffi_error.Call call_error.NoMemory) = Unit {0}
  IsMisuse (ffi_error.Call e) = ⊥

  -- The template of the entry compiles to an image, or the error states why it does not.
  abbrev pub Compiles : Options → CallResult → Type 0
  Compiles options (Ok bytes) =
      IsGiven × GivesImage (sources_in lengths texts) entry options (Ok bytes)
  Compiles options (Err (ffi_error.Call call_error.NoMemory)) = Unit {0}
  Compiles options (Err (ffi_error.Call e)) =
      IsGiven × GivesImage (sources_in lengths texts) entry options (Err e)
  Compiles options (Err e) = IsMisuse e

  -- The explanation is true of the template of the entry. Or the error states why there is none,
  -- which is misuse of the call or lack of memory.
  abbrev pub Explains : Options → ExplanationResult → Type 0
  Explains options (Ok x) = IsGiven × IsExplanation (sources_in lengths texts) entry options x
  Explains options (Err e) = IsMisuse e

  -- The template of the entry renders for a context under a budget, or the error states why there
  -- is no text.
  abbrev pub Renders : Options → List ℕ → Budget → CallResult → Type 0
  Renders options context b (Ok bytes) = IsGiven × ForContext context (λ pairs.
      ForText bytes.items (RendersTo (sources_in lengths texts) entry options pairs b))
  Renders options context b (Err (ffi_error.Call (call_error.Context e))) =
      IsNoContext context (call_error.Context e)
  Renders options context b (Err (ffi_error.Call call_error.NoMemory)) = Unit {0}
  Renders options context b (Err (ffi_error.Call e)) = IsGiven × ForContext context (λ pairs.
      RendersTo (sources_in lengths texts) entry options pairs b (Err e))
  Renders options context b (Err e) = IsMisuse e

-- The bytes are an accepted image and nothing is returned, or the error states why they are not.
abbrev pub Checks : List ℕ → CallResult → Type 0
Checks image (Ok bytes) = (bytes.items ≡ []) × ((code : Code) × IsImageOf image code)
Checks image (Err (ffi_error.Call e)) = IsNoImage image e
Checks image (Err e) = ⊥

-- The image runs for a context under a budget, or the error states why there is no text.
abbrev pub Runs : List ℕ → List ℕ → Budget → CallResult → Type 0
Runs image context b (Ok bytes) =
    ForContext context (λ pairs. ForText bytes.items (ComesTo image pairs b))
Runs image context b (Err (ffi_error.Call (call_error.Context e))) =
    IsNoContext context (call_error.Context e)
Runs image context b (Err (ffi_error.Call call_error.NoMemory)) = Unit {0}
Runs image context b (Err (ffi_error.Call e)) =
    ForContext context (λ pairs. ComesTo image pairs b (Err e))
Runs image context b (Err e) = ⊥
