-- The values that handles hold, and the result of each call over handles.
use Rattle.std.specs.Prelude.{◌≡◌, ◌⊎◌, ℕ, List, [], Option, Some, None, Ok, Err}
use Rattle.std.specs.Arc.{arc_value}
use Rattle.std.specs.Str.{IsUtf8}
use Rattle.jt_contexts.specs.Json.{IsContext}
use Rattle.jt_host.specs.Calls.{CompilesTo, IsExplanation, IsImageOf, IsNoContext, IsNoImage, RunsTo}
use Rattle.jt_host.specs.Compiled.{IsCompiled}
use Rattle.jt_host.specs.Chains.{SourceTexts}
use Rattle.jt_host.specs.Templates.{source_of}
use Rattle.jt_host.specs.declared.Budget.{Budget}
use Rattle.jt_host.specs.declared.CallError.TheVariants as call_error
use Rattle.jt_host.specs.declared.Options.{Options}
use Rattle.jt_image.specs.Code.{Code}
use Rattle.jt_image.specs.Reading.{code_of}
use Rattle.jt_image.specs.Spelling.{spelling}
use Rattle.jt_value.specs.ContextView.{pairs_of}
use Rattle.jt_ffi.specs.Answers.{CallResult, ExplanationResult, Reports}
use Rattle.jt_ffi.specs.Calls.{Compiles, ForText, IsGiven}
use Rattle.jt_ffi.specs.HostTemplates.{IsUnpacked, sources_in}
use Rattle.jt_ffi.specs.declared.answer.Answer.{Answer}
use Rattle.jt_ffi.specs.declared.local.Local.{Local}
use Rattle.jt_ffi.specs.declared.local.Local.TheVariants.{Context, Outcome, Run}
use Rattle.jt_ffi.specs.declared.shared.Shared.{Shared}
use Rattle.jt_ffi.specs.declared.shared.Shared.TheVariants.{Image, Library}
use Rattle.jt_ffi.specs.declared.templates.Lengths.{Lengths}
use Rattle.jt_ffi.specs.declared.error.FfiError.TheVariants as ffi_error

-- ---- the values that a handle holds

-- The handle holds the templates that these bytes and lengths spell.
abbrev pub HoldsLibrary : List Lengths → List ℕ → Option Shared → Type 0
HoldsLibrary lengths texts (Some (Library templates)) =
    IsUnpacked lengths texts (Ok (arc_value templates))
HoldsLibrary lengths texts (Some (Image image)) = ⊥
HoldsLibrary lengths texts None = ⊥

-- The handle holds the image that these bytes spell.
abbrev pub HoldsImage : List ℕ → Option Shared → Type 0
HoldsImage bytes (Some (Image image)) = IsImageOf bytes (arc_value image)
HoldsImage bytes (Some (Library templates)) = ⊥
HoldsImage bytes None = ⊥

-- The handle holds an image to which the entry compiles.
abbrev pub HoldsTemplate : SourceTexts → List ℕ → Options → Option Shared → Type 0
HoldsTemplate sources entry options (Some (Image image)) =
    IsCompiled sources entry options (arc_value image)
HoldsTemplate sources entry options (Some (Library templates)) = ⊥
HoldsTemplate sources entry options None = ⊥

-- The handle holds the context that these bytes spell.
abbrev pub HoldsContext : List ℕ → Option Local → Type 0
HoldsContext bytes (Some (Context context)) = IsContext bytes (pairs_of context)
HoldsContext bytes (Some (Outcome outcome)) = ⊥
HoldsContext bytes (Some (Run run)) = ⊥
HoldsContext bytes None = ⊥

-- Both are one image, or one library.
abbrev pub IsSame : Shared → Shared → Type 0
IsSame (Image image) (Image other) = arc_value image ≡ arc_value other
IsSame (Image image) (Library other) = ⊥
IsSame (Library templates) (Library other) = arc_value templates ≡ arc_value other
IsSame (Library templates) (Image other) = ⊥

-- Both handles hold one image, or one library.
abbrev pub AreSame : Option Shared → Option Shared → Type 0
AreSame (Some held) (Some other) = IsSame held other
AreSame (Some held) None = ⊥
AreSame None other = ⊥

-- The status of a second handle: 2 exactly if the first handle holds nothing, and otherwise 0, or 6
-- for lack of memory.
abbrev pub IsShareStatus : Option Shared → ℕ → Type 0
IsShareStatus None status = status ≡ 2
IsShareStatus (Some held) status = (status ≡ 0) ⊎ (status ≡ 6)

-- ---- loads: the handle holds what the bytes spell and nothing is returned, or the handle holds
-- nothing and the error states why

abbrev pub LoadsLibrary : List Lengths → List ℕ → Option Shared → CallResult → Type 0
LoadsLibrary lengths texts held (Ok bytes) =
    (bytes.items ≡ []) × HoldsLibrary lengths texts held
LoadsLibrary lengths texts held (Err e) = (held ≡ None) × IsUnpacked lengths texts (Err e)

abbrev pub LoadsImage : List ℕ → Option Shared → CallResult → Type 0
LoadsImage image held (Ok bytes) = (bytes.items ≡ []) × HoldsImage image held
LoadsImage image held (Err (ffi_error.Call e)) = (held ≡ None) × IsNoImage image e
LoadsImage image held (Err e) = ⊥

abbrev pub LoadsContext : List ℕ → Option Local → CallResult → Type 0
LoadsContext context held (Ok bytes) = (bytes.items ≡ []) × HoldsContext context held
LoadsContext context held (Err (ffi_error.Call e)) = (held ≡ None) × IsNoContext context e
LoadsContext context held (Err e) = ⊥

-- ---- compiles

-- The handle holds an image of the entry and nothing is returned, or the handle holds nothing and
-- the error states why.
abbrev pub CompilesFrom : SourceTexts → List ℕ → Options → Option Shared → CallResult → Type 0
CompilesFrom sources entry options held (Ok bytes) =
    (bytes.items ≡ []) × IsUtf8 entry × HoldsTemplate sources entry options held
CompilesFrom sources entry options held (Err ffi_error.NotText) =
    (held ≡ None) × (IsUtf8 entry → ⊥)
CompilesFrom sources entry options held (Err (ffi_error.Call call_error.NoMemory)) = held ≡ None
CompilesFrom sources entry options held (Err (ffi_error.Call e)) =
    (held ≡ None) × IsUtf8 entry × CompilesTo sources entry options (Err e)
CompilesFrom sources entry options held (Err e) = ⊥

-- Nothing is held, and the error is that a handle does not hold the kind of value that the call
-- needs.
abbrev pub IsNotHeld : Option Shared → CallResult → Type 0
IsNotHeld held r = (held ≡ None) × (r ≡ Err ffi_error.NotHeld)

-- The entry compiles from the library that is held.
abbrev pub CompilesHeld : Option Shared → List ℕ → Options → Option Shared → CallResult → Type 0
CompilesHeld (Some (Library templates)) entry options held r =
    CompilesFrom (source_of (arc_value templates)) entry options held r
CompilesHeld (Some (Image image)) entry options held r = IsNotHeld held r
CompilesHeld None entry options held r = IsNotHeld held r

-- The handle holds an image of the entry, and nothing is returned. Or the handle holds nothing, and
-- the error is one that `jt_compile` may return.
abbrev pub CompilesInto : List Lengths → List ℕ → List ℕ → Options → Option Shared → CallResult
    → Type 0
CompilesInto lengths texts entry options held (Ok bytes) =
    (bytes.items ≡ []) × IsGiven lengths texts entry
    × HoldsTemplate (sources_in lengths texts) entry options held
CompilesInto lengths texts entry options held (Err e) =
    (held ≡ None) × Compiles lengths texts entry options (Err e)

-- ---- explanations

-- The explanation is true of the entry, or the error states why there is none.
abbrev pub ExplainsFrom : SourceTexts → List ℕ → Options → ExplanationResult → Type 0
ExplainsFrom sources entry options (Ok x) = IsUtf8 entry × IsExplanation sources entry options x
ExplainsFrom sources entry options (Err ffi_error.NotText) = IsUtf8 entry → ⊥
ExplainsFrom sources entry options (Err (ffi_error.Call call_error.NoMemory)) = Unit {0}
ExplainsFrom sources entry options (Err e) = ⊥

-- The entry is explained from the library that is held.
abbrev pub ExplainsHeld : Option Shared → List ℕ → Options → ExplanationResult → Type 0
ExplainsHeld (Some (Library templates)) entry options r =
    ExplainsFrom (source_of (arc_value templates)) entry options r
ExplainsHeld (Some (Image image)) entry options r = r ≡ Err ffi_error.NotHeld
ExplainsHeld None entry options r = r ≡ Err ffi_error.NotHeld

-- ---- bytes of images

-- The result is the bytes of the code, which are read as it, or memory ran out.
abbrev pub Saves : Code → CallResult → Type 0
Saves code (Ok bytes) = (bytes.items ≡ spelling code) × (code_of bytes.items ≡ Ok code)
Saves code (Err (ffi_error.Call call_error.NoMemory)) = Unit {0}
Saves code (Err e) = ⊥

-- The result is the bytes of the image that is held.
abbrev pub SavesHeld : Option Shared → CallResult → Type 0
SavesHeld (Some (Image image)) r = Saves (arc_value image) r
SavesHeld (Some (Library templates)) r = r ≡ Err ffi_error.NotHeld
SavesHeld None r = r ≡ Err ffi_error.NotHeld

-- ---- runs

-- The code runs for the held value, if it is a context.
abbrev pub RunsFor : Code → Local → Budget → CallResult → Type 0
RunsFor code (Context context) b (Ok bytes) =
    ForText bytes.items (RunsTo code (pairs_of context) b)
RunsFor code (Context context) b (Err (ffi_error.Call e)) = RunsTo code (pairs_of context) b (Err e)
RunsFor code (Context context) b (Err e) = ⊥
RunsFor code (Outcome outcome) b r = r ≡ Err ffi_error.NotHeld
RunsFor code (Run run) b r = r ≡ Err ffi_error.NotHeld

-- The image that is held runs for the context that is held.
abbrev pub RunsHeld : Option Shared → Option Local → Budget → CallResult → Type 0
RunsHeld (Some (Image image)) (Some context) b r = RunsFor (arc_value image) context b r
RunsHeld (Some (Image image)) None b r = r ≡ Err ffi_error.NotHeld
RunsHeld (Some (Library templates)) context b r = r ≡ Err ffi_error.NotHeld
RunsHeld None context b r = r ≡ Err ffi_error.NotHeld

-- The result is that of the run, and the handle holds it. Or the handle holds nothing, and the result
-- is lack of memory.
abbrev pub RunsAndKeeps : Option Shared → Option Local → Budget → Option Local → CallResult → Type 0
RunsAndKeeps image context b held r =
    (RunsHeld image context b r × (held ≡ Some (Outcome r)))
    ⊎ ((held ≡ None) × (r ≡ Err (ffi_error.Call call_error.NoMemory)))

-- ---- outcomes

-- A result is held and reported, or lack of memory to keep it is reported.
abbrev pub ReportsKept : CallResult → Option Local → List ℕ → List ℕ → Answer → Type 0
ReportsKept r held old new answer =
    ((held ≡ Some (Outcome r)) × Reports r old new answer)
    ⊎ ((held ≡ None) × Reports (Err (ffi_error.Call call_error.NoMemory)) old new answer)

-- The outcome that is held is reported. A context is no outcome, and neither is a run.
abbrev pub ReportsHeld : Local → List ℕ → List ℕ → Answer → Type 0
ReportsHeld (Outcome outcome) old new answer = Reports outcome old new answer
ReportsHeld (Context context) old new answer = Reports (Err ffi_error.NotHeld) old new answer
ReportsHeld (Run run) old new answer = Reports (Err ffi_error.NotHeld) old new answer

abbrev pub ReportsOutcome : Option Local → List ℕ → List ℕ → Answer → Type 0
ReportsOutcome (Some held) old new answer = ReportsHeld held old new answer
ReportsOutcome None old new answer = Reports (Err ffi_error.NotHeld) old new answer
