-- A call over handles has a result that the call over the bytes may have.
use Rattle.std.proofs.Common.{◌≡◌, inl, inr, ℕ, List, Option, Some, None, Ok, Err, length, refl, subst, sym}
use Rattle.jt_host.specs.Calls.{IsImageOf}
use Rattle.jt_host.specs.Compiled.{IsCompiled}
use Rattle.jt_host.specs.declared.Budget.{Budget}
use Rattle.jt_host.specs.declared.CallError.TheVariants as call_error
use Rattle.jt_host.specs.declared.Options.{Options}
use Rattle.jt_image.specs.Code.{Code}
use Rattle.jt_value.specs.ContextView.{pairs_of}
use Rattle.std.specs.Arc.{arc_value}
use Rattle.jt_ffi.specs.Answers.{Answers, AnswersExplained, CallResult, ExplanationResult}
use Rattle.jt_ffi.specs.Calls.{Compiles, Explains, IsGiven, Renders, Runs}
use Rattle.jt_ffi.specs.Handles.{CompilesFrom, CompilesHeld, CompilesInto, ExplainsFrom, ExplainsHeld}
use Rattle.jt_ffi.specs.Handles.{HoldsContext, HoldsImage, HoldsLibrary}
use Rattle.jt_ffi.specs.Handles.{HoldsTemplate, ReportsKept, RunsAndKeeps, RunsFor, RunsHeld, SavesHeld}
use Rattle.jt_ffi.specs.HostTemplates.{AreTexts, sources_in, total}
use Rattle.jt_ffi.specs.Needs.{NeedsFrom, NeedsHeld}
use Rattle.jt_ffi.specs.declared.answer.Answer.{Answer}
use Rattle.jt_ffi.specs.declared.local.Local.{Local}
use Rattle.jt_ffi.specs.declared.local.Local.TheVariants.{Context, Outcome, Run}
use Rattle.jt_ffi.specs.declared.shared.Shared.{Shared}
use Rattle.jt_ffi.specs.declared.shared.Shared.TheVariants.{Image, Library}
use Rattle.jt_ffi.specs.declared.templates.Lengths.{Lengths}
use Rattle.jt_ffi.specs.declared.error.FfiError.TheVariants as ffi_error

-- ---- runs

-- The run of a code for a context is that of the bytes that spell both.
runs_bytes : (i c : List ℕ) (k : Code) (x : Local) (b : Budget) → IsImageOf i k → HoldsContext c (Some x)
    → (r : CallResult) → RunsFor k x b r → Runs i c b r
runs_bytes i c k (Context x) b image context (Ok bytes) run = (pairs_of x, context, (run.0, run.1, (k, image, run.2)))
runs_bytes i c k (Context x) b image context (Err (ffi_error.Call (call_error.Fault f q))) run =
    (pairs_of x, context, (k, image, run))
runs_bytes i c k (Context x) b image context (Err (ffi_error.Call (call_error.Spent s))) run =
    (pairs_of x, context, (k, image, run))
runs_bytes i c k (Context x) b image context (Err (ffi_error.Call call_error.NoMemory)) run = tt
runs_bytes i c k (Context x) b image context (Err (ffi_error.Call e)) run = absurd run
runs_bytes i c k (Context x) b image context (Err e) run = absurd run
runs_bytes i c k (Outcome o) b image context r run = absurd context
runs_bytes i c k (Run o) b image context r run = absurd context

-- The run of a compiled code for a context is a rendering of the entry.
renders_code : (ns : List Lengths) (texts entry : List ℕ) (o : Options) (c : List ℕ) (k : Code) (x : Local) (b : Budget)
    → IsGiven ns texts entry
    → IsCompiled (sources_in ns texts) entry o k → HoldsContext c (Some x) → (r : CallResult) → RunsFor k x b r
    → Renders ns texts entry o c b r
renders_code ns texts entry o c k (Context x) b given compiled context (Ok bytes) run =
    (given, (pairs_of x, context, (run.0, run.1, record { code = k; compiled = compiled; runs = run.2 })))
renders_code ns texts entry o c k (Context x) b given compiled context (Err (ffi_error.Call (call_error.Fault f q))) run
    =
    (given, (pairs_of x, context, record { code = k; compiled = compiled; runs = run }))
renders_code ns texts entry o c k (Context x) b given compiled context (Err (ffi_error.Call (call_error.Spent s))) run =
    (given, (pairs_of x, context, record { code = k; compiled = compiled; runs = run }))
renders_code ns texts entry o c k (Context x) b given compiled context (Err (ffi_error.Call call_error.NoMemory)) run =
    tt
renders_code ns texts entry o c k (Context x) b given compiled context (Err (ffi_error.Call e)) run = absurd run
renders_code ns texts entry o c k (Context x) b given compiled context (Err e) run = absurd run
renders_code ns texts entry o c k (Outcome h) b given compiled context r run = absurd context
renders_code ns texts entry o c k (Run h) b given compiled context r run = absurd context

-- The result of a run over handles is one of the bytes, also if memory runs out.
runs_held : (image : Option Shared) (held : Option Local) (b : Budget) (i c : List ℕ) → HoldsImage i image
    → HoldsContext c held
    → (r : CallResult) → RunsHeld image held b r → Runs i c b r
runs_held (Some (Image p)) (Some x) b i c image context r run = runs_bytes i c (arc_value p) x b image context r run
runs_held (Some (Image p)) None b i c image context r run = absurd context
runs_held (Some (Library t)) held b i c image context r run = absurd image
runs_held None held b i c image context r run = absurd image

runs_kept : (image : Option Shared) (held : Option Local) (b : Budget) (i c : List ℕ) → HoldsImage i image
    → HoldsContext c held
    → (kept : Option Local) (r : CallResult) → RunsAndKeeps image held b kept r → Runs i c b r
runs_kept image held b i c is_image is_context kept r (inl run) =
    runs_held image held b i c is_image is_context r run.0
runs_kept image held b i c is_image is_context kept r (inr none) =
    subst (λ (s : CallResult). Runs i c b s) (sym none.1) tt

renders_held : (image : Option Shared) (held : Option Local) (b : Budget) (ns : List Lengths) (texts entry : List ℕ)
    (o : Options) (c : List ℕ)
    → IsGiven ns texts entry
    → HoldsTemplate (sources_in ns texts) entry o image → HoldsContext c held
    → (r : CallResult) → RunsHeld image held b r → Renders ns texts entry o c b r
renders_held (Some (Image p)) (Some x) b ns texts entry o c given template context r run =
    renders_code ns texts entry o c (arc_value p) x b given template context r run
renders_held (Some (Image p)) None b ns texts entry o c given template context r run = absurd context
renders_held (Some (Library t)) held b ns texts entry o c given template context r run = absurd template
renders_held None held b ns texts entry o c given template context r run = absurd template

renders_kept : (image : Option Shared) (held : Option Local) (b : Budget) (ns : List Lengths) (texts entry : List ℕ)
    (o : Options) (c : List ℕ)
    → IsGiven ns texts entry
    → HoldsTemplate (sources_in ns texts) entry o image → HoldsContext c held
    → (kept : Option Local) (r : CallResult) → RunsAndKeeps image held b kept r → Renders ns texts entry o c b r
renders_kept image held b ns texts entry o c given template context kept r (inl run) =
    renders_held image held b ns texts entry o c given template context r run.0
renders_kept image held b ns texts entry o c given template context kept r (inr none) =
    subst (λ (s : CallResult). Renders ns texts entry o c b s) (sym none.1) tt

-- The answer of a run over handles is one of `jt_run`.
pub answers_run : (image : Option Shared) (held : Option Local) (b : Budget) (i c : List ℕ) → HoldsImage i image
    → HoldsContext c held
    → (kept : Option Local) (old new : List ℕ) (a : Answer) → Answers (RunsAndKeeps image held b kept) old new a
    → Answers (Runs i c b) old new a
answers_run image held b i c is_image is_context kept old new a h =
    (h.0, runs_kept image held b i c is_image is_context kept h.0 h.1, h.2)

-- The answer of a run of a compiled image is one of `jt_render`.
pub answers_render : (image : Option Shared) (held : Option Local) (b : Budget) (ns : List Lengths)
    (texts entry : List ℕ) (o : Options) (c : List ℕ)
    → IsGiven ns texts entry
    → HoldsTemplate (sources_in ns texts) entry o image → HoldsContext c held
    → (kept : Option Local) (old new : List ℕ) (a : Answer) → Answers (RunsAndKeeps image held b kept) old new a
    → Answers (Renders ns texts entry o c b) old new a
answers_render image held b ns texts entry o c given template context kept old new a h =
    (h.0, renders_kept image held b ns texts entry o c given template context kept h.0 h.1, h.2)

-- A result that is kept, or lack of memory to keep it, is reported.
pub kept_answers : (image : Option Shared) (held : Option Local) (b : Budget) (r : CallResult) (kept : Option Local)
    (old new : List ℕ) (a : Answer)
    → RunsHeld image held b r → ReportsKept r kept old new a → Answers (RunsAndKeeps image held b kept) old new a
kept_answers image held b r kept old new a run (inl h) = (r, inl (run, h.0), h.1)
kept_answers image held b r kept old new a run (inr h) =
    (Err (ffi_error.Call call_error.NoMemory), inr (h.0, refl), h.1)

-- ---- compiles

-- A compilation from the templates that bytes spell has a result of the bytes.
compiles_from : (ns : List Lengths) (texts entry : List ℕ) (o : Options) (held : Option Shared)
    → total ns ≡ length texts → AreTexts ns texts
    → (r : CallResult) → CompilesFrom (sources_in ns texts) entry o held r → CompilesInto ns texts entry o held r
compiles_from ns texts entry o held whole templates (Ok bytes) h =
    (h.0, record { whole = whole; templates = templates; name = h.1 }, h.2)
compiles_from ns texts entry o held whole templates (Err ffi_error.NotText) h = (h.0, λ _ name. h.1 name)
compiles_from ns texts entry o held whole templates (Err (ffi_error.Call call_error.NoMemory)) h = (h, tt)
compiles_from ns texts entry o held whole templates (Err (ffi_error.Call (call_error.Template e))) h =
    (h.0, (record { whole = whole; templates = templates; name = h.1 }, h.2))
compiles_from ns texts entry o held whole templates (Err (ffi_error.Call e)) h = absurd h.2
compiles_from ns texts entry o held whole templates (Err e) h = absurd h

compiles_held : (library : Option Shared) (ns : List Lengths) (texts entry : List ℕ) (o : Options)
    (held : Option Shared)
    → HoldsLibrary ns texts library
    → (r : CallResult) → CompilesHeld library entry o held r → CompilesInto ns texts entry o held r
compiles_held (Some (Library t)) ns texts entry o held holds r h =
    compiles_from ns texts entry o held holds.0 holds.1 r
    (subst (λ (sources : List ℕ → Option (List ℕ)). CompilesFrom sources entry o held r) (λ j name. holds.2 name j) h)
compiles_held (Some (Image p)) ns texts entry o held holds r h = absurd holds
compiles_held None ns texts entry o held holds r h = absurd holds

-- The answer of a compilation from a held library is one of `jt_compile`.
pub answers_compile : (library : Option Shared) (ns : List Lengths) (texts entry : List ℕ) (o : Options)
    (held : Option Shared)
    → HoldsLibrary ns texts library
    → (old new : List ℕ) (a : Answer) → Answers (CompilesHeld library entry o held) old new a
    → Answers (CompilesInto ns texts entry o held) old new a
answers_compile library ns texts entry o held holds old new a h =
    (h.0, compiles_held library ns texts entry o held holds h.0 h.1, h.2)

-- ---- explanations

-- An explanation from the templates that bytes spell is one of the bytes.
explains_from : (ns : List Lengths) (texts entry : List ℕ) (o : Options) → total ns ≡ length texts → AreTexts ns texts
    → (r : ExplanationResult) → ExplainsFrom (sources_in ns texts) entry o r → Explains ns texts entry o r
explains_from ns texts entry o whole templates (Ok x) h =
    (record { whole = whole; templates = templates; name = h.0 }, h.1)
explains_from ns texts entry o whole templates (Err ffi_error.NotText) h = λ _ name. h name
explains_from ns texts entry o whole templates (Err (ffi_error.Call call_error.NoMemory)) h = tt
explains_from ns texts entry o whole templates (Err (ffi_error.Call e)) h = absurd h
explains_from ns texts entry o whole templates (Err e) h = absurd h

explains_held : (library : Option Shared) (ns : List Lengths) (texts entry : List ℕ) (o : Options)
    → HoldsLibrary ns texts library
    → (r : ExplanationResult) → ExplainsHeld library entry o r → Explains ns texts entry o r
explains_held (Some (Library t)) ns texts entry o holds r h =
    explains_from ns texts entry o holds.0 holds.1 r
    (subst (λ (sources : List ℕ → Option (List ℕ)). ExplainsFrom sources entry o r) (λ j name. holds.2 name j) h)
explains_held (Some (Image p)) ns texts entry o holds r h = absurd holds
explains_held None ns texts entry o holds r h = absurd holds

-- The answer of an explanation from a held library is one of `jt_explain`.
pub answers_explain : (library : Option Shared) (ns : List Lengths) (texts entry : List ℕ) (o : Options)
    → HoldsLibrary ns texts library
    → (old new : List ℕ) (a : Answer) → AnswersExplained (ExplainsHeld library entry o) old new a
    → AnswersExplained (Explains ns texts entry o) old new a
answers_explain library ns texts entry o holds old new a h =
    (h.0, explains_held library ns texts entry o holds h.0 h.1, h.2)

-- ---- needs

needs_held : (library : Option Shared) (ns : List Lengths) (texts entry : List ℕ) (o : Options)
    → HoldsLibrary ns texts library
    → (r : CallResult) → NeedsHeld library entry o r → NeedsFrom (sources_in ns texts) entry o r
needs_held (Some (Library t)) ns texts entry o holds r h =
    subst (λ (sources : List ℕ → Option (List ℕ)). NeedsFrom sources entry o r) (λ j name. holds.2 name j) h
needs_held (Some (Image p)) ns texts entry o holds r h = absurd holds
needs_held None ns texts entry o holds r h = absurd holds

-- The needs of a template of a held library are those of the sources that bytes spell.
pub answers_needs : (library : Option Shared) (ns : List Lengths) (texts entry : List ℕ) (o : Options)
    → HoldsLibrary ns texts library
    → (old new : List ℕ) (a : Answer) → Answers (NeedsHeld library entry o) old new a
    → Answers (NeedsFrom (sources_in ns texts) entry o) old new a
answers_needs library ns texts entry o holds old new a h =
    (h.0, needs_held library ns texts entry o holds h.0 h.1, h.2)

-- ---- bytes of images

saves_held : (image : Option Shared) (ns : List Lengths) (texts entry : List ℕ) (o : Options) → IsGiven ns texts entry
    → HoldsTemplate (sources_in ns texts) entry o image → (r : CallResult) → SavesHeld image r
    → Compiles ns texts entry o r
saves_held (Some (Image p)) ns texts entry o given template (Ok bytes) h =
    (given, record { code = arc_value p; spelled = h.0; read = h.1; compiled = template })
saves_held (Some (Image p)) ns texts entry o given template (Err (ffi_error.Call call_error.NoMemory)) h = tt
saves_held (Some (Image p)) ns texts entry o given template (Err (ffi_error.Call e)) h = absurd h
saves_held (Some (Image p)) ns texts entry o given template (Err e) h = absurd h
saves_held (Some (Library t)) ns texts entry o given template r h = absurd template
saves_held None ns texts entry o given template r h = absurd template

-- The bytes of a compiled image are ones of `jt_compile`.
pub answers_save : (image : Option Shared) (ns : List Lengths) (texts entry : List ℕ) (o : Options)
    → IsGiven ns texts entry
    → HoldsTemplate (sources_in ns texts) entry o image → (old new : List ℕ) (a : Answer)
    → Answers (SavesHeld image) old new a → Answers (Compiles ns texts entry o) old new a
answers_save image ns texts entry o given template old new a h =
    (h.0, saves_held image ns texts entry o given template h.0 h.1, h.2)
