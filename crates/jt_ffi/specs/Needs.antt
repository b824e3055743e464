-- What a template of a held library needs, in lines.
use Rattle.std.specs.Prelude.{◌≡◌, ℕ, List, Option, Some, None, Ok, Err}
use Rattle.std.specs.Arc.{arc_value}
use Rattle.std.specs.Str.{IsUtf8}
use Rattle.jt_host.specs.Calls.{IsNeedsText, ListsNeeds}
use Rattle.jt_host.specs.Chains.{SourceTexts}
use Rattle.jt_host.specs.Templates.{source_of}
use Rattle.jt_host.specs.declared.CallError.TheVariants as call_error
use Rattle.jt_host.specs.declared.Options.{Options}
use Rattle.jt_ffi.specs.Answers.{CallResult}
use Rattle.jt_ffi.specs.declared.shared.Shared.{Shared}
use Rattle.jt_ffi.specs.declared.shared.Shared.TheVariants.{Image, Library}
use Rattle.jt_ffi.specs.declared.error.FfiError.TheVariants as ffi_error

-- The lines list what the entry needs, or the error states why there are none.
abbrev pub NeedsFrom : SourceTexts → List ℕ → Options → CallResult → Type 0
NeedsFrom sources entry options (Ok lines) =
    IsUtf8 entry × IsNeedsText sources entry options lines.items
NeedsFrom sources entry options (Err ffi_error.NotText) = IsUtf8 entry → ⊥
NeedsFrom sources entry options (Err (ffi_error.Call call_error.NoMemory)) = Unit {0}
NeedsFrom sources entry options (Err (ffi_error.Call e)) =
    IsUtf8 entry × ListsNeeds sources entry options (Err e)
NeedsFrom sources entry options (Err e) = ⊥

-- The result lists what the entry of the held library needs.
abbrev pub NeedsHeld : Option Shared → List ℕ → Options → CallResult → Type 0
NeedsHeld (Some (Library templates)) entry options r =
    NeedsFrom (source_of (arc_value templates)) entry options r
NeedsHeld (Some (Image image)) entry options r = r ≡ Err ffi_error.NotHeld
NeedsHeld None entry options r = r ≡ Err ffi_error.NotHeld
