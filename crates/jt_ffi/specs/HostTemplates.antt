-- Templates as other languages pass them: one run of bytes in which each name comes before its
-- source, and the lengths of both.
use Rattle.std.specs.Prelude.{◌≡◌, ◌≢◌, ◌+◌, ◌<◌, ◌≤◌, ℕ, List, [], ◌∷◌, Option, Some, None, Result, Ok, Err, String}
use Rattle.std.specs.Prelude.{length, take, drop, string_bytes, if◌then◌else◌}
use Rattle.std.specs.declared.alloc.Global.{Global}
use Rattle.std.specs.Borrow.{Bor}
use Rattle.std.specs.Str.{IsUtf8, bytes_eq}
use Rattle.jt_host.specs.Templates.{source_of}
use Rattle.jt_host.specs.declared.CallError.TheVariants as call_error
use Rattle.jt_host.specs.declared.Templates.{Templates}
use Rattle.jt_ffi.specs.declared.templates.Lengths.{Lengths}
use Rattle.jt_ffi.specs.declared.error.FfiError.{FfiError}
use Rattle.jt_ffi.specs.declared.error.FfiError.TheVariants as ffi_error

-- The total number of bytes of texts with these lengths.
abbrev pub total : List Lengths → ℕ
total [] = 0
total (n ∷ lengths) = n.name + n.source + total lengths

-- The name at the start of the bytes, the source after it, and the bytes after both.
abbrev pub name_at : Lengths → List ℕ → List ℕ
name_at n bytes = take n.name bytes

abbrev pub source_at : Lengths → List ℕ → List ℕ
source_at n bytes = take n.source (drop n.name bytes)

abbrev pub bytes_after : Lengths → List ℕ → List ℕ
bytes_after n bytes = drop n.source (drop n.name bytes)

-- Each name and each source is UTF-8.
abbrev pub AreTexts : List Lengths → List ℕ → Type 0
AreTexts [] bytes = Unit {0}
AreTexts (n ∷ lengths) bytes =
    IsUtf8 (name_at n bytes) × IsUtf8 (source_at n bytes) × AreTexts lengths (bytes_after n bytes)

-- The first value if it exists, else the second.
abbrev pub or_else : Option (List ℕ) → Option (List ℕ) → Option (List ℕ)
or_else (Some x) other = Some x
or_else None other = other

-- The source of the first template, if the template has this name.
abbrev pub source_under : Lengths → List ℕ → List ℕ → Option (List ℕ)
source_under n bytes name =
    if bytes_eq (name_at n bytes) name then Some (source_at n bytes) else None

-- The source of a name: the last one, if the name occurs twice.
abbrev pub sources_in : List Lengths → List ℕ → List ℕ → Option (List ℕ)
sources_in [] bytes name = None
sources_in (n ∷ lengths) bytes name =
    or_else (sources_in lengths (bytes_after n bytes) name) (source_under n bytes name)

-- ---- the results of reading

-- The result is a text of the first `n` bytes with the bytes after it, or the error states why it
-- does not exist.
abbrev pub IsCut : ℕ → List ℕ → Result (String Global × Bor (List ℕ)) FfiError → Type 0
IsCut n bytes (Ok cut) = (n ≤ length bytes) × IsUtf8 (take n bytes)
    × (string_bytes cut.0 ≡ take n bytes) × (cut.1.now ≡ drop n bytes)
IsCut n bytes (Err ffi_error.Lengths) = length bytes < n
IsCut n bytes (Err ffi_error.NotText) = IsUtf8 (take n bytes) → ⊥
IsCut n bytes (Err (ffi_error.Call call_error.NoMemory)) = Unit {0}
IsCut n bytes (Err (ffi_error.Call e)) = ⊥
IsCut n bytes (Err ffi_error.NotHeld) = ⊥

-- The first template is added and the bytes after it are returned, or the error states why not.
abbrev pub IsRead : Lengths → List ℕ → Templates → Templates → Result (Bor (List ℕ)) FfiError
    → Type 0
IsRead n bytes old new (Ok rest) = (n.name + n.source ≤ length bytes)
    × IsUtf8 (name_at n bytes) × IsUtf8 (source_at n bytes) × (rest.now ≡ bytes_after n bytes)
    × ((name : List ℕ)
    → source_of new name ≡ or_else (source_under n bytes name) (source_of old name))
IsRead n bytes old new (Err ffi_error.Lengths) = length bytes < n.name + n.source
IsRead n bytes old new (Err ffi_error.NotText) =
    IsUtf8 (name_at n bytes) → IsUtf8 (source_at n bytes) → ⊥
IsRead n bytes old new (Err (ffi_error.Call call_error.NoMemory)) = Unit {0}
IsRead n bytes old new (Err (ffi_error.Call e)) = ⊥
IsRead n bytes old new (Err ffi_error.NotHeld) = ⊥

-- All templates are added, or the error states why not.
abbrev pub IsUnpacked : List Lengths → List ℕ → Result Templates FfiError → Type 0
IsUnpacked lengths bytes (Ok t) = (total lengths ≡ length bytes) × AreTexts lengths bytes
    × ((name : List ℕ) → source_of t name ≡ sources_in lengths bytes name)
IsUnpacked lengths bytes (Err ffi_error.Lengths) = total lengths ≢ length bytes
IsUnpacked lengths bytes (Err ffi_error.NotText) = AreTexts lengths bytes → ⊥
IsUnpacked lengths bytes (Err (ffi_error.Call call_error.NoMemory)) = Unit {0}
IsUnpacked lengths bytes (Err (ffi_error.Call e)) = ⊥
IsUnpacked lengths bytes (Err ffi_error.NotHeld) = ⊥
