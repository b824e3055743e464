-- The listing of an image.
use Rattle.std.specs.Prelude.{◌≡◌, ℕ, List, Result, Ok, Err, String, string_bytes}
use Rattle.std.specs.declared.alloc.Global.{Global}
use Rattle.jt_image.specs.Code.{Code}
use Rattle.jt_image.specs.Reading.{Fails, code_of}
use Rattle.jt_image.specs.declared.ImageError.{ImageError}
use Rattle.jt_show.specs.Listing.{listing}

-- The result is the listing of the code that the bytes spell, or the first fault of the bytes,
-- unless memory ran out.
abbrev pub Lists : List ℕ → Result (String Global) ImageError → Type 0
Lists bytes (Ok text) = (code : Code) × (code_of bytes ≡ Ok code) × (string_bytes text ≡ listing code)
Lists bytes (Err e) = Fails e (code_of bytes)
