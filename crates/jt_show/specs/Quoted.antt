-- Texts as a listing shows them: in quotation marks, with escapes, and long texts cut.
use Rattle.std.specs.Prelude.{ℕ, zero, suc, ◌==◌, ◌||◌, Bool, false, List, [], ◌∷◌, ◌++◌, length, take, flat_map}
use Rattle.std.specs.Prelude.{codes, nat_le, slice_index, if◌then◌else◌}
use Rattle.std.specs.Char.{is_ascii_control}
use Rattle.std.specs.Fmt.{decimal, digits, is_char_start}

-- The bytes that need an escape: the quotation mark (34), the backslash (92) and the control
-- characters of ASCII.
abbrev pub is_special : ℕ → Bool
is_special byte = (byte == 34 || byte == 92) || is_ascii_control byte

-- The escape of a byte, as in a text of Rust: `\"`, `\\`, `\n`, and `\u{7}` with hexadecimal digits
-- for other control characters.
abbrev pub escape : ℕ → List ℕ
escape byte =
    if byte == 34 then codes "\\\"" else
    if byte == 92 then codes "\\\\" else
    if byte == 10 then codes "\\n" else
    codes "\\u{" ++ (digits 16 false byte ++ codes "}")

-- A byte is shown as its escape if it needs one, and otherwise as it is.
abbrev pub shown_byte : ℕ → List ℕ
shown_byte byte = if is_special byte then escape byte else byte ∷ []

abbrev pub shown : List ℕ → List ℕ
shown text = flat_map shown_byte text

-- The greatest index up to `most` at which a character of the text begins.
unfoldable pub boundary : List ℕ → ℕ → ℕ
boundary text zero = 0
boundary text (suc most) = if is_char_start (slice_index text (suc most)) then suc most else boundary text most

-- The most bytes of a text that are shown.
abbrev pub most_shown : ℕ
most_shown = 60

-- A text in quotation marks. A longer text is cut between two characters, and its length follows.
unfoldable pub quoted : List ℕ → List ℕ
quoted text =
    if nat_le (length text) most_shown then codes "\"" ++ (shown text ++ codes "\"")
    else codes "\"" ++ (shown (take (boundary text most_shown) text)
    ++ (codes "\"... of " ++ (decimal (length text) ++ codes " bytes")))
