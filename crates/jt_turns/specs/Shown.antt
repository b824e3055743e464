-- The form in which a line shows names and paths that others chose.
use Rattle.std.specs.Prelude.{ℕ, ◌+◌, ◌/◌, ◌%◌, List, [], ◌∷◌, ◌++◌, codes, flat_map, nat_lt, if◌then◌else◌}
use Rattle.std.specs.Char.{is_ascii_control}

-- A hexadecimal digit: `0` to `9`, `a` to `f`.
abbrev pub hex_digit : ℕ → List ℕ
hex_digit n = (if nat_lt n 10 then 48 + n else 87 + n) ∷ []

-- The escape of a byte: `\x` and its two hexadecimal digits.
abbrev pub escape : ℕ → List ℕ
escape byte = codes "\\x" ++ (hex_digit (byte / 16) ++ hex_digit (byte % 16))

-- An ASCII control character is shown as its escape, and every other byte as it is.
abbrev pub shown_byte : ℕ → List ℕ
shown_byte byte = if is_ascii_control byte then escape byte else byte ∷ []

abbrev pub shown : List ℕ → List ℕ
shown text = flat_map shown_byte text

-- The line of a text: its only line end is the one after it.
abbrev pub one_line : List ℕ → List ℕ
one_line text = shown text ++ codes "\n"
