-- The length of the names and texts of tokens, in bytes.
use Rattle.std.specs.Prelude.{ℕ, ◌+◌, List, [], ◌∷◌, length, encode_utf8_all}
use Rattle.jt_scan.specs.Cut as cut
use Rattle.jt_scan.specs.Cut.{Token}

abbrev pub token_bytes : Token → ℕ
token_bytes (cut.name x) = length (encode_utf8_all x)
token_bytes (cut.number n) = 0
token_bytes (cut.text v) = length (encode_utf8_all v)
token_bytes (cut.sign k) = 0

abbrev pub tokens_bytes : List Token → ℕ
tokens_bytes [] = 0
tokens_bytes (t ∷ ts) = token_bytes t + tokens_bytes ts
