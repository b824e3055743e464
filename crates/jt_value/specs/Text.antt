-- The characters of a text, as its UTF-8 bytes.
use Rattle.std.specs.Prelude.{ℕ, List, string_bytes}
use Rattle.jt_value.specs.declared.text.Chars.{Chars}
use Rattle.jt_value.specs.declared.text.Chars.TheVariants as chars
use Rattle.jt_value.specs.declared.text.Text.TheInside.{Inside}

-- The bytes of characters, however they are stored.
abbrev pub bytes_of : Chars → List ℕ
bytes_of (chars.Short text) = text.bytes
bytes_of (chars.Long text) = string_bytes text

-- A text is seen as its bytes.
abbrev pub text_view : Inside → List ℕ
text_view inside = bytes_of inside.chars.value
