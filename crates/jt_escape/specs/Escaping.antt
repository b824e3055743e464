-- The escaped forms of texts, which are their UTF-8 bytes. The five characters are ASCII, and no
-- byte of a longer character is ASCII. So a byte with the code of one of them is that character.
use Rattle.std.specs.Prelude.{ℕ, ◌==◌, if◌then◌else◌, List, [], ◌∷◌, flat_map, Option, Some, None, unwrap_or, codes}

-- The entity of a character, by the character's code: `&` is 38, `<` 60, `>` 62, `'` 39 and `"` 34.
abbrev pub entity : ℕ → Option (List ℕ)
entity byte =
    if byte == 38 then Some (codes "&amp;") else
    if byte == 60 then Some (codes "&lt;") else
    if byte == 62 then Some (codes "&gt;") else
    if byte == 39 then Some (codes "&#39;") else
    if byte == 34 then Some (codes "&#34;") else
    None

-- The escaped form of one byte: its entity, or the byte itself if no entity exists.
abbrev pub escaped_byte : ℕ → List ℕ
escaped_byte byte = unwrap_or (entity byte) (byte ∷ [])

-- The escaped form of a text.
abbrev pub escaped : List ℕ → List ℕ
escaped text = flat_map escaped_byte text
