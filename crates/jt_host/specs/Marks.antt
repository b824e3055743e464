-- The line of marks under a line of a source: `^` under the first place at which a name stands.
use Rattle.std.specs.Prelude.{ℕ, ◌+◌, List, [], ◌∷◌, ◌++◌, Bool, not, ◌&&◌, ◌||◌, ◌==◌, Option, None, Some}
use Rattle.std.specs.Prelude.{nat_eq, nat_le, nat_lt, codes, drop, take, flat_map, length, if◌then◌else◌, slice_index}
use Rattle.std.specs.List.{position, range_with_len, starts_with}
use Rattle.std.specs.Char.{is_ascii_alphanumeric, is_ascii_control}

-- A byte of a word: a letter, a digit, `_`, or a byte of a character beyond ASCII.
abbrev pub is_word : ℕ → Bool
is_word byte = is_ascii_alphanumeric byte || ((byte == 95) || nat_le 128 byte)

-- A byte of a character after its first byte.
abbrev pub is_inner : ℕ → Bool
is_inner byte = nat_le 128 byte && nat_lt byte 192

-- No byte of a word is before `start` or at `end`.
abbrev pub is_apart : List ℕ → ℕ → ℕ → Bool
is_apart line start end = not (is_word (slice_index (0 ∷ line) start)) && not (is_word (slice_index line end))

-- The name stands in the line at this index, as a whole word.
abbrev pub stands_at : List ℕ → List ℕ → ℕ → Bool
stands_at line name at =
    nat_lt 0 (length name)
    && (starts_with nat_eq (drop at line) name && is_apart line at (at + length name))

-- The first index at which the name stands.
abbrev pub place_in : List ℕ → List ℕ → Option ℕ
place_in line name = position (stands_at line name) (range_with_len 0 (length line))

-- What is under a character before the name: a control character as it is, or a space.
abbrev pub pad : ℕ → List ℕ
pad byte = if is_ascii_control byte then byte ∷ [] else (if is_inner byte then [] else 32 ∷ [])

-- What is under a character of the name.
abbrev pub caret : ℕ → List ℕ
caret byte = if is_inner byte then [] else 94 ∷ []

abbrev pub mark_at : List ℕ → List ℕ → Option ℕ → List ℕ
mark_at line name None = []
mark_at line name (Some at) =
    codes "  " ++ (flat_map pad (take at line) ++ (flat_map caret name ++ codes "\n"))

-- The line of marks. It is empty if the name does not stand in the line.
abbrev pub mark : List ℕ → List ℕ → List ℕ
mark line name = mark_at line name (place_in line name)
