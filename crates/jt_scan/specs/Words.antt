-- The words that code compares with.
use Rattle.std.specs.Prelude.{ℕ, Bool, true, ◌&&◌, List, [], ◌∷◌, nat_lt, if◌then◌else◌}
use Rattle.std.specs.Str.{chars}

-- Each byte is ASCII.
abbrev pub is_plain : List ℕ → Bool
is_plain [] = true
is_plain (c ∷ cs) = nat_lt c 128 && is_plain cs

-- The characters of a word. For an ASCII word they are its bytes, so that a literal computes.
abbrev pub letters_of : List ℕ → List ℕ
letters_of w = if is_plain w then w else chars w
