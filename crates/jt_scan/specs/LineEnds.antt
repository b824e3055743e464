-- The text of a source with normalized line ends.
use Rattle.std.specs.Prelude.{ℕ, ◌-◌, nat_lt, length, slice_index, Bool, true, false, ◌==◌, ◌&&◌, List, [], ◌∷◌}
use Rattle.std.specs.Prelude.{if◌then◌else◌}

-- CR LF and a lone CR become LF: each CR is replaced by LF, and an LF directly after a CR is
-- dropped. The flag is set if a CR precedes.
unfoldable pub lf_ends : Bool → List ℕ → List ℕ
lf_ends after_cr [] = []
lf_ends after_cr (c ∷ cs) =
    if c == 13 then 10 ∷ lf_ends true cs
    else if after_cr && c == 10 then lf_ends false cs
    else c ∷ lf_ends false cs

-- The text with one LF dropped at its end, if it ends with LF.
unfoldable pub without_last_lf : List ℕ → List ℕ
without_last_lf [] = []
without_last_lf (c ∷ []) = if c == 10 then [] else c ∷ []
without_last_lf (c ∷ d ∷ rest) = c ∷ without_last_lf (d ∷ rest)

-- The normalized text, in bytes: line ends are replaced first, then one LF at the end is dropped
-- unless it is kept.
abbrev pub normalized : Bool → List ℕ → List ℕ
normalized true text = lf_ends false text
normalized false text = without_last_lf (lf_ends false text)

-- The text without an LF at its start.
abbrev pub without_first_lf : List ℕ → List ℕ
without_first_lf [] = []
without_first_lf (c ∷ cs) = if c == 10 then cs else c ∷ cs

-- The last byte is LF.
abbrev pub ends_with_lf : List ℕ → Bool
ends_with_lf x = nat_lt 0 (length x) && slice_index x (length x - 1) == 10
