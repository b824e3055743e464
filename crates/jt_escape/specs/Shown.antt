-- A text with escapes: a byte is shown as its escape if it needs one, and otherwise as it is.
use Rattle.std.specs.Prelude.{ℕ, Bool, List, [], ◌∷◌, flat_map, if◌then◌else◌}

module _ (is_special : ℕ → Bool) (escape : ℕ → List ℕ) where
  abbrev pub shown_byte : ℕ → List ℕ
  shown_byte byte = if is_special byte then escape byte else byte ∷ []

  abbrev pub shown : List ℕ → List ℕ
  shown text = flat_map shown_byte text
