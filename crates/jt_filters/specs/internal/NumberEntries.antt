-- Definitions for the contracts of private functions: entries of numbers, and whether each was seen.
use Rattle.std.specs.Prelude.{◌≡◌, ℕ, ℤ, ◌<◌, Bool, false, ◌&&◌, List, length, slice_index_or}
use Rattle.std.specs.List.{list_any}
use Rattle.std.specs.Int.Signed.{◌≤ℤ◌}
use Rattle.std.specs.Ordering.{int_eq}
use Rattle.jt_filters.specs.declared.seen_numbers.Entry.{Entry}

-- True if a number was seen.
abbrev pub was_seen : List Entry → ℤ → Bool
was_seen es z = list_any (λ e. int_eq e.number z && e.is_seen) es

-- True if a number has an entry.
abbrev pub occurs : ℤ → List Entry → Bool
occurs z es = list_any (λ e. int_eq e.number z) es

-- Holds if no number was seen.
abbrev pub AreUnseen : List Entry → Type 0
AreUnseen es = (z : ℤ) → was_seen es z ≡ false

-- Holds if no two entries have the same number.
abbrev pub AreDistinct : List Entry → Type 0
AreDistinct es =
    (i j : ℕ) (d : Entry) → i < length es → j < length es
    → (slice_index_or es i d).number ≡ (slice_index_or es j d).number → i ≡ j

-- Holds if the entry at an index has this number.
abbrev pub IsAt : ℤ → ℕ → List Entry → Type 0
IsAt z i es = (i < length es) × ((d : Entry) → (slice_index_or es i d).number ≡ z)

-- Entries with different numbers, at most `last`, of which none was seen.
pub record AreRising (es : List Entry) (last : ℤ) : Type 0 where
  pub distinct : AreDistinct es
  pub unseen : AreUnseen es
  pub below : (k : ℕ) (d : Entry) → k < length es → (slice_index_or es k d).number ≤ℤ last
