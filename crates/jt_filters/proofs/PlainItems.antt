-- No character, key or number is markup.
use Rattle.std.proofs.Common.{◌≡◌, ℕ, zero, suc, ℤ, false, List, [], ◌∷◌, refl}
use Rattle.std.specs.Prelude.{◌+ℤ◌}
use Rattle.jt_value.specs.Iteration.{character_items, key_items}
use Rattle.jt_value.specs.ListItems.{numbers_of}
use Rattle.jt_value.specs.Numbers.{stepped}
use Rattle.jt_value.specs.Tree.{Entries, no_entries, entry}
use Rattle.jt_value.specs.declared.number_range.NumberRange.{NumberRange}
use Rattle.jt_escape.specs.Joining.{has_markup}

no_markup_stepped : (count : ℕ) (first step : ℤ) → has_markup (stepped count first step) ≡ false
no_markup_stepped zero first step = refl
no_markup_stepped (suc count) first step = no_markup_stepped count (first +ℤ step) step

pub no_markup_numbers : (range : NumberRange) → has_markup (numbers_of range) ≡ false
no_markup_numbers range = no_markup_stepped range.count range.first range.step

pub no_markup_characters : (cs : List ℕ) → has_markup (character_items cs) ≡ false
no_markup_characters [] = refl
no_markup_characters (c ∷ cs) = no_markup_characters cs

pub no_markup_keys : (es : Entries) → has_markup (key_items es) ≡ false
no_markup_keys no_entries = refl
no_markup_keys (entry k t es) = no_markup_keys es

pub ruleset no_markup = (no_markup_numbers, no_markup_characters, no_markup_keys)
