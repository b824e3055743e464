-- Equality of values: the relation that `==`, `in` and the tests `eq` and `ne` use.
use Rattle.std.specs.Prelude.{◌≡◌, ℕ, ℤ, pos, List, Bool, true, false, ◌&&◌, Option, Some, None, if◌then◌else◌}
use Rattle.std.specs.Option.{option_map_or}
use Rattle.std.specs.Ordering.{int_eq}
use Rattle.std.specs.Str.{bytes_eq}
use Rattle.jt_value.specs.Tree.{Tree, undefined, nothing, truth_value, number, text, markup, list, map, Items, no_items}
use Rattle.jt_value.specs.Tree.{item, Entries, no_entries, entry}
use Rattle.jt_value.specs.Entries.{entry_of, has_key, all_keys}

-- The number that a truth value equals: 1 or 0.
abbrev pub truth_number : Bool → ℤ
truth_number true = pos 1
truth_number false = pos 0

-- True if two values are equal:
-- - numbers are equal by value, and a truth value equals 1 or 0;
-- - texts are equal by their characters, plain or markup, so by their bytes;
-- - lists are equal item by item;
-- - maps are equal if they have equal sets of keys, and equal first values of each key;
-- - none equals none, and undefined equals undefined.
-- All other pairs of values are unequal.
abbrev mutual
  pub equal : Tree → Tree → Bool
  equal undefined undefined = true
  equal nothing nothing = true
  equal (truth_value a) (truth_value b) = int_eq (truth_number a) (truth_number b)
  equal (truth_value a) (number y) = int_eq (truth_number a) y
  equal (number x) (truth_value b) = int_eq x (truth_number b)
  equal (number x) (number y) = int_eq x y
  equal (text x) (text y) = bytes_eq x y
  equal (text x) (markup y) = bytes_eq x y
  equal (markup x) (text y) = bytes_eq x y
  equal (markup x) (markup y) = bytes_eq x y
  equal (list ts) (list us) = equal_items ts us
  equal (map es) (map fs) =
      all_keys (λ k. equal_at es k (entry_of k fs)) es && all_keys (λ k. has_key k es) fs
  equal t u = false

  -- True if both lists have equal lengths, and equal items at each index.
  pub equal_items : Items → Items → Bool
  equal_items no_items no_items = true
  equal_items (item t ts) (item u us) = equal t u && equal_items ts us
  equal_items ts us = false

  -- True if the first value of the key and the value `other` both exist and are equal.
  pub equal_at : Entries → List ℕ → Option Tree → Bool
  equal_at no_entries k other = false
  equal_at (entry l t es) k other =
      if bytes_eq l k then option_map_or (equal t) other false else equal_at es k other

-- True if the first values of a key are both missing, or both exist and are equal.
abbrev pub agree : Option Tree → Option Tree → Bool
agree None None = true
agree None (Some u) = false
agree (Some t) None = false
agree (Some t) (Some u) = equal t u

-- Holds if the first values of two maps agree at every possible key. The maps are equal exactly
-- then.
abbrev pub AgreeAtEachKey : Entries → Entries → Type 0
AgreeAtEachKey es fs = (k : List ℕ) → agree (entry_of k es) (entry_of k fs) ≡ true
