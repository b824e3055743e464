-- The values of JSON, and the reason why some JSON has no value. The JSON crate states how a text
-- is read. In the JSON that it reads, an object has each key once, with the last of its values, in
-- byte order of the keys.
use Rattle.std.specs.Prelude.{◌≡◌, ◌^◌, ◌||◌, ℕ, pos, Bool, true, false, List, [], ◌∷◌, Option, Some, None, option_map}
use Rattle.std.specs.Prelude.{option_and_then, nat_lt, nat_le, if◌then◌else◌}
use Rattle.serde_json.specs.Data.{Num, unsigned, negative, float, Data, null, boolean, number, string, array, object}
use Rattle.serde_json.specs.Data.{Items, no_items, item, Members, no_members, member}
use Rattle.serde_json.specs.Find.{as_object}
use Rattle.serde_json.specs.Read.{read}
use Rattle.jt_value.specs.Tree as tree
use Rattle.jt_value.specs.Tree.{Tree}
use Rattle.jt_value.specs.Pairs.{Pairs}
use Rattle.jt_contexts.specs.declared.error.ContextError.{ContextError}
use Rattle.jt_contexts.specs.declared.error.ContextError.TheVariants as error

-- ---- values

-- A whole number below 2^63 has a value; no other number has one.
abbrev pub number_of : Num → Option Tree
number_of (unsigned n) = if nat_lt n (2 ^ 63) then Some (tree.number (pos n)) else None
number_of (negative z) = Some (tree.number z)
number_of (float x) = None

-- The value of JSON, if each number in it has one. The value of `null` is `None`, and the value of
-- a text is a text without markup.
abbrev mutual
  pub value_of : Data → Option Tree
  value_of null = Some tree.nothing
  value_of (boolean b) = Some (tree.truth_value b)
  value_of (number n) = number_of n
  value_of (string s) = Some (tree.text s)
  value_of (array ds) = option_map tree.list (items_of ds)
  value_of (object ms) = option_map tree.map (entries_of ms)

  pub items_of : Items → Option tree.Items
  items_of no_items = Some tree.no_items
  items_of (item d ds) = option_and_then (λ t. option_map (tree.item t) (items_of ds)) (value_of d)

  pub entries_of : Members → Option tree.Entries
  entries_of no_members = Some tree.no_entries
  entries_of (member k d ms) =
      option_and_then (λ t. option_map (tree.entry k t) (entries_of ms)) (value_of d)

-- The names of an object with their values, in the object's order.
abbrev pub pairs_in : Members → Option Pairs
pairs_in no_members = Some []
pairs_in (member key json members) =
    option_and_then (λ value. option_map (λ pairs. (key, value) ∷ pairs) (pairs_in members)) (value_of json)

-- The text is an object of these names and values.
abbrev pub IsContext : List ℕ → Pairs → Type 0
IsContext text pairs = (members : Members) × (read text ≡ Some (object members)) × (pairs_in members ≡ Some pairs)

-- ---- JSON without a value

-- Whether some number in the JSON satisfies the predicate.
abbrev mutual
  pub has_number : (Num → Bool) → Data → Bool
  has_number p null = false
  has_number p (boolean b) = false
  has_number p (number n) = p n
  has_number p (string s) = false
  has_number p (array ds) = items_have p ds
  has_number p (object ms) = members_have p ms

  pub items_have : (Num → Bool) → Items → Bool
  items_have p no_items = false
  items_have p (item d ds) = has_number p d || items_have p ds

  pub members_have : (Num → Bool) → Members → Bool
  members_have p no_members = false
  members_have p (member k d ms) = has_number p d || members_have p ms

-- Whether the JSON crate holds a number as a float.
abbrev pub is_not_whole : Num → Bool
is_not_whole (unsigned n) = false
is_not_whole (negative z) = false
is_not_whole (float x) = true

-- Whether a number is whole and at least 2^63.
abbrev pub is_out_of_range : Num → Bool
is_out_of_range (unsigned n) = nat_le (2 ^ 63) n
is_out_of_range (negative z) = false
is_out_of_range (float x) = false

-- A number of the kind that the error names occurs. `NoMemory` claims nothing.
abbrev pub Speaks : ((Num → Bool) → Bool) → ContextError → Type 0
Speaks there error.NotJson = ⊥
Speaks there error.NotObject = ⊥
Speaks there error.NotWhole = there is_not_whole ≡ true
Speaks there error.OutOfRange = there is_out_of_range ≡ true
Speaks there error.NoMemory = Unit {0}

abbrev pub NumberFlaw : Num → ContextError → Type 0
NumberFlaw n = Speaks (λ p. p n)

abbrev pub Flaw : Data → ContextError → Type 0
Flaw d = Speaks (λ p. has_number p d)

abbrev pub ItemsFlaw : Items → ContextError → Type 0
ItemsFlaw ds = Speaks (λ p. items_have p ds)

abbrev pub MembersFlaw : Members → ContextError → Type 0
MembersFlaw ms = Speaks (λ p. members_have p ms)

-- The claim of the error about the text holds.
abbrev pub Holds : List ℕ → ContextError → Type 0
Holds text error.NotJson = read text ≡ None
Holds text error.NotObject = (d : Data) × (read text ≡ Some d) × (as_object d ≡ None)
Holds text error.NoMemory = Unit {0}
Holds text e = (d : Data) × (read text ≡ Some d) × Flaw d e
