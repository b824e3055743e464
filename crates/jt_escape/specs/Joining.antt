-- The rule of the filter `join`: the items' printed texts with the separator's text between each
-- two. If an item or the separator is markup, the result is markup, and every plain text is
-- escaped. The separator must have a printed text in every case, even if there is nothing to
-- separate.
use Rattle.std.specs.Prelude.{◌≡◌, ℕ, Bool, true, false, ◌||◌, if◌then◌else◌, List, [], ◌∷◌, Option, Some, None}
use Rattle.std.specs.Prelude.{option_map, option_and_then, Result, Ok, Err}
use Rattle.std.specs.List.{join_by}
use Rattle.jt_value.specs.Tree as tree
use Rattle.jt_value.specs.Tree.{Tree, Items, no_items, item, printed}
use Rattle.jt_value.specs.View.{view}
use Rattle.jt_value.specs.declared.value.Value.{Value}
use Rattle.jt_value.specs.declared.fault.Fault.{Fault}
use Rattle.jt_value.specs.declared.fault.Fault.TheVariants as fault
use Rattle.jt_value.specs.declared.fault.ValueError.{ValueError}
use Rattle.jt_value.specs.declared.fault.ValueError.TheVariants as error
use Rattle.jt_escape.specs.Escaping.{escaped}

-- True if the value is markup.
abbrev pub is_markup : Tree → Bool
is_markup (tree.markup bytes) = true
is_markup _ = false

-- True if at least one item is markup.
abbrev pub has_markup : Items → Bool
has_markup no_items = false
has_markup (item t ts) = is_markup t || has_markup ts

-- The text that a value contributes to a join: its printed text, if it has one. While escaping,
-- markup is unchanged and all else is escaped.
abbrev pub piece : Bool → Tree → Option (List ℕ)
piece true (tree.markup bytes) = Some bytes
piece true t = option_map escaped (printed t)
piece false t = printed t

-- The pieces of the items, if each item has one.
abbrev pub pieces : Bool → Items → Option (List (List ℕ))
pieces escaping no_items = Some []
pieces escaping (item t ts) =
    option_and_then (λ first. option_map (λ rest. first ∷ rest) (pieces escaping ts))
    (piece escaping t)

-- The pieces of the items with the separator's piece between each two, if all pieces exist.
abbrev pub joined_text : Bool → Items → Tree → Option (List ℕ)
joined_text escaping items separator =
    option_and_then (λ between. option_map (join_by (λ text. text) between) (pieces escaping items))
    (piece escaping separator)

-- The value with this text, or the fault if there is no text.
abbrev pub or_unprintable : (List ℕ → Tree) → Option (List ℕ) → Result Tree Fault
or_unprintable make (Some text) = Ok (make text)
or_unprintable make None = Err fault.Unprintable

-- The filter `join` without escaping.
abbrev pub joined_plain : Items → Tree → Result Tree Fault
joined_plain items separator = or_unprintable tree.text (joined_text false items separator)

-- The filter `join`, if an item or the separator is markup.
abbrev pub joined_as_markup : Items → Tree → Result Tree Fault
joined_as_markup items separator = or_unprintable tree.markup (joined_text true items separator)

-- The filter `join` under autoescaping.
abbrev pub joined_markup : Items → Tree → Result Tree Fault
joined_markup items separator =
    if is_markup separator || has_markup items
    then joined_as_markup items separator
    else joined_plain items separator

-- Holds if the result is the value or the fault that the definition requires. `NoMemory` makes no
-- claim.
abbrev pub IsAnswer : Result Tree Fault → Result Value ValueError → Type 0
IsAnswer meaning (Ok v) = meaning ≡ Ok (view v)
IsAnswer meaning (Err (error.Fault f)) = meaning ≡ Err f
IsAnswer meaning (Err error.NoMemory) = Unit {0}
