-- Definitions for the contracts of private functions: operands, and the results of calls on them.
use Rattle.std.specs.Prelude.{◌≡◌, ℕ, zero, suc, List, [], ◌∷◌, map, length, Bool, IfOk, ◌+◌, ℤ, ◌-◌, ◌^◌, min, true}
use Rattle.std.specs.Prelude.{false, Option, Some, None, Result, Ok, Err}
use Rattle.std.specs.Str.{chars}
use Rattle.jt_value.specs.Iteration.{character_items, key_items}
use Rattle.jt_value.specs.ListItems.{numbers_of}
use Rattle.jt_value.specs.Payload.{has_payload}
use Rattle.jt_value.specs.Tree as tree
use Rattle.jt_value.specs.Tree.{Tree, Items}
use Rattle.jt_value.specs.View.{view, items_view, entries_view}
use Rattle.jt_value.specs.declared.fault.Fault.{Fault}
use Rattle.jt_value.specs.declared.fault.Fault.TheVariants as fault
use Rattle.jt_escape.specs.Joining.{piece}
use Rattle.jt_value.specs.declared.fault.NoMemory.{NoMemory}
use Rattle.jt_value.specs.declared.fault.ValueError.{ValueError}
use Rattle.jt_value.specs.declared.fault.ValueError.TheVariants as error
use Rattle.jt_value.specs.declared.value.Value.{Value}
use Rattle.jt_value.specs.Tree.{no_items, item}
use Rattle.jt_ops.specs.Limited.{limited_by}
use Rattle.jt_ops.specs.declared.limits.Limits.{Limits}
use Rattle.jt_filters.specs.declared.operand.Operand.{Operand}
use Rattle.jt_filters.specs.declared.operand.Operand.TheVariants as operand
use Rattle.jt_filters.specs.declared.item_list.ItemList.{ItemList}
use Rattle.jt_filters.specs.declared.item_list.ItemList.TheVariants as item_list

abbrev pub tree_of : Operand → Tree
tree_of operand.Undefined = tree.undefined
tree_of (operand.Number n) = tree.number n
tree_of (operand.Text s) = tree.text s.now
tree_of (operand.Value v) = view v.now

-- Operands as items.
abbrev pub operand_items : List Operand → Items
operand_items [] = no_items
operand_items (o ∷ os) = item (tree_of o) (operand_items os)

abbrev pub items_in : ItemList → Items
items_in (item_list.Values vs) = items_view vs.now
items_in (item_list.Numbers range) = numbers_of range
items_in (item_list.Characters s) = character_items (chars s.now)
items_in (item_list.Keys es) = key_items (entries_view es.now)
items_in (item_list.Operands os) = operand_items os.now

-- True if there is a second item.
abbrev pub has_second : Items → Bool
has_second (item t (item u us)) = true
has_second ts = false

-- The number of a value, if it is one.
abbrev pub number_of : Tree → Option ℤ
number_of (tree.number z) = Some z
number_of t = None

-- The bytes of a plain text.
abbrev pub plain_of : Tree → Option (List ℕ)
plain_of (tree.text s) = Some s
plain_of t = None

-- Holds if the call returned the value, or memory for its payload was refused.
abbrev pub Copies : Tree → Result Value NoMemory → Type 0
Copies t (Ok v) = view v ≡ t
Copies t (Err e) = has_payload t ≡ true

-- The measure of a result: its size, at most 2^64 - 1, and its nesting, at most 2^32 - 1.
abbrev pub measured : Result Tree Fault → Result (ℕ × ℕ) Fault
measured (Ok t) = Ok (min (tree.size t) (2 ^ 64 - 1), min (tree.nesting t) (2 ^ 32 - 1))
measured (Err e) = Err e

-- Holds if P holds of each result with this measure.
abbrev pub OfMeasured : Result (ℕ × ℕ) Fault → (Result Tree Fault → Type 0) → Type 0
OfMeasured measure P = (wanted : Result Tree Fault) → measure ≡ measured wanted → P wanted

-- Holds if the limits allow a result.
abbrev pub IsAllowed : Limits → Result Tree Fault → Type 0
IsAllowed limits (Ok t) = limited_by limits (Ok t) ≡ Ok t
IsAllowed limits (Err e) = ⊥

-- The value of an operand, or the fault.
abbrev pub chosen : Result Operand Fault → Result Tree Fault
chosen (Ok o) = Ok (tree_of o)
chosen (Err e) = Err e

-- A filter's input followed by its arguments.
abbrev pub inputs : Operand → List Value → List Tree
inputs o vs = tree_of o ∷ map view vs

-- Holds if the call returned the list of the items, unless memory was refused.
abbrev pub Lists : Items → Result Value NoMemory → Type 0
Lists ts result = IfOk result (λ v. view v ≡ tree.list ts)

-- The last item of a nonempty list.
abbrev pub last_of : Tree → Items → Tree
last_of t no_items = t
last_of t (item u us) = last_of u us

-- The length of a text, at most 2^64 - 1. A missing text is a fault.
abbrev pub text_length : Option (List ℕ) → Result ℕ Fault
text_length (Some s) = Ok (min (length s) (2 ^ 64 - 1))
text_length None = Err fault.Unprintable

-- The measure of a text of this length.
abbrev pub text_measure : Result ℕ Fault → Result (ℕ × ℕ) Fault
text_measure (Ok n) = Ok (min (n + 1) (2 ^ 64 - 1), 0)
text_measure (Err e) = Err e

abbrev pub on_length : (ℕ → Result ℕ Fault) → Result ℕ Fault → Result ℕ Fault
on_length f (Ok n) = f n
on_length f (Err e) = Err e

-- The joined length: `total` bytes, then each item with `between` bytes before it. Each sum is at
-- most 2^64 - 1.
abbrev pub led_length : Bool → ℕ → ℕ → Items → Result ℕ Fault
led_length escaping total between no_items = Ok total
led_length escaping total between (item t ts) =
    on_length (λ n.
    led_length escaping (min (min (total + between) (2 ^ 64 - 1) + n) (2 ^ 64 - 1)) between ts)
    (text_length (piece escaping t))

-- The first n items.
abbrev pub front : ℕ → Items → Items
front zero ts = no_items
front (suc n) no_items = no_items
front (suc n) (item t ts) = item t (front n ts)

-- Holds if a result, if there is one, has a payload.
abbrev pub HasPayload : Result Tree Fault → Type 0
HasPayload (Ok t) = has_payload t ≡ true
HasPayload (Err e) = Unit {0}

-- Holds if the call returned the wanted result. It fails for lack of memory only if that result has
-- a payload.
abbrev pub Builds : Result Tree Fault → Result Value ValueError → Type 0
Builds wanted (Ok v) = wanted ≡ Ok (view v)
Builds wanted (Err (error.Fault f)) = wanted ≡ Err f
Builds wanted (Err error.NoMemory) = HasPayload wanted

-- Holds if the call returned the items, or their fault.
abbrev pub HasItems : Result Items Fault → Result ItemList Fault → Type 0
HasItems wanted (Ok found) = wanted ≡ Ok (items_in found)
HasItems wanted (Err f) = wanted ≡ Err f
