-- The items of a list and the values of a map are smaller than it. The models of lists and maps
-- cite these lemmas.
use Rattle.std.specs.Prelude.{◌+◌, ◌*◌, ◌≤◌, max, List, [], ◌∷◌}
use Rattle.std.proofs.Common.{arith}
use denote.Param.Weighed.{most}
use Rattle.jt_value.specs.Tree.{size, items_size, entries_size}
use Rattle.jt_value.specs.ListItems.{numbers_of}
use Rattle.jt_value.specs.Payload.{joined_items}
use Rattle.jt_value.specs.View.{view, items_view, entries_view}
use Rattle.jt_value.specs.declared.number_range.NumberRange.{NumberRange}
use Rattle.jt_value.specs.declared.text.Text.{Text}
use Rattle.jt_value.specs.declared.value.Value.{Value}
use Rattle.jt_value.specs.declared.value.Value.TheVariants as value
use Rattle.jt_value.specs.declared.payload.ValueList.TheDeep.{deep-Value, size-Value}

pub deep_le : (v : Value) → deep-Value v ≤ size (view v)
deep_le value.Undefined = omega arith
deep_le value.None = omega arith
deep_le (value.Bool b) = omega arith
deep_le (value.Int z) = omega arith
deep_le (value.Text s) = omega arith
deep_le (value.Markup s) = omega arith
deep_le (value.List l) = omega arith
deep_le (value.Map m) = omega arith

pub most-list : (vs : List Value) (range : NumberRange)
    → most deep-Value vs ≤ items_size (joined_items (items_view vs) (numbers_of range))
most-list [] range = omega arith
most-list (v ∷ vs) range = omega (arith, deep_le v, most-list vs range)

pub most-entries : (es : List (Text × Value))
    → max (most (λ e. max 0 (max (deep-Value e.1) 0)) es) 0 ≤ entries_size (entries_view es)
most-entries [] = omega arith
most-entries (e ∷ es) = omega (arith, deep_le e.1, most-entries es)

-- The size by which a recursion decreases is bounded by the size of the view.
pub size_le : (v : Value) → size-Value v ≤ 2 * size (view v) + 1
size_le v = omega (arith, deep_le v)

pub sizes-items : (vs : List Value) → most size-Value vs ≤ 2 * items_size (items_view vs) + 1
sizes-items [] = omega arith
sizes-items (v ∷ vs) = omega (arith, size_le v, sizes-items vs)

pub sizes-entries : (es : List (Text × Value))
    → max (most (λ e. max 0 (max (size-Value e.1) 0)) es) 0 ≤ 2 * entries_size (entries_view es) + 1
sizes-entries [] = omega arith
sizes-entries (e ∷ es) = omega (arith, size_le e.1, sizes-entries es)
