-- The state of a loop at one of its turns, and the fields of `loop`.
use Rattle.std.specs.Prelude.{ℕ, zero, suc, ◌-◌, pos, nat_lt, ◌==◌, List, [], ◌∷◌, length, slice_get, unwrap_or, Option}
use Rattle.std.specs.Prelude.{Some, None, if◌then◌else◌, Result, Ok, Err}
use Rattle.jt_ids.specs.declared.loop_field.LoopField.{LoopField}
use Rattle.jt_ids.specs.declared.loop_field.LoopField.TheVariants as field
use Rattle.jt_value.specs.Tree as tree
use Rattle.jt_value.specs.Tree.{Tree, Items, no_items, item}
use Rattle.jt_value.specs.Iteration.{items_of_tree}
use Rattle.jt_value.specs.declared.fault.Fault.{Fault}
use Rattle.jt_value.specs.declared.fault.Fault.TheVariants as faults
use Rattle.jt_eval.specs.Eval.{Eval, deeper, checked}

abbrev pub items_listed : Items → List Tree
items_listed no_items = []
items_listed (item t ts) = t ∷ items_listed ts

abbrev pub result_listed : Result Items Fault → Result (List Tree) Fault
result_listed (Ok ts) = Ok (items_listed ts)
result_listed (Err e) = Err e

-- The items that a loop over a value visits.
abbrev pub items_of_value : Tree → Result (List Tree) Fault
items_of_value v = result_listed (items_of_tree v)

-- The items of a loop, and the number of earlier turns.
pub record Loop : Type 0 where
  pub items : List Tree
  pub before : ℕ

abbrev pub tree_at : List Tree → ℕ → Tree
tree_at ts i = unwrap_or (slice_get ts i) tree.undefined

abbrev pub tree_before : List Tree → ℕ → Tree
tree_before ts zero = tree.undefined
tree_before ts (suc i) = tree_at ts i

-- The number that a count is. A count above the greatest number is a fault.
abbrev pub counted : ℕ → Result Tree Fault
counted n = if nat_lt 9223372036854775807 n then Err faults.Overflow else Ok (tree.number (pos n))

-- A field of `loop` at the current turn.
abbrev pub field_at : LoopField → Loop → Result Tree Fault
field_at field.Item loop = Ok (tree_at loop.items loop.before)
field_at field.Index loop = counted (suc loop.before)
field_at field.Index0 loop = counted loop.before
field_at field.RevIndex loop = counted (length loop.items - loop.before)
field_at field.RevIndex0 loop = counted (length loop.items - suc loop.before)
field_at field.First loop = Ok (tree.truth_value (loop.before == 0))
field_at field.Last loop = Ok (tree.truth_value (suc loop.before == length loop.items))
field_at field.Length loop = counted (length loop.items)
field_at field.Previous loop = Ok (tree_before loop.items loop.before)
field_at field.Next loop = Ok (tree_at loop.items (suc loop.before))

-- A field of `loop`. Outside a loop it has neither value nor fault at any depth: the rules refuse
-- it.
abbrev pub loop_field : LoopField → Option Loop → Eval Tree
loop_field f None = deeper
loop_field f (Some loop) = checked (field_at f loop)
