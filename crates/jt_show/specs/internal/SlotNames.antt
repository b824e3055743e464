-- The table of the names of slots.
use Rattle.std.specs.Prelude.{◌≡◌, ◌==◌, ℕ, List, Option, Some, None, option_map, slice_index_or, if◌then◌else◌}
use Rattle.std.specs.Borrow.{Bor}
use Rattle.jt_image.specs.Code.{Name, Code}
use Rattle.jt_show.specs.Instructions.{global_name}

-- The name of a slot in a table.
abbrev pub named_at : List (Option (Bor (List ℕ))) → ℕ → Option (List ℕ)
named_at slots slot = option_map (λ name. name.now) (slice_index_or slots slot None)

-- The text of a name, if it is the name of the slot.
abbrev pub named_by : Name → ℕ → Option (List ℕ)
named_by name slot = if name.slot == slot then Some name.text else None

-- The table has the names of the globals.
abbrev pub AreNames : Code → List (Option (Bor (List ℕ))) → Type 0
AreNames k slots = (slot : ℕ) → named_at slots slot ≡ global_name k slot
