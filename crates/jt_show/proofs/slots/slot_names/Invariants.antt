use Rattle.std.proofs.Common.{◌≡◌, ◌<◌, ℕ, drop, length}
use Rattle.std.specs.Option.{option_or}
use Rattle.jt_show.specs.Instructions.{name_of_slot}
use Rattle.jt_show.specs.internal.SlotNames.{named_at}
use Rattle.jt_show.proofs.slots.slot_names.Given as goal

-- The name of a slot is in the table, or is the first of the names that are left.
abbrev pub invariant-names : goal.invariant-names
invariant-names g l = record {
  len : length l.slots.items ≡ (g.C.Code.code l.code).globals;
  each : (slot : ℕ) → slot < (g.C.Code.code l.code).globals
      → option_or (named_at l.slots.items slot) (name_of_slot (drop l.index (g.C.Code.code l.code).names) slot)
      ≡ name_of_slot (g.C.Code.code l.code).names slot;
}
