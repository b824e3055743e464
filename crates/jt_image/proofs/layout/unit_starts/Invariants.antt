use Rattle.std.proofs.Common.{◌≡◌, ◌+◌, ◌≤◌, ◌++◌, drop}
use Rattle.jt_image.specs.View.{units_view}
use Rattle.jt_image.specs.IsCode.{total_len, max_instructions}
use Rattle.jt_image.specs.internal.Layout as layout
use Rattle.jt_image.proofs.layout.unit_starts.Given as goal

abbrev pub invariant-units : goal.invariant-units
invariant-units l = record {
  starts : l.offsets.items ++ layout.unit_starts l.start l.first (units_view (drop l.unit-index l.units))
      ≡ layout.unit_starts l.start 0 (units_view l.units);
  counted : l.first + total_len (units_view (drop l.unit-index l.units)) ≡ total_len (units_view l.units);
  within : l.first ≤ max_instructions;
}
