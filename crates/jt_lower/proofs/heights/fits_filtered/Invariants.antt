use Rattle.std.proofs.Common.{◌≡◌, ◌&&◌, drop}
use Rattle.std.specs.Prelude.{nat_le}
use Rattle.jt_ir.specs.Size.{expr_height}
use Rattle.jt_ir.specs.View.{filtered_view}
use Rattle.jt_lower.proofs.FilterCode.{steps_low, required_low}
use Rattle.jt_lower.proofs.heights.fits_filtered.Given as goal

abbrev pub invariant-loop-filter : goal.invariant-loop-filter
invariant-loop-filter l =
    nat_le (expr_height (filtered_view l.filtered)) l.room
    ≡ steps_low l.room (drop l.filter-index l.filtered.filters.items)
    && required_low l.filtered.required l.room
