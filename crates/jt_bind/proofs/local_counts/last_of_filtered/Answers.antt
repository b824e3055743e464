use Rattle.jt_bind.proofs.{expr_view, filters_after, arith, filters_counted, required_counted}
use Rattle.jt_bind.proofs.local_counts.last_of_filtered.Goals as goal

pub loop-filter-init : goal.loop-filter-init
loop-filter-init c =
    let v = c.args.filtered.now in
    omega (
      arith,
      required_counted v.required (filters_after v.filters.items (expr_view v.value)),
      filters_counted v.filters.items (expr_view v.value),
    )
