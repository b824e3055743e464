use Rattle.jt_bind.proofs.{◌≡◌, drop, max, expr_locals, filtered_view, up_to, filters_locals}
use Rattle.jt_bind.proofs.local_counts.last_of_filtered.Given as goal

abbrev pub invariant-loop-filter : goal.invariant-loop-filter
invariant-loop-filter l =
    max (up_to l.latest) (filters_locals (drop l.filter-index l.filtered.filters.items))
    ≡ max (up_to l.fn.last) (expr_locals (filtered_view l.filtered))
