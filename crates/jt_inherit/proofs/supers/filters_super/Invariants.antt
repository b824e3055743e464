use Rattle.jt_inherit.proofs.Vocabulary.{◌≡◌, drop, filter_calls_view, filter_call_super}
use Rattle.jt_inherit.proofs.supers.filters_super.Given as goal

abbrev pub invariant-loop-filter : goal.invariant-loop-filter
invariant-loop-filter l =
    filter_call_super (filter_calls_view l.filters)
    ≡ filter_call_super (filter_calls_view (drop l.filter-index l.filters))
