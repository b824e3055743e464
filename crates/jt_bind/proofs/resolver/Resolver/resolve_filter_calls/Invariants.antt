use Rattle.jt_bind.proofs.{◌≡◌, cenv_in, filters_of, filters_view, take, filter_calls_view, variable, slot_view}
use Rattle.jt_bind.proofs.{values, IsPlaced}
use Rattle.jt_bind.proofs.resolver.Resolver.resolve_filter_calls.Given as goal

abbrev pub invariant-loop-filter_call : goal.invariant-loop-filter_call
invariant-loop-filter_call l =
    (l.resolved.required ≡ (cenv_in l.self.tables.now).strict)
    × IsPlaced (filters_of l.self (filter_calls_view (take l.filter_call-index l.filter_calls))
    (variable (slot_view l.fn.value)))
    (filters_view l.resolved) (values l.initial.pool) (values l.pool)
