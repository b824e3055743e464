use Rattle.std.proofs.Common.{◌≡◌, drop}
use Rattle.jt_ast.specs.StatementView.{filter_calls_view}
use Rattle.jt_parse.specs.Names.{filter_calls_unknown}
use Rattle.jt_parse.proofs.names.filter_calls_unknown.Given as goal

abbrev pub invariant-loop-filter : goal.invariant-loop-filter
invariant-loop-filter l =
    filter_calls_unknown l.named (filter_calls_view l.filters)
    ≡ filter_calls_unknown l.named (filter_calls_view (drop l.filter-index l.filters))
