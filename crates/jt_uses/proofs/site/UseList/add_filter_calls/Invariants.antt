use Rattle.std.proofs.Common.{◌≡◌, ◌++◌, drop}
use Rattle.jt_ast.specs.StatementView.{filter_calls_view}
use Rattle.jt_uses.specs.Uses.{filter_call_uses}
use Rattle.jt_uses.specs.UseView.{sites_view}
use Rattle.jt_uses.proofs.site.UseList.add_filter_calls.Given as goal

abbrev pub invariant-loop-filter_call : goal.invariant-loop-filter_call
invariant-loop-filter_call l = sites_view l.self.sites.items ++ filter_call_uses
    (filter_calls_view (drop l.filter_call-index l.filter_calls)) l.place ≡ sites_view l.initial.self.sites.items ++
    filter_call_uses (filter_calls_view l.filter_calls) l.place
