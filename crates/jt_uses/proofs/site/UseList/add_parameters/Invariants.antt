use Rattle.std.proofs.Common.{◌≡◌, ◌++◌, drop}
use Rattle.jt_ast.specs.StatementView.{parameters_view}
use Rattle.jt_uses.specs.Uses.{parameters_bound}
use Rattle.jt_uses.specs.UseView.{sites_view}
use Rattle.jt_uses.proofs.site.UseList.add_parameters.Given as goal

abbrev pub invariant-loop-parameter : goal.invariant-loop-parameter
invariant-loop-parameter l = sites_view l.self.sites.items ++ parameters_bound
    (parameters_view (drop l.parameter-index l.parameters)) l.place ≡ sites_view l.initial.self.sites.items ++
    parameters_bound (parameters_view l.parameters) l.place
