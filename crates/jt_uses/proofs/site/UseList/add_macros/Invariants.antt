use Rattle.std.proofs.Common.{◌≡◌, ◌++◌, drop}
use Rattle.jt_ast.specs.StatementView.{given_view}
use Rattle.jt_uses.specs.Uses.{macros_bound}
use Rattle.jt_uses.specs.UseView.{sites_view}
use Rattle.jt_uses.proofs.site.UseList.add_macros.Given as goal

abbrev pub invariant-loop-called : goal.invariant-loop-called
invariant-loop-called l =
    sites_view l.self.sites.items ++ macros_bound l.library (given_view (drop l.called-index l.macros)) l.place
    ≡ sites_view l.initial.self.sites.items ++ macros_bound l.library (given_view l.macros) l.place
