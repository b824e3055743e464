use Rattle.std.proofs.Common.{◌≡◌, ◌++◌, drop}
use Rattle.jt_ast.specs.StatementView.{names_view}
use Rattle.jt_uses.specs.Uses.{bound}
use Rattle.jt_uses.specs.UseView.{sites_view}
use Rattle.jt_uses.proofs.site.UseList.add_targets.Given as goal

abbrev pub invariant-loop-target : goal.invariant-loop-target
invariant-loop-target l = sites_view l.self.sites.items ++ bound (names_view (drop l.target-index l.targets)) l.place ≡
    sites_view l.initial.self.sites.items ++ bound (names_view l.targets) l.place
