use Rattle.std.proofs.Common.{◌≡◌, ◌++◌, drop}
use Rattle.jt_ast.specs.ExpressionView.{pairs_view}
use Rattle.jt_uses.specs.Uses.{keys_bound}
use Rattle.jt_uses.specs.UseView.{sites_view}
use Rattle.jt_uses.proofs.site.UseList.add_keys.Given as goal

abbrev pub invariant-loop-name : goal.invariant-loop-name
invariant-loop-name l = sites_view l.self.sites.items ++ keys_bound (pairs_view (drop l.name-index l.pairs)) l.place ≡
    sites_view l.initial.self.sites.items ++ keys_bound (pairs_view l.pairs) l.place
