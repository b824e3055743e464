use Rattle.std.proofs.Common.{subst}
use Rattle.jt_expr.specs.Promises.{parts_view}
use Rattle.jt_expr.specs.internal.Pending.{FitsMove, grown, owner_view, owning}
use Rattle.jt_expr.proofs.grammar.Grammar.ends.Goals as goal

pub returns : goal.returns
returns c =
    let tree = owning (owner_view c.args.owner) (parts_view c.args.found) in
    subst (λ k. FitsMove c.args.self.now.below (grown k tree) tree c.grown.result) c.level.ensures
    (c.grown.ensures.fits c.args.self.now.below tree c.owned.ensures)
