use Rattle.jt_chains.proofs.chain.Chain.definitions.Goals as goal
use Rattle.jt_chains.proofs.{drop_all, its_templates, append-nil, imports_from, arith, length, ◌<◌}

pub loop-index-init : goal.loop-index-init
loop-index-init c =
    let lt : c.args.namespace < length c.args.self.now.namespaces.items =
    omega (arith, c.if-len-namespace.false, c.len.ensures) in
    let from = imports_from (its_templates c.args.self.now) _ _ (c.indices_of-index-items.ensures.there lt) in
    let ended = c.loop-one-test.false in
    let own = simp (drop_all, append-nil) at c.loop-one.invariant in
    cc
