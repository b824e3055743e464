use Rattle.std.proofs.Common.{◌%◌, ◌<◌, sym, ◌∙◌, arith, rules}
use Rattle.jt_verify.proofs.ShapesAreUnique.{link_up, vacant_here, found_here, goes_on_from}
use Rattle.jt_verify.proofs.nodes.+find.Goals as goal

pub node_at-node-requires-clause-within : goal.node_at-node-requires-clause-within
node_at-node-requires-clause-within t c =
    (link_up _ c.args.links.now c.requires.links c.args.index c.link_at-next.result c.link_at-next.ensures
    (omega (arith, c.if-next-eq0.false))).1

pub find-requires : goal.find-requires
find-requires t c =
    let up = link_up _ c.args.links.now c.requires.links c.args.index c.link_at-next.result c.link_at-next.ensures
    (omega (arith, c.if-next-eq0.false)) in
    let digit : c.args.digits % 2 < 2 = omega arith in (
      omega (arith, c.decreases, up.0, up.1, digit, c.requires.index, c.requires.links.indices),
      (c.requires.links, omega (arith, up.1, digit)),
    )

pub returns-then-next-eq0 : goal.returns-then-next-eq0
returns-then-next-eq0 t c =
    vacant_here c.args.nodes.now c.args.links.now c.args.wanted.mark c.args.wanted.below c.args.index c.args.digits
    (sym c.link_at-next.ensures ∙ c.if-next-eq0.true) c.requires.index

pub returns-then-is_entry : goal.returns-then-is_entry
returns-then-is_entry t c = search (arith, rules, found_here)

pub returns : goal.returns
returns t c = search (arith, rules, goes_on_from)
