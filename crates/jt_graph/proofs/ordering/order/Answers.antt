use Rattle.std.proofs.Common.{◌≡◌, subst, arith, rules}
use Rattle.jt_graph.specs.Graph.{IsRing}
use Rattle.jt_graph.specs.declared.error.Ring.{Ring}
use Rattle.jt_graph.specs.View.{graph_of}
use Rattle.jt_graph.proofs.DepthFirstSearch.{before_next, all_ordered, graph_len, ring_reaches}
use Rattle.jt_graph.proofs.ordering.order.Goals as goal

pub loop-number-preserved : goal.loop-number-preserved
loop-number-preserved c = search (arith, rules, before_next)

pub returns-clause-ordered : goal.returns-clause-ordered
returns-clause-ordered c = search (arith, rules, all_ordered, graph_len)

pub returns-in-Err-Ring-clause-ring : goal.returns-in-Err-Ring-clause-ring
returns-in-Err-Ring-clause-ring c =
    let found = rw c.in-Err-Ring.field-0-is at c.in-Err-Ring.ensures.stop in
    λ ring is. let e : c.visit.new.walk.ring ≡ ring = cc in
    subst (λ (r : Ring). IsRing (graph_of c.args.next.now) r.first r.others.items) e found

pub returns-in-Err-Ring-clause-cycle : goal.returns-in-Err-Ring-clause-cycle
returns-in-Err-Ring-clause-cycle c = λ ring is.
    let r = returns-in-Err-Ring-clause-ring c ring is in
    (ring.first, ring_reaches (graph_of c.args.next.now) ring.first ring.others.items ring.first r)

pub unreachable-requires : goal.unreachable-requires
unreachable-requires c =
    let back = rw c.in-Err-Back.field-0-is at c.in-Err-Back.ensures.stop in
    let none = c.loop-number.invariant.closed c.visit.new.walk.ring.first in
    cc
