use Rattle.std.proofs.Common.{◌≡◌, length, sym, arith, rules}
use Rattle.std.proofs.Math.ListN.{replicate}
use Rattle.jt_graph.specs.View.{graph_of}
use Rattle.jt_graph.specs.declared.error.Ring.{Ring}
use Rattle.jt_graph.specs.declared.walk.VisitState.TheVariants.{New}
use Rattle.jt_graph.proofs.DepthFirstSearch.{all_new, graph_len, new_walk}
use Rattle.jt_graph.proofs.walk.begin.Goals as goal

pub returns-clause-walk : goal.returns-clause-walk
returns-clause-walk c =
    let visits = c.in_ok-vec.field-0 in
    let done = c.in_ok-with_capacity.field-0 in
    let new : visits.items ≡ replicate (length c.args.next.now) New =
    c.in_ok-vec.ensures.items_if_clones_equal (λ y is. is) in
    let all = length c.args.next.now in
    let ring : Ring = record { first = 0; others = c.new.result } in
    new_walk (graph_of c.args.next.now) (record { visits = visits; done = done; ring = ring }) all new
    (sym (graph_len c.args.next.now)) c.in_ok-with_capacity.ensures.items

pub returns-clause-closed : goal.returns-clause-closed
returns-clause-closed c j = search (arith, rules, replicate, all_new)
