use Rattle.std.proofs.Common.{◌≡◌, ℕ, true, take}
use Rattle.jt_graph.specs.Graph.{among}
use Rattle.jt_graph.specs.View.{graph_of}
use Rattle.jt_graph.specs.internal.Walks.{IsWalk, GoesOn, is_done, visit_of, news}
use Rattle.jt_graph.proofs.walk.+visit.Given as goal

abbrev pub decreases-visit : goal.decreases-visit
decreases-visit l = news l.walk.now

abbrev pub invariant-loop-other : goal.invariant-loop-other
invariant-loop-other l = record {
  walked : IsWalk (graph_of l.next) l.walk;
  goes : GoesOn l.initial.walk l.walk;
  reached : (j : ℕ) → among j (take l.other-index l.other-items) ≡ true
      → is_done (visit_of l.walk.visits.items j) ≡ true;
}
