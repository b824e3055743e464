use Rattle.std.proofs.Common.{◌≡◌, ◌<◌, ℕ, true, false}
use Rattle.jt_graph.specs.View.{graph_of}
use Rattle.jt_graph.specs.internal.Walks.{IsWalk, is_done, is_open, visit_of}
use Rattle.jt_graph.proofs.ordering.order.Given as goal

abbrev pub invariant-loop-number : goal.invariant-loop-number
invariant-loop-number l = record {
  walked : IsWalk (graph_of l.next) l.walk;
  closed : (j : ℕ) → is_open (visit_of l.walk.visits.items j) ≡ false;
  reached : (j : ℕ) → j < l.number → is_done (visit_of l.walk.visits.items j) ≡ true;
}
