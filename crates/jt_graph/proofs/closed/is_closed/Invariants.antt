use Rattle.std.proofs.Common.{◌<◌, length, take}
use Rattle.std.specs.List.{AllByRecursion}
use Rattle.jt_graph.specs.View.{graph_of}
use Rattle.jt_graph.proofs.closed.is_closed.Given as goal

abbrev pub invariant-loop-others : goal.invariant-loop-others
invariant-loop-others l =
    AllByRecursion (λ js. AllByRecursion (λ j. j < length l.next) js) (graph_of (take l.others-index l.next))
