-- The view of a graph in contracts.
use Rattle.std.specs.Prelude.{ℕ, List, map}
use Rattle.std.specs.declared.vec.Vec.{Vec}
use Rattle.std.specs.declared.alloc.Global.{Global}
use Rattle.jt_graph.specs.Graph.{Graph}

abbrev pub graph_of : List (Vec ℕ Global) → Graph
graph_of = map (λ v. v.items)
