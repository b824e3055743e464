use Rattle.jt_names.proofs.index.first_bodies.Given as goal
use Rattle.jt_chains.specs.Chain.{Template}
use Rattle.jt_chains.specs.Parts.{blocks_view}
use Rattle.jt_names.proofs.{AreIndices, ◌≤◌, List, length, map, drop}

abbrev pub invariant-loop-left : goal.invariant-loop-left
invariant-loop-left l = record {
  within : l.left ≤ length l.blocks;
  indexed : (ts : List Template)
      → AreIndices l.left (map (λ b. b.name) (blocks_view ts (drop l.left l.blocks))) l.firsts.indices;
}

abbrev pub decreases-loop-left : goal.decreases-loop-left
decreases-loop-left l = l.left
