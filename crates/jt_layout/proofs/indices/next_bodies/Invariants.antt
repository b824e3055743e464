use Rattle.jt_layout.proofs.indices.next_bodies.Given as goal
use Rattle.jt_layout.proofs.{counted_from, List, drop, length, map, ◌≡◌, Template, next_given, filter, bytes_eq, Text}
use Rattle.jt_layout.proofs.{block_view, value_in, nexts}

abbrev pub invariant-loop-index : goal.invariant-loop-index
invariant-loop-index l = record {
  size : length l.next.items ≡ length l.blocks;
  given : (ts : List Template) (x : Text) → value_in l.given.indices x
      ≡ next_given
      (filter (λ c. bytes_eq c.1.name x) (counted_from l.index (map (block_view ts) (drop l.index l.blocks))));
  done : (ts : List Template)
      → drop l.index l.next.items ≡ nexts (counted_from l.index (map (block_view ts) (drop l.index l.blocks)));
}
