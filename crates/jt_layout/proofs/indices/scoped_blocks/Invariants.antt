use Rattle.jt_layout.proofs.indices.scoped_blocks.Given as goal
use Rattle.std.specs.Option.{is_some}
use Rattle.jt_layout.proofs.{List, drop, map, ◌&&◌, ◌||◌, ◌≡◌, Template, list_any, bytes_eq, Text, block_view, value_in}

abbrev pub invariant-loop-block : goal.invariant-loop-block
invariant-loop-block l =
    (ts : List Template) (x : Text) → (is_some (value_in l.scoped.indices x)
    || list_any (λ b. b.scoped && bytes_eq b.name x) (map (block_view ts) (drop l.block-index l.blocks)))
    ≡ list_any (λ b. b.scoped && bytes_eq b.name x) (map (block_view ts) l.blocks)
