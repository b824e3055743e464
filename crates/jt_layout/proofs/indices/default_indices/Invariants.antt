use Rattle.jt_layout.proofs.indices.default_indices.Given as goal
use Rattle.jt_layout.proofs.{defaults_of, List, drop, length, map, ◌++◌, ◌+◌, ◌≡◌, Template, macro_view, defaults_from}

abbrev pub invariant-loop-entry : goal.invariant-loop-entry
invariant-loop-entry l = record {
  indexed : (ts : List Template) → l.indices.items
      ++ defaults_from l.end (map (macro_view ts) (drop l.entry-index l.macros))
      ≡ defaults_from l.first (map (macro_view ts) l.macros);
  ended : (ts : List Template) → l.end + length (defaults_of (map (macro_view ts) (drop l.entry-index l.macros)))
      ≡ l.first + length (defaults_of (map (macro_view ts) l.macros));
}
