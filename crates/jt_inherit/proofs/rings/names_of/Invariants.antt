use Rattle.jt_inherit.proofs.Vocabulary.{◌≡◌, ◌++◌, drop, map, string_bytes, found_namespaces, name_at}
use Rattle.jt_inherit.proofs.rings.names_of.Given as goal

abbrev pub invariant-loop-number : goal.invariant-loop-number
invariant-loop-number l =
    map string_bytes l.names.items ++ map (name_at (found_namespaces l.found)) (drop l.number-index l.numbers)
    ≡ map (name_at (found_namespaces l.found)) l.numbers
