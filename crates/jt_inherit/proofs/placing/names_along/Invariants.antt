use Rattle.jt_inherit.proofs.Vocabulary.{◌≡◌, ◌++◌, drop, map, string_bytes, names, its_templates}
use Rattle.jt_inherit.proofs.placing.names_along.Given as goal

abbrev pub invariant-loop-index : goal.invariant-loop-index
invariant-loop-index l =
    map string_bytes l.names.items ++ names (its_templates l.store
    (drop l.index-index l.indices))
    ≡ names (its_templates l.store l.indices)
