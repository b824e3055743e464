use Rattle.jt_inherit.proofs.Vocabulary.{◌≡◌, ◌++◌, drop, map, listed_at, listed_view}
use Rattle.jt_inherit.proofs.linking.namespaces_in.Given as goal

abbrev pub invariant-loop-number : goal.invariant-loop-number
invariant-loop-number l =
    map listed_view l.namespaces.items ++ map (listed_at l.found) (drop l.number-index l.number-items)
    ≡ map (listed_at l.found) l.number-items
