use Rattle.jt_bind.proofs.{◌≡◌, ◌++◌, map, drop, option_map, fresh, names_view, slot_view}
use Rattle.jt_bind.proofs.targets.fresh_slots.Given as goal

abbrev pub invariant-loop-name : goal.invariant-loop-name
invariant-loop-name l =
    map (option_map slot_view) l.slots.items ++ fresh l.local (names_view (drop l._name-index l.names))
    ≡ fresh l.fn.first (names_view l.names)
