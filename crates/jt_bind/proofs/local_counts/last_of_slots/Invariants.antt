use Rattle.jt_bind.proofs.{◌≡◌, map, drop, max, option_map, slots_locals, slot_view, up_to}
use Rattle.jt_bind.proofs.local_counts.last_of_slots.Given as goal

abbrev pub invariant-loop-slot : goal.invariant-loop-slot
invariant-loop-slot l =
    max (up_to l.latest) (slots_locals (map (option_map slot_view) (drop l.slot-index l.slots)))
    ≡ max (up_to l.fn.last) (slots_locals (map (option_map slot_view) l.slots))
