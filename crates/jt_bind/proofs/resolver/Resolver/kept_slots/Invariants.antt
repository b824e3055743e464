use Rattle.jt_bind.proofs
use proofs.{is_some, reverse, ◌≡◌, ◌≤◌, map, drop, length, option_map, kept_slots, table_of, names_view, slot_view}
use proofs.{Text, among, value_in}
use Rattle.jt_bind.proofs.resolver.Resolver.kept_slots.Given as goal

abbrev pub invariant-loop-left : goal.invariant-loop-left
invariant-loop-left l = record {
  within : l.left ≤ length l.names;
  kept : map (option_map slot_view) (reverse l.slots.items)
      ≡ kept_slots (table_of l.self) (names_view (drop l.left l.names));
  seen : (x : Text) → is_some (value_in l.after.indices x) ≡ among x (names_view (drop l.left l.names));
}

abbrev pub decreases-loop-left : goal.decreases-loop-left
decreases-loop-left l = l.left
