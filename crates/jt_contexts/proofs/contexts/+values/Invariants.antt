use Rattle.std.proofs.Common.{◌≡◌, ◌++◌, Some, map}
use Rattle.jt_value.specs.Pairs.{pairs}
use Rattle.jt_value.specs.View.{view}
use Rattle.jt_contexts.proofs.MemberValues.{shown, value_in}
use Rattle.jt_contexts.proofs.contexts.+values.Given as goal

abbrev pub invariant-entries_of-loop-key : goal.invariant-entries_of-loop-key
invariant-entries_of-loop-key l =
    (l.fn.members.entries ≡ l.yielded ++ l.key-iterator) × (map shown l.yielded ≡ map Some (pairs l.entries.items))

abbrev pub invariant-items_of-loop-item : goal.invariant-items_of-loop-item
invariant-items_of-loop-item l =
    (l.fn.items.items ≡ l.yielded ++ l.item-iterator.rest.items)
    × (map value_in l.yielded ≡ map Some (map view l.values.items))
