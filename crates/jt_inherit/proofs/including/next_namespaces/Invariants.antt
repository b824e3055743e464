use Rattle.jt_inherit.proofs.Vocabulary.{take, AreNext, chosen, keyed_needs, names, namespaces_view, its_files}
use Rattle.jt_inherit.proofs.including.next_namespaces.Given as goal

abbrev pub invariant-loop-need : goal.invariant-loop-need
invariant-loop-need l =
    AreNext (namespaces_view l.initial.namespaces) (namespaces_view l.namespaces)
    (chosen (names (its_files l.store)) (keyed_needs (take l.need-index l.need-items))) l.numbers.items
