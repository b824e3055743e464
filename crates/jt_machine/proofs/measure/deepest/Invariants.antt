use Rattle.jt_machine.proofs.Vocabulary.{all_held, items_nesting, items_of}
use Rattle.std.proofs.Common.{◌≡◌, ◌-◌, ◌^◌, min, take}
use Rattle.jt_machine.proofs.measure.deepest.Given as goal

abbrev pub invariant-entries : goal.invariant-entries
invariant-entries l = l.most ≡ min (items_nesting (items_of (all_held (take l.entry-index l.entries)))) (2 ^ 32 - 1)
