use Rattle.jt_machine.proofs.Vocabulary.{all_held, items_size, items_of}
use Rattle.std.proofs.Common.{◌≡◌, ◌-◌, ◌^◌, min, take}
use Rattle.jt_machine.proofs.measure.sizes.Given as goal

abbrev pub invariant-entries : goal.invariant-entries
invariant-entries l = l.total ≡ min (items_size (items_of (all_held (take l.entry-index l.entries)))) (2 ^ 64 - 1)
