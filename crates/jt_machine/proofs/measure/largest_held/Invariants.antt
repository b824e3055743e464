use Rattle.jt_machine.proofs.Vocabulary.{all_held, greatest}
use Rattle.std.proofs.Common.{◌≡◌, ◌-◌, ◌^◌, min, take}
use Rattle.jt_value.specs.Tree as tree
use Rattle.jt_machine.proofs.measure.largest_held.Given as goal

abbrev pub invariant-entries : goal.invariant-entries
invariant-entries l = l.most ≡ min (greatest tree.size (all_held (take l.entry-index l.entries))) (2 ^ 64 - 1)
