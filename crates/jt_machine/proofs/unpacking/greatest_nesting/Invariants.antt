use Rattle.jt_machine.proofs.Vocabulary.{greatest, values_view, min}
use Rattle.std.proofs.Common.{◌≡◌, ◌-◌, ◌^◌, take}
use Rattle.jt_value.specs.Tree as tree
use Rattle.jt_machine.proofs.unpacking.greatest_nesting.Given as goal

abbrev pub invariant-values : goal.invariant-values
invariant-values l = l.most ≡ min (greatest tree.nesting (values_view (take l.value-index l.values))) (2 ^ 32 - 1)
