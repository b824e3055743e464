use Rattle.jt_machine.proofs.Vocabulary.{values_view, replicate}
use Rattle.std.proofs.Common.{◌≡◌}
use Rattle.jt_value.specs.Tree as tree
use Rattle.jt_machine.proofs.start.undefined_values.Given as goal

abbrev pub invariant-values : goal.invariant-values
invariant-values l = values_view l.values.items ≡ replicate l.counter tree.undefined
