use Rattle.jt_machine.proofs.Vocabulary.{values_view, replicate}
use Rattle.std.proofs.Common.{◌≡◌, ◌++◌}
use Rattle.jt_value.specs.Tree as tree
use Rattle.jt_machine.proofs.calls.locals_with.Given as goal

abbrev pub invariant-values : goal.invariant-values
invariant-values l = values_view l.values.items ≡ values_view l.fn.arguments.items ++ replicate l.counter tree.undefined
