use Rattle.jt_machine.proofs.Vocabulary.{view}
use Rattle.std.proofs.Common.{◌≡◌, ◌∙◌, ◌-◌, ◌+◌, suc, map, reverse, arith}
use Rattle.jt_machine.proofs.MapEntries.{map-reverse}
use Rattle.jt_machine.proofs.PoppedValues.{more_is, one_taken, none_left, pushed, values_are}
use Rattle.jt_machine.proofs.aggregates.take_values.Goals as goal

pub pop-requires : goal.pop-requires
pop-requires c =
    let left : c.args.count - c.values.counter ≡ suc (c.args.count - (c.values.counter + 1)) =
    omega (arith, c.values-test.true) in
    more_is _ _ (reverse (map view c.values.values.items)) c.requires.values c.values.stack.running c.requires.rest left
    (c.values.invariant.taken ∙ c.requires.is)

pub values-preserved : goal.values-preserved
values-preserved c = grind (arith, pushed, one_taken)

pub returns-clause-values : goal.returns-clause-values
returns-clause-values c = grind (arith, none_left, map-reverse, values_are)

pub returns-clause-taken : goal.returns-clause-taken
returns-clause-taken c = grind (arith, none_left, values_are)
