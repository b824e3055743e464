use Rattle.jt_machine.proofs.Vocabulary.{nesting}
use Rattle.std.proofs.Common.{arith}
use Rattle.jt_machine.proofs.StepLemmas.{greatest-more}
use Rattle.jt_machine.proofs.unpacking.greatest_nesting.Goals as goal

pub values-preserved : goal.values-preserved
values-preserved c =
    let e = greatest-more nesting c.args.values.now c.values.value-index c.value-item.result c.values-test.true
    c.value-item.is in
    omega (arith, e, c.nesting.ensures, c.max-most.ensures, c.values.invariant)
