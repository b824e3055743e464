use Rattle.std.proofs.Common.{arith}
use Rattle.jt_machine.proofs.TopValues.{held_nesting-more}
use Rattle.jt_machine.proofs.measure.deepest.Goals as goal

pub entries-preserved : goal.entries-preserved
entries-preserved c =
    omega (
      arith,
      held_nesting-more c.args.entries.now c.entries.entry-index c.entry-item.result c.entries-test.true
          c.entry-item.is,
      c.held_nesting.ensures,
      c.max-most.ensures,
      c.entries.invariant,
    )
