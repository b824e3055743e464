use Rattle.std.proofs.Common.{arith}
use Rattle.jt_value.specs.Tree as tree
use Rattle.jt_machine.proofs.TopValues.{greatest_held-more}
use Rattle.jt_machine.proofs.measure.largest_held.Goals as goal

pub entries-preserved : goal.entries-preserved
entries-preserved c =
    omega (
      arith,
      greatest_held-more tree.size c.args.entries.now c.entries.entry-index c.entry-item.result c.entries-test.true
          c.entry-item.is,
      c.held_size.ensures,
      c.max-most.ensures,
      c.entries.invariant,
    )
