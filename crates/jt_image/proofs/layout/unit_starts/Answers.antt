use Rattle.std.proofs.Common.{arith}
use Rattle.jt_image.proofs.LayoutCorrect.{units_next, total_next}
use Rattle.jt_image.proofs.layout.unit_starts.Goals as goal

pub returns-then-len-first-clause-refused : goal.returns-then-len-first-clause-refused
returns-then-len-first-clause-refused c =
    omega (
      arith,
      total_next c.args.units.now c.units.unit-index c.unit-item.result c.units-test.true c.unit-item.is
          c.len-len.result (omega arith),
    )

pub units-preserved : goal.units-preserved
units-preserved c =
    let u = c.unit-item.result in
    let total = total_next c.args.units.now c.units.unit-index u c.units-test.true c.unit-item.is c.len-len.result
    (omega arith) in
    record {
      starts =
          rw c.in_ok-push.ensures.items
          (units_next c.args.units.now c.units.unit-index u c.units-test.true c.unit-item.is c.len-len.result
          (omega arith) c.units.offsets.items _ c.args.start c.units.first c.units.invariant.starts);
      counted = omega (arith, total);
      within = omega arith;
    }
