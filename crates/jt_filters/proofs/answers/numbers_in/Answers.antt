use Rattle.std.proofs.Common.{◌-◌, arith}
use Rattle.jt_filters.proofs.NumberAnswers.{numbers_next}
use Rattle.jt_filters.proofs.answers.numbers_in.Goals as goal

pub loop-left-preserved : goal.loop-left-preserved
loop-left-preserved c = record {
  inside = omega (arith, c.loop-left.invariant.inside);
  known =
      numbers_next c.args.list.now c.loop-left.left (c.loop-left.left - 1) c.index-list-left.result
      c.loop-left.numbers.items c.push_number.new.numbers.items
      (omega (arith, c.loop-left-test.true)) (omega (arith, c.loop-left-test.true, c.loop-left.invariant.inside))
      c.index-list-left.is c.in_ok-push_number.ensures c.loop-left.invariant.known;
}
