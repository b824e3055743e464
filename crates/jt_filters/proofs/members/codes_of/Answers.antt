use Rattle.std.proofs.Common.{◌-◌, arith}
use Rattle.jt_filters.proofs.ListMembers.{covers_next}
use Rattle.jt_filters.proofs.members.codes_of.Goals as goal

pub loop-left-preserved : goal.loop-left-preserved
loop-left-preserved c = record {
  inside = omega (arith, c.loop-left.invariant.inside);
  known =
      covers_next c.args.items.now c.loop-left.left (c.loop-left.left - 1) c.index-items-left.result
      c.loop-left.codes c.put_item.new.codes
      (omega (arith, c.loop-left-test.true)) (omega (arith, c.loop-left-test.true, c.loop-left.invariant.inside))
      c.index-items-left.is c.in_ok-put_item.ensures.there c.in_ok-put_item.ensures.kept
      c.loop-left.invariant.known;
}
