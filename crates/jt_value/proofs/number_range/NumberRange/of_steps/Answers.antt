use Rattle.std.proofs.Common.{◌∙◌, refl, ap, ℕ}
use Rattle.jt_value.specs.Numbers.{stepped}
use Rattle.jt_value.proofs.RangeCounts.{count_is, inside_counted, listed_is}
use Rattle.jt_value.proofs.number_range.NumberRange.of_steps.Goals as goal

pub invariant_of-result : goal.invariant_of-result
invariant_of-result c =
    let count = count_is c.args.start c.args.stop c.args.step c.count-count.result c.ranges.start c.ranges.stop
    c.ranges.step c.count-count.ensures in
    record {
      room =
          inside_counted c.args.start c.args.stop c.args.step c.count-count.result c.requires c.ranges.start
          c.ranges.stop c.ranges.step count;
    }

pub returns : goal.returns
returns c =
    let count = count_is c.args.start c.args.stop c.args.step c.count-count.result c.ranges.start c.ranges.stop
    c.ranges.step c.count-count.ensures in
    listed_is c.args.start c.args.step c.count-count.result _ c.ranges.start c.ranges.step refl
    ∙ ap (λ (m : ℕ). stepped m c.args.start c.args.step) count
