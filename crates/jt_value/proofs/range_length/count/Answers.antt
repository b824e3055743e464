use Rattle.jt_value.proofs.RangeCounts.{step_positive, count_down, count_up}
use Rattle.jt_value.proofs.range_length.count.Goals as goal

pub div_ceil-requires : goal.div_ceil-requires
div_ceil-requires c = step_positive c.args.step _ c.ranges.step c.requires c.unsigned_abs.ensures.value

pub div_ceil-requires-else-step-lt0 : goal.div_ceil-requires-else-step-lt0
div_ceil-requires-else-step-lt0 c =
    step_positive c.args.step _ c.ranges.step c.requires c.unsigned_abs-else-step-lt0.ensures.value

pub returns-then-step-lt0 : goal.returns-then-step-lt0
returns-then-step-lt0 c =
    count_down c.args.start c.args.stop c.args.step c.distance.result c.unsigned_abs.result _ c.ranges.start
    c.ranges.stop c.ranges.step c.if-step-lt0.true c.distance.ensures c.unsigned_abs.ensures.value c.div_ceil.ensures

pub returns-else-step-lt0 : goal.returns-else-step-lt0
returns-else-step-lt0 c =
    count_up c.args.start c.args.stop c.args.step c.distance-else-step-lt0.result c.unsigned_abs-else-step-lt0.result _
    c.ranges.start c.ranges.stop c.ranges.step c.if-step-lt0.false c.distance-else-step-lt0.ensures
    c.unsigned_abs-else-step-lt0.ensures.value c.div_ceil-else-step-lt0.ensures
