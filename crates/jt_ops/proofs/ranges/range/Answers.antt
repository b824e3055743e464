use Rattle.std.proofs.Common.{List, sym, subst}
use Rattle.jt_value.specs.Tree.{Tree}
use Rattle.jt_ops.specs.Limited.{limited_by, Answers}
use Rattle.jt_op_semantics.specs.Ranges.{ranged}
use Rattle.jt_ops.proofs.Places.{one_value, two_values, three_values}
use Rattle.jt_ops.proofs.ranges.range.Goals as goal

pub returns-in-len1 : goal.returns-in-len1
returns-in-len1 c =
    let all =
    one_value c.args.values.now c.stop-item.result c.in-len1.len_at_least c.in-len1.len_below c.stop-item.is in
    subst (λ (ts : List Tree). Answers c.range_to.result (limited_by c.args.limits (ranged ts))) (sym all)
    c.range_to.ensures

pub returns-in-len2 : goal.returns-in-len2
returns-in-len2 c =
    let all = two_values c.args.values.now c.start-item.result c.stop-item-then-values-lt3.result c.in-len2.len_at_least
    c.in-len2.len_below c.start-item.is c.stop-item-then-values-lt3.is in
    subst (λ (ts : List Tree). Answers c.range_from.result (limited_by c.args.limits (ranged ts))) (sym all)
    c.range_from.ensures

pub returns-in-len3 : goal.returns-in-len3
returns-in-len3 c =
    let all = three_values c.args.values.now c.start-item-then-values-lt4.result c.stop-item-then-values-lt4.result
    c.step-item.result c.in-len3.len_at_least c.in-len3.len_below c.start-item-then-values-lt4.is
    c.stop-item-then-values-lt4.is c.step-item.is in
    subst (λ (ts : List Tree). Answers c.range_by.result (limited_by c.args.limits (ranged ts))) (sym all)
    c.range_by.ensures
