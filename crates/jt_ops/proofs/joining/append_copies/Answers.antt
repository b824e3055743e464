use Rattle.std.proofs.Common.{sym}
use Rattle.jt_value.proofs.Lists.{joined_none}
use Rattle.jt_ops.proofs.AppendSteps.{joined_push}
use Rattle.jt_ops.proofs.joining.append_copies.Goals as goal

pub loop-item-init : goal.loop-item-init
loop-item-init c = sym (joined_none _)

pub loop-item-preserved : goal.loop-item-preserved
loop-item-preserved c =
    joined_push _ c.loop-item.into.items c.push.new.self.items c.args.items.now c.in_ok-clone.field-0 c.item-item.result
    c.loop-item.item-index c.loop-item-test.true c.item-item.is c.in_ok-push.ensures.items c.in_ok-clone.ensures.cases
    c.loop-item.invariant
