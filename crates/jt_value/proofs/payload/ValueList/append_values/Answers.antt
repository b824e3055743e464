use Rattle.std.proofs.Common.{ap, sym, ◌∙◌}
use Rattle.jt_value.specs.Payload.{more_items}
use Rattle.jt_value.specs.View.{view}
use Rattle.jt_value.proofs.Lists.{joined_none, joined_items-take_more}
use Rattle.jt_value.proofs.payload.ValueList.append_values.Goals as goal

pub loop-item-init : goal.loop-item-init
loop-item-init c = c.reserve.ensures ∙ sym (joined_none c.args.self.now)

pub loop-item-preserved : goal.loop-item-preserved
loop-item-preserved c =
    c.in_ok-push.ensures.ok
    ∙ ap (λ ts. more_items ts (view c.in_ok-clone.field-0)) c.loop-item.invariant
    ∙ ap (more_items _) c.in_ok-clone.ensures.cases
    ∙ sym (joined_items-take_more c.args.self.now c.args.more.now c.loop-item.item-index c.item-item.result
    c.loop-item-test.true c.item-item.is)
