use Rattle.jt_bind.proofs.{IfOk-weaker}
use Rattle.jt_bind.proofs.operator_forms.item_in_turn.Goals as goal

pub returns : goal.returns
returns c =
    IfOk-weaker c.on_two.result _ _ (λ e h. λ a p o. h _ _ _ _ _ o c.in_ok-turn.ensures) c.on_two.ensures
