use Rattle.jt_value.specs.Tree as tree
use Rattle.jt_ir.specs.Slots as slots
use Rattle.jt_bind.proofs.{pos, Index0, own, values, sym, append-nil, IfOk-weaker, view_Field}
use Rattle.jt_bind.proofs.operator_forms.turn_among.Goals as goal

pub returns : goal.returns
returns c =
    IfOk-weaker c.on_two.result _ _
    (λ e h. h (slots.field Index0) (slots.pooled (own (tree.number (pos c.args.count)))) (values c.args.pool.now) _ _
    (record { shown = view_Field Index0; pooled = sym (append-nil (values c.args.pool.now)) })
    (rw c.in_ok-number.ensures.value at c.in_ok-items.ensures)) c.on_two.ensures
