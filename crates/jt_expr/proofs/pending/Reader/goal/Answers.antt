use Rattle.std.proofs.Common.{◌-◌, length, ap, sym, ◌∙◌}
use Rattle.std.specs.List.{slice_get}
use Rattle.jt_expr.specs.internal.Pending.{level_view}
use Rattle.jt_expr.proofs.StackedForms.{goal_last}
use Rattle.jt_expr.proofs.pending.Reader.goal.Goals as goal

pub returns-in-Some : goal.returns-in-Some
returns-in-Some c =
    let last = ap (λ z. slice_get z (length z - 1)) (sym c.deref.ensures.value) ∙ sym c.in-Some.ensures.value in
    c.awaited.ensures
    ∙ sym (goal_last (level_view c.args.self.now.entry) c.args.self.now.pending.items c.in-Some.form.now _ last)
