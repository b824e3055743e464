use Rattle.jt_bind.proofs
use proofs.{◌++◌, map, macro_view, files_in, macro_in, cenv_in, order_in, templates_in, top_in, parameters_view}
use proofs.{body_view, ap, ◌∙◌, arith, drop_all, drop_more, lead_of, lead_none, lead_both, one_routine, routine_as}
use Rattle.jt_bind.proofs.routines.resolve_macros.Goals as goal

pub loop-called-init : goal.loop-called-init
loop-called-init c = λ left.
    let s = c.args.tables.now in
    let all = ap (map (macro_view (files_in s))) c.deref-called-items.ensures.value ∙ c.here-here.ensures.all_macros in
    lead_of (ap (λ ms. map (macro_in s) ms ++ left) all) lead_none

pub loop-called-preserved : goal.loop-called-preserved
loop-called-preserved c = λ left.
    let l = c.loop-called in
    let s = c.args.tables.now in
    let T = templates_in s in
    let x = c.called-item.result in
    lead_both
    (rw (drop_more c.deref-called-items.result.now l.called-index x c.loop-called-test.true, ← c.called-item.is) at
    (l.invariant left))
    (one_routine T (macro_in s (macro_view (files_in s) x)) _ _ _ _ _
    (routine_as T (cenv_in s) (order_in s) _ (map (λ z. z.name) (parameters_view x.parameters.now))
    (body_view x.body.now) _ (top_in s x.template) _ _ _ c.in_ok-resolve_routine.ensures c.in_ok-parameters.ensures
    c.top_senv.ensures) c.in_ok-push.ensures.items _)

pub returns : goal.returns
returns c = λ left.
    rw (drop_all c.loop-called.called-index c.deref-called-items.result.now (omega arith)) at
    (c.loop-called.invariant left)
