use Rattle.jt_bind.proofs
use proofs.{StaticEnv, ℕ, List, BlockBody, files_in, map, block_view, part_from, texts, templates_in, top_in}
use proofs.{numbered_in, part_at, Some, cenv_in, order_in, parameters_in, body_view, ap, ◌∙◌, arith, lead_both}
use proofs.{one_routine, routine_as, numbered_next, numbered_end}
use Rattle.jt_bind.proofs.routines.resolve_blocks.Goals as goal

pub loop-index-preserved : goal.loop-index-preserved
loop-index-preserved c = λ left.
    let l = c.loop-index in
    let scope = c.args.tables.now in
    let T = templates_in scope in
    let all = ap (map (block_view (files_in scope))) c.deref-block-items.ensures.value
    ∙ c.here-here.ensures.all_blocks in
    let next = numbered_next scope c.deref-block-items.result.now all l.index c.block-item.result
    c.loop-index-test.true c.block-item.is in
    let x = c.block-item.result in
    lead_both (rw next at (l.invariant left))
    (one_routine T _ _ _ _ _ _
    (routine_as T (cenv_in scope) (order_in scope) _ (parameters_in scope x.name.now) (body_view x.body.now) _ _ _ _ _
    c.in_ok-resolve_routine.ensures (ap texts c.in_ok-parameters.ensures.items ∙ c.block_parameters.ensures)
    (ap (λ (z : StaticEnv). record z {
      escaping = x.escaping;
      part = part_at (numbered_in scope) (Some l.index);
    }) c.top_senv.ensures
    ∙ ap (λ (z : List (ℕ × BlockBody)). record (top_in scope x.template) {
      escaping = x.escaping;
      part = part_from z;
    }) next)) c.in_ok-push.ensures.items _)

pub returns : goal.returns
returns c = λ left.
    let scope = c.args.tables.now in
    let all = ap (map (block_view (files_in scope))) c.deref-block-items.ensures.value
    ∙ c.here-here.ensures.all_blocks in
    rw (numbered_end scope c.deref-block-items.result.now all c.loop-index.index (omega arith)) at
    (c.loop-index.invariant left)
