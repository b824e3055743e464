use Rattle.jt_bind.proofs.{templates_in, IfOk-weaker, routines_both}
use Rattle.jt_bind.proofs.routines.resolve_namespace.Goals as goal

pub returns : goal.returns
returns c =
    let T = templates_in c.args.tables.now in
    IfOk-weaker c.resolve_blocks.result _ _ (λ u h.
    routines_both T _ _ _ _ _ _ _ _ c.in_ok-resolve_entry.ensures
    (routines_both T _ _ _ _ _ _ _ _ c.in_ok-resolve_macros.ensures h))
    c.resolve_blocks.ensures
