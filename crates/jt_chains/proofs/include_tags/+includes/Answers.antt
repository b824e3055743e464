use Rattle.jt_chains.proofs.include_tags.+includes.Goals as goal
use Rattle.jt_chains.specs.Includes.{includes_by, includes_in, includes_under}
use Rattle.jt_chains.proofs.{drop_all, choice_added, append-nil, refl, include_need}

pub add_statement-returns-in_ok-add_includes-in-If-2 : goal.add_statement-returns-in_ok-add_includes-in-If-2
add_statement-returns-in_ok-add_includes-in-If-2 t c =
    let ended = c.loop-body-test.false in
    choice_added (includes_by include_need) (includes_in include_need) (includes_under include_need) (λ z b. refl)
    _ _ _ _ _ _ _ _ c.in-If.is c.deref-body-items.ensures.value c.deref-in-If.ensures.value
    (simp (drop_all, append-nil) at c.loop-body.invariant) c.in_ok-add_includes-in-If-2.ensures
