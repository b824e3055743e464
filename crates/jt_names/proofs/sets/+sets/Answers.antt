use Rattle.jt_names.proofs.sets.+sets.Goals as goal
use Rattle.jt_ast.proofs.CollectedLists.{choice_added}
use Rattle.jt_chains.specs.Uses.{set_by, set_in, set_under}
use Rattle.jt_names.proofs.{drop_all, refl, append-nil}

pub add_set-returns-in_ok-add_sets-in-If-2 : goal.add_set-returns-in_ok-add_sets-in-If-2
add_set-returns-in_ok-add_sets-in-If-2 t c =
    let ended = c.loop-body-test.false in
    choice_added set_by set_in set_under (λ z b. refl) _ _ _ _ _ _ _ _ c.in-If.is c.deref-body-items.ensures.value
    c.deref-in-If.ensures.value (simp (drop_all, append-nil) at c.loop-body.invariant)
    c.in_ok-add_sets-in-If-2.ensures
