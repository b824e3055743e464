use Rattle.jt_chains.proofs.parts.+blocks.Goals as goal
use Rattle.jt_chains.specs.Chain.{blocks_in, blocks_under, blocks_of}
use Rattle.jt_chains.proofs.{drop_all, choice_added, refl, append-nil, name_at}

pub add_statement-returns-in_ok-add_blocks-in-If-2 : goal.add_statement-returns-in_ok-add_blocks-in-If-2
add_statement-returns-in_ok-add_blocks-in-If-2 t c = λ ts.
    let ended = c.loop-body-test.false in
    let n = name_at ts c.args.site.template in
    let on = c.args.site.escaping in
    choice_added (λ s. blocks_of n s on) (λ b. blocks_in n b on) (λ b. blocks_under n b on) (λ z b. refl)
    _ _ _ _ _ _ _ _ c.in-If.is c.deref-body-items.ensures.value c.deref-in-If.ensures.value
    (simp (drop_all, append-nil) at (c.loop-body.invariant ts)) (c.in_ok-add_blocks-in-If-2.ensures ts)
