use Rattle.jt_notes.proofs.tags.+tags.Goals as goal
use Rattle.std.proofs.Common.{refl}
use Rattle.std.proofs.lemmas.List.{append-nil, drop_all}
use Rattle.jt_ast.proofs.CollectedLists.{choice_added, loop_added}
use Rattle.jt_notes.specs.Notes.{tags_in, tags_of, tags_under}

pub add_statement-returns-in_ok-add_tags-in-If-2 : goal.add_statement-returns-in_ok-add_tags-in-If-2
add_statement-returns-in_ok-add_tags-in-If-2 t c =
    let ended = c.loop-body-test.false in
    let l = c.args.level in
    choice_added (tags_of l) (tags_in l) (tags_under l) (λ z b. refl)
    _ _ _ _ _ _ _ _ c.in-If.is c.deref-body-items.ensures.value c.deref-in-If.ensures.value
    (simp (drop_all, append-nil) at c.loop-body.invariant) c.in_ok-add_tags-in-If-2.ensures

pub add_statement-returns-in_ok-add_tags-in-For-2 : goal.add_statement-returns-in_ok-add_tags-in-For-2
add_statement-returns-in_ok-add_tags-in-For-2 t c =
    let l = c.args.level in
    loop_added (tags_of l) (tags_in l) (tags_under l) (λ line xs e d a b. refl)
    _ _ _ _ _ _ _ _ _ _ _ _ c.in-For.is c.deref-in-For.ensures.value c.deref-in-For-2.ensures.value
    c.in_ok-add_tags-in-For.ensures c.in_ok-add_tags-in-For-2.ensures
