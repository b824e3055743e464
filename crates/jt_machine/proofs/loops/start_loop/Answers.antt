use Rattle.jt_machine.proofs.Vocabulary.{frame, loop_over, iterating, step_on, with_entry, items_of_tree}
use Rattle.jt_machine.proofs.loops.start_loop.Goals as goal

pub returns-in-Ok : goal.returns-in-Ok
returns-in-Ok c =
    rw (c.in-Ok.ensures.read
    (λ t d. iterating (items_of_tree t) (λ ts. step_on (with_entry (frame (loop_over ts)) d)))) c.begin_loop.ensures

pub returns-in-Err : goal.returns-in-Err
returns-in-Err c =
    c.in-Err.ensures.read (λ t d. iterating (items_of_tree t) (λ ts. step_on (with_entry (frame (loop_over ts)) d)))
