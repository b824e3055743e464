use Rattle.jt_machine.proofs.Vocabulary.{iterating, spread, items_of_tree}
use Rattle.jt_machine.proofs.unpacking.unpack.Goals as goal

pub returns-in-Ok : goal.returns-in-Ok
returns-in-Ok c =
    rw (c.in-Ok.ensures.read (λ t d. iterating (items_of_tree t) (λ ts. spread c.args.count ts d)))
    c.spread_items.ensures

pub returns-in-Err : goal.returns-in-Err
returns-in-Err c = c.in-Err.ensures.read (λ t d. iterating (items_of_tree t) (λ ts. spread c.args.count ts d))
