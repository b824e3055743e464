use Rattle.jt_machine.proofs.Vocabulary.{values_view, view}
use Rattle.jt_machine.proofs.StepLemmas.{item_is, item_none}
use Rattle.jt_machine.proofs.loops.item_after.Goals as goal

pub returns-in-Some : goal.returns-in-Some
returns-in-Some c =
    rw (item_is c.args.before (values_view c.args.items.now) (view c.in-Some.value.now) c.in-Some.ensures)
    c.copy_within.ensures

pub returns-in-None : goal.returns-in-None
returns-in-None c = rw (item_none c.args.before (values_view c.args.items.now) c.in-None.ensures) c.within.ensures
