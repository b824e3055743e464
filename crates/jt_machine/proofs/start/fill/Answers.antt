use Rattle.jt_machine.proofs.Vocabulary.{view, map-set}
use Rattle.jt_machine.proofs.start.fill.Goals as goal

pub returns-then-slot-len : goal.returns-then-slot-len
returns-then-slot-len c =
    rw (c.from-slot.ensures, ← c.in_ok-value.ensures)
    (map-set view c.args.globals.now.items c.args.slot c.in_ok-value.value)
