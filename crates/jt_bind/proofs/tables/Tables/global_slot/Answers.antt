use Rattle.jt_bind.proofs.tables.Tables.global_slot.Goals as goal

pub returns-in-Some : goal.returns-in-Some
returns-in-Some c = rw (← c.here-here.ensures.in_slots c.args.name.now, ← c.index_of.ensures, c.in-Some.is)

pub returns-in-None : goal.returns-in-None
returns-in-None c = rw (← c.here-here.ensures.in_slots c.args.name.now, ← c.index_of.ensures, c.in-None.is)
