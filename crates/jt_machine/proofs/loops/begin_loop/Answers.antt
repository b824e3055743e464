use Rattle.jt_machine.proofs.Vocabulary.{view}
use Rattle.std.proofs.Common.{map}
use Rattle.jt_machine.proofs.StepLemmas.{trees-items}
use Rattle.jt_machine.proofs.loops.begin_loop.Goals as goal

pub returns-in-Ok : goal.returns-in-Ok
returns-in-Ok c = rw (c.in-Ok.ensures, trees-items (map view c.in-Ok.items.items)) c.push_loop_over.ensures
