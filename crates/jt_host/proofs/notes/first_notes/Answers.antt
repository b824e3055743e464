use Rattle.jt_host.proofs.notes.first_notes.Goals as goal
use Rattle.jt_notes.specs.Views.{note_view}
use Rattle.jt_host.proofs.FirstItems.{first_taken}

pub returns : goal.returns
returns c = first_taken note_view c.args.notes.now 20 c.min.result c.min.ensures
