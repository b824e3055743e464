use Rattle.jt_host.proofs.notes.first_names.Goals as goal
use Rattle.jt_host.proofs.FirstItems.{first_taken}

pub returns : goal.returns
returns c = first_taken (λ name. name.now) c.args.path.now c.args.count c.min.result c.min.ensures
