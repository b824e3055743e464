use Rattle.jt_machine.proofs.SlicesAddUp.{laws}
use Rattle.jt_machine.proofs.machine.session_laws.Goals as goal

pub returns : goal.returns
returns c = laws
