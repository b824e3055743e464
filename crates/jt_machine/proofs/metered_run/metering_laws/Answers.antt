use Rattle.jt_machine.proofs.SlicesAddUp.{laws as slices}
use Rattle.jt_machine.proofs.UseAddsUp.{laws}
use Rattle.jt_machine.proofs.metered_run.metering_laws.Goals as goal

pub returns : goal.returns
returns c = laws slices
