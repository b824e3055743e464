use Rattle.std.proofs.Common.{◌≡◌}
use Rattle.jt_machine.specs.declared.machine.Stage.TheVariants as stage
use Rattle.jt_machine.proofs.AllocationPoints.{may_lose}
use Rattle.jt_machine.proofs.DrainedOutput.{on_err}
use Rattle.jt_machine.proofs.machine.Machine.advance.Goals as goal

pub returns-in_err-stage-in-Going-clause-memory : goal.returns-in_err-stage-in-Going-clause-memory
returns-in_err-stage-in-Going-clause-memory c =
    let goes : c.self.inside.stage ≡ stage.Going c.in-Going.state = cc (c.in-Going.ensures.value) in
    on_err c.from_residual.result (may_lose c.args.self.now c.self.inside.verified _ c.args.k c.self.inside.stage
    c.in-Going.state c.self.view_is goes c.image-image.ensures.image c.in_err-stage-in-Going.ensures.memory)
