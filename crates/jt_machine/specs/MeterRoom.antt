-- What a run has used fits its numbers.
use Rattle.std.specs.Prelude.{◌+◌, ◌^◌, ◌<◌, ◌≤◌}
use Rattle.jt_machine.specs.declared.state.State.{State}
use Rattle.jt_machine.specs.declared.machine.Stage.{Stage}
use Rattle.jt_machine.specs.declared.machine.Stage.TheVariants as stage
use Rattle.jt_machine.specs.declared.metered_run.Used.{Used}

-- What was used and what is left fit 64 bits together, and no value that was pushed exceeds a limit.
pub record HasRoom (u : Used) (s : State) : Type 0 where
  pub fuel : u.fuel + s.left.fuel < 2 ^ 64
  pub output : u.output + s.left.output < 2 ^ 64
  pub size : u.size ≤ s.left.size
  pub nesting : u.nesting ≤ s.left.nesting

-- What a run that goes on has used fits what it has left.
abbrev pub LeavesRoom : Used → Stage → Type 0
LeavesRoom u (stage.Going s) = HasRoom u s
LeavesRoom u (stage.Done o) = Unit {0}
LeavesRoom u stage.Lost = Unit {0}
