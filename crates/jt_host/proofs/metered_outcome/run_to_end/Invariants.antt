use Rattle.std.proofs.Common.{◌≡◌, ℕ}
use Rattle.jt_machine.specs.Metering.{metered_after}
use Rattle.jt_host.proofs.metered_outcome.run_to_end.Given as goal

-- Some number of steps were executed since the start.
abbrev pub invariant-loop-slice : goal.invariant-loop-slice
invariant-loop-slice l = (n : ℕ) × (l.run ≡ metered_after n l.initial.run)
