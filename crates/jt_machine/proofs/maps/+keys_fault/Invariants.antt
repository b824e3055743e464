use Rattle.std.proofs.Common.{length}
use Rattle.jt_machine.proofs.maps.+keys_fault.Given as goal

abbrev pub decreases-keys_fault : goal.decreases-keys_fault
decreases-keys_fault l = length l.pairs.now
