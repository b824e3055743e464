use Rattle.std.proofs.Common.{◌-◌, length}
use Rattle.jt_verify.proofs.nodes.+find.Given as goal

abbrev pub decreases-find : goal.decreases-find
decreases-find l = length l.links.now - l.index
