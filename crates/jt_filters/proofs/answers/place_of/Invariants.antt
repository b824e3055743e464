use Rattle.std.proofs.Common.{◌-◌, length}
use Rattle.jt_filters.proofs.answers.place_of.Given as goal

abbrev pub decreases-loop-place : goal.decreases-loop-place
decreases-loop-place l = length l.numbers - l.place
