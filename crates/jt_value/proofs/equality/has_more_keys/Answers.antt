use Rattle.std.proofs.Common.{arith}
use Rattle.jt_value.proofs.AscendingKeys.{more_unequal, fewer_unequal}
use Rattle.jt_value.proofs.equality.has_more_keys.Goals as goal

pub returns-in-Some-clause-more : goal.returns-in-Some-clause-more
returns-in-Some-clause-more c = λ h.
    more_unequal c.args.map.now c.in-Some.count c.args.others.now c.in-Some.ensures (grind arith)

pub returns-in-Some-clause-fewer : goal.returns-in-Some-clause-fewer
returns-in-Some-clause-fewer c = λ h.
    fewer_unequal c.args.map.now c.in-Some.count c.args.others.now c.in-Some.ensures (grind arith)
