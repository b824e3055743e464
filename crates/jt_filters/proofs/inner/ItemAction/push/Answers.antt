use Rattle.std.proofs.Common.{arith}
use Rattle.jt_filters.proofs.ItemResults.{action_values}
use Rattle.jt_filters.proofs.inner.ItemAction.push.Goals as goal

pub returns-in_ok-put-in-Keep-clause-ok : goal.returns-in_ok-put-in-Keep-clause-ok
returns-in_ok-put-in-Keep-clause-ok c = grind (arith, action_values)

pub returns-else-branch-clause-ok : goal.returns-else-branch-clause-ok
returns-else-branch-clause-ok c = grind (arith, action_values)

pub returns-in_ok-put-in-Attribute-clause-ok : goal.returns-in_ok-put-in-Attribute-clause-ok
returns-in_ok-put-in-Attribute-clause-ok c = grind (arith, action_values)

pub returns-in_ok-put-in-Filter-clause-ok : goal.returns-in_ok-put-in-Filter-clause-ok
returns-in_ok-put-in-Filter-clause-ok c = grind (arith, action_values)

pub returns-in_ok-put-in-Join-clause-ok : goal.returns-in_ok-put-in-Join-clause-ok
returns-in_ok-put-in-Join-clause-ok c = grind (arith, action_values)
