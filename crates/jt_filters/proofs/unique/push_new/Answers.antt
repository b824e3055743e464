use Rattle.std.proofs.Common.{arith}
use Rattle.jt_filters.proofs.SeenCodes.{first_items}
use Rattle.jt_filters.proofs.unique.push_new.Goals as goal

pub returns-in_ok-push-clause-firsts : goal.returns-in_ok-push-clause-firsts
returns-in_ok-push-clause-firsts c = grind (arith, first_items)

pub returns-else-not-branch-clause-firsts : goal.returns-else-not-branch-clause-firsts
returns-else-not-branch-clause-firsts c = grind (arith, first_items)
