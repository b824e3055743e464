use Rattle.jt_checks.proofs.arguments.any_repeated.Goals as goal
use Rattle.jt_checks.proofs.{length-map, arith, rules, few_distinct}

pub returns : goal.returns
returns c = search (arith, rules, length-map, few_distinct)
