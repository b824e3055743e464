use Rattle.jt_chains.proofs.definitions.file_named.Goals as goal
use Rattle.jt_chains.proofs.{arith, rules, length-map}

pub returns : goal.returns
returns c = search (arith, rules, length-map)
