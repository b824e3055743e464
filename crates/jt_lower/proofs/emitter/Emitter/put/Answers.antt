use Rattle.std.proofs.Common.{arith, rules}
use Rattle.jt_lower.proofs.emitter.Emitter.put.Goals as goal

pub returns-in_ok-push-in-Some : goal.returns-in_ok-push-in-Some
returns-in_ok-push-in-Some c = search (arith, rules)
