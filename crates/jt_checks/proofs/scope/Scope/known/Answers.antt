use Rattle.jt_checks.proofs.{arith}
use Rattle.jt_checks.proofs.scope.Scope.known.Goals as goal

pub index-requires : goal.index-requires
index-requires c = omega (arith, c.args.self.now.stands, c.args.self.now.facts.now.known.all)
