use Rattle.std.proofs.Common.{arith}
use Rattle.jt_ast.proofs.OnlyArgument.{several}
use Rattle.jt_ast.proofs.written.single_name.Goals as goal

pub returns-in_default : goal.returns-in_default
returns-in_default c = several c.args.pairs.now (omega (arith, c.in_default.len_at_least))
