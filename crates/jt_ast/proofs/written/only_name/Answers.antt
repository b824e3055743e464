use Rattle.std.proofs.Common.{arith}
use Rattle.jt_ast.specs.ExpressionView.{pairs_view}
use Rattle.jt_ast.proofs.OnlyArgument.{some_by_place}
use Rattle.jt_ast.proofs.written.only_name.Goals as goal

pub returns-in_default : goal.returns-in_default
returns-in_default c =
    some_by_place c.args.items.now (pairs_view c.args.pairs.now) (omega (arith, c.in_default.len_at_least))
