use Rattle.std.proofs.Common.{◌∙◌, ap}
use Rattle.jt_ast.specs.ExpressionView.{expr_view}
use Rattle.jt_ast.proofs.ExpressionViews.{view_Call}
use Rattle.jt_expr.proofs.builders.make_call.Goals as goal

pub returns : goal.returns
returns c = ap expr_view c.in_ok-new.ensures.ok ∙ view_Call c.args.callee c.args.row.items c.args.row.pairs
