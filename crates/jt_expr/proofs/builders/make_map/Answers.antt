use Rattle.std.proofs.Common.{◌∙◌, ap}
use Rattle.jt_ast.specs.ExpressionView.{expr_view}
use Rattle.jt_ast.proofs.ExpressionViews.{view_Map}
use Rattle.jt_expr.proofs.builders.make_map.Goals as goal

pub returns : goal.returns
returns c = ap expr_view c.in_ok-new.ensures.ok ∙ view_Map c.args.pairs
