use Rattle.std.proofs.Common.{◌≡◌, ◌+◌, drop}
use Rattle.jt_ast.specs.ExpressionView.{exprs_view}
use Rattle.jt_expr.specs.Named.{arguments_unknown}
use Rattle.jt_expr.proofs.named.arguments_unknown.Given as goal

abbrev pub invariant-loop-index : goal.invariant-loop-index
invariant-loop-index l =
    arguments_unknown l.named l.filter 1 (exprs_view l.items)
    ≡ arguments_unknown l.named l.filter (l.index + 1) (exprs_view (drop l.index l.items))
