use Rattle.std.proofs.Common.{◌≡◌, ◌+◌, drop}
use Rattle.jt_ast.specs.ExpressionView.{exprs_view}
use Rattle.jt_codegen.specs.internal.UnknownNames.{unknown_argument}
use Rattle.jt_codegen.proofs.unknown.unknown_argument.Given as goal

abbrev pub invariant-loop-index : goal.invariant-loop-index
invariant-loop-index l =
    unknown_argument l.named l.filter 1 (exprs_view l.arguments)
    ≡ unknown_argument l.named l.filter (l.index + 1) (exprs_view (drop l.index l.arguments))
