use Rattle.std.proofs.Common.{◌∙◌, sym, ap, arith}
use Rattle.std.proofs.lemmas.Grind.{common_steps}
use Rattle.jt_ast.specs.ExpressionView.{expr_view, pairs_view}
use Rattle.jt_expr.specs.Named as spec
use Rattle.jt_ast.proofs.ExpressionViews.{view_Map, view_Filter, view_Test, shown_call}
use Rattle.jt_expr.proofs.named.+names.Goals as goal

pub has_unknown-returns-in-Map : goal.has_unknown-returns-in-Map
has_unknown-returns-in-Map t c =
    c.any_unknown_pair.ensures
    ∙ ap (λ z. spec.pairs_have_unknown c.args.named (pairs_view z)) c.deref-in-Map.ensures.value
    ∙ sym (ap (spec.has_unknown c.args.named) (ap expr_view c.in-Map.is ∙ view_Map c.in-Map.pairs))

pub has_unknown-returns-in-Call : goal.has_unknown-returns-in-Call
has_unknown-returns-in-Call t c =
    c.has_unknown_with.ensures
    ∙ ap (spec.has_unknown c.args.named) (shown_call c.args.expr.now c.deref-in-Call.result.now
    c.deref-in-Call-2.result.now c.deref-in-Call-3.result.now c.in-Call.callee c.in-Call.arguments c.in-Call.keywords
    c.in-Call.is c.deref-in-Call.ensures c.deref-in-Call-2.ensures.value c.deref-in-Call-3.ensures.value)

pub has_unknown-returns-then-is_filter_unknown : goal.has_unknown-returns-then-is_filter_unknown
has_unknown-returns-then-is_filter_unknown t c =
    let whole = ap (spec.has_unknown c.args.named)
    (ap expr_view c.in-Filter.is
    ∙ view_Filter c.in-Filter.input c.in-Filter.name c.in-Filter.arguments c.in-Filter.keywords) in
    grind (arith, common_steps)

pub has_unknown-returns-else-is_filter_unknown : goal.has_unknown-returns-else-is_filter_unknown
has_unknown-returns-else-is_filter_unknown t c = grind (arith, view_Filter, common_steps)

pub has_unknown-returns-else-is_unknown_test : goal.has_unknown-returns-else-is_unknown_test
has_unknown-returns-else-is_unknown_test t c = grind (arith, view_Test, common_steps)
