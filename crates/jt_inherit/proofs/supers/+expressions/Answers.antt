use Rattle.jt_inherit.proofs.Vocabulary.{◌∙◌, sym, ap, arith, common_steps, expr_view, pairs_view}
use Rattle.jt_ast.proofs.ExpressionViews.{view_Map, view_Call, view_Filter, view_Test}
use Rattle.jt_chains.specs.Supers as spec
use Rattle.jt_inherit.proofs.supers.+expressions.Goals as goal

pub has_super-returns-in-Map : goal.has_super-returns-in-Map
has_super-returns-in-Map t c =
    c.any_super_pair.ensures ∙ ap (λ z. spec.pairs_super (pairs_view z)) c.deref-in-Map.ensures.value
    ∙ sym (ap spec.has_super (ap expr_view c.in-Map.is ∙ view_Map c.in-Map.pairs))

pub has_super-returns-else-any_super : goal.has_super-returns-else-any_super
has_super-returns-else-any_super t c =
    let whole =
    ap spec.has_super (ap expr_view c.in-Call.is ∙ view_Call c.in-Call.callee c.in-Call.arguments c.in-Call.keywords) in
    let last = c.any_super_pair-else-any_super.ensures in
    grind (arith, common_steps)

pub has_super-returns-else-any_super-2 : goal.has_super-returns-else-any_super-2
has_super-returns-else-any_super-2 t c =
    let whole = ap spec.has_super (ap expr_view c.in-Filter.is
    ∙ view_Filter c.in-Filter.input c.in-Filter.name c.in-Filter.arguments c.in-Filter.keywords) in
    let last = c.any_super_pair-else-any_super-2.ensures in
    grind (arith, common_steps)

pub has_super-returns-else-any_super-3 : goal.has_super-returns-else-any_super-3
has_super-returns-else-any_super-3 t c =
    let whole = ap spec.has_super (ap expr_view c.in-Test.is
    ∙ view_Test c.in-Test.value c.in-Test.polarity c.in-Test.name c.in-Test.arguments c.in-Test.keywords) in
    let last = c.any_super_pair-else-any_super-3.ensures in
    grind (arith, common_steps)
