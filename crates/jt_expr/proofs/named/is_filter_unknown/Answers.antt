use Rattle.std.proofs.Common.{sym, ap, ◌∙◌, ◌||◌}
use Rattle.jt_ast.specs.ExpressionView.{exprs_view, pairs_view}
use Rattle.jt_ast.specs.Written.{filter_written}
use Rattle.jt_expr.specs.Named.{filter_unknown, inside_unknown}
use Rattle.jt_expr.proofs.named.is_filter_unknown.Goals as goal

pub returns-then-is_unknown_filter : goal.returns-then-is_unknown_filter
unfolding filter_unknown
returns-then-is_unknown_filter c =
    let ts = exprs_view c.args.items.now in
    let inside = inside_unknown c.args.named (filter_written c.args.name.now ts (pairs_view c.args.pairs.now)) ts in
    c.if-is_unknown_filter.true ∙ ap (λ b. b || inside) (sym c.if-is_unknown_filter.true ∙ c.is_unknown_filter.ensures)

pub returns-else-is_unknown_filter : goal.returns-else-is_unknown_filter
unfolding filter_unknown
returns-else-is_unknown_filter c =
    let ts = exprs_view c.args.items.now in
    let inside = inside_unknown c.args.named (filter_written c.args.name.now ts (pairs_view c.args.pairs.now)) ts in
    c.inside_unknown.ensures ∙ ap (λ o. inside_unknown c.args.named o ts) c.filter_of.ensures
    ∙ ap (λ b. b || inside) (sym c.if-is_unknown_filter.false ∙ c.is_unknown_filter.ensures)
