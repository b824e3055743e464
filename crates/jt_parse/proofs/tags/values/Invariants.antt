use Rattle.std.proofs.Common.{String, Global, Vec}
use Rattle.jt_scan.specs.declared.segment.Sign.TheVariants as s
use Rattle.jt_expr.specs.Cursor.{ahead}
use Rattle.jt_ast.specs.declared.expression.Expr.{Expr}
use Rattle.jt_expr.specs.Grammar.{whole}
use Rattle.jt_expr.specs.Promises.{EndsAt}
use Rattle.jt_parse.specs.Tags.{IsValue}
use Rattle.jt_parse.specs.internal.Readers.{NoToken, value_levels}
use Rattle.jt_parse.specs.internal.HeadView.{value_view, values_view}
use Rattle.jt_parse.proofs.SeparatedLists.{Turn, value_row}
use Rattle.jt_parse.proofs.tags.values.Given as goal

abbrev pub invariant-loop-turn : goal.invariant-loop-turn
invariant-loop-turn l =
    Turn value_view (λ (v : Vec (String Global × Expr) Global). values_view v.items) IsValue s.Comma (EndsAt whole)
    NoToken value_row value_levels l.levels (ahead l.fn.cursor)
    l._turn l._turn-end (values_view l.found.items) (ahead l.cursor)
