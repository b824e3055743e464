use Rattle.std.proofs.Common.{Global, Vec}
use Rattle.jt_scan.specs.declared.segment.Sign.TheVariants as s
use Rattle.jt_expr.specs.Cursor.{ahead}
use Rattle.jt_ast.specs.declared.statement.Parameter.{Parameter}
use Rattle.jt_parse.specs.Tags.{IsParameter}
use Rattle.jt_parse.specs.internal.Readers.{NoSign, NoParameter}
use Rattle.jt_ast.specs.StatementView.{parameter_view, parameters_view}
use Rattle.jt_parse.proofs.SeparatedLists.{Turn, parameter_row}
use Rattle.jt_parse.proofs.tags.parameter_row.Given as goal

abbrev pub invariant-loop-turn : goal.invariant-loop-turn
invariant-loop-turn l =
    Turn parameter_view (λ (v : Vec Parameter Global). parameters_view v.items) IsParameter s.Comma (NoSign s.Assign)
    NoParameter parameter_row (λ a. 0) 0 (ahead l.fn.cursor)
    l._turn l._turn-end (parameters_view l.found.items) (ahead l.cursor)
