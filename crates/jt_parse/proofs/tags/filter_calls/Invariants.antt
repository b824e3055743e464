use Rattle.std.proofs.Common.{Global, Vec}
use Rattle.jt_scan.specs.declared.segment.Sign.TheVariants as s
use Rattle.jt_expr.specs.Cursor.{ahead}
use Rattle.jt_expr.specs.Promises.{OpensNone}
use Rattle.jt_ast.specs.declared.statement.FilterCall.{FilterCall}
use Rattle.jt_parse.specs.Tags.{IsFilterCall}
use Rattle.jt_parse.specs.internal.Readers.{NoToken, one_filter_call_levels}
use Rattle.jt_ast.specs.StatementView.{filter_call_view, filter_calls_view}
use Rattle.jt_parse.proofs.SeparatedLists.{Turn, filter_call_row}
use Rattle.jt_parse.proofs.tags.filter_calls.Given as goal

abbrev pub invariant-loop-turn : goal.invariant-loop-turn
invariant-loop-turn l =
    Turn filter_call_view (λ (v : Vec FilterCall Global). filter_calls_view v.items) IsFilterCall s.Pipe OpensNone
    NoToken filter_call_row one_filter_call_levels l.levels (ahead l.fn.cursor)
    l._turn l._turn-end (filter_calls_view l.found.items) (ahead l.cursor)
