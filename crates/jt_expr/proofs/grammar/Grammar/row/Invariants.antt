use Rattle.std.proofs.Common.{◌≡◌, ◌-◌, suc, length}
use Rattle.jt_expr.specs.Cursor.{ahead}
use Rattle.jt_expr.specs.internal.Gives.{row_view}
use Rattle.jt_expr.specs.Promises.{parts_view}
use Rattle.jt_expr.specs.internal.Reading.{read, row, ◌>>=◌}
use Rattle.jt_expr.proofs.RowCollection.{after_found}
use Rattle.jt_expr.proofs.grammar.Grammar.row.Given as goal

abbrev pub invariant-loop-turn : goal.invariant-loop-turn
invariant-loop-turn l =
    row (read l.self.below) (suc l.self.below) (length (ahead l.fn.cursor)) (row_view l.fn.first) (ahead l.fn.cursor)
    ≡ (row (read l.self.below) (suc l.self.below) (l._turn-end - l._turn) (row_view l.row) (ahead l.cursor)
    >>= after_found (parts_view l.found))
