use Rattle.std.proofs.Common.{◌≡◌, length}
use Rattle.jt_expr.specs.Cursor.{ahead}
use Rattle.jt_expr.specs.Promises.{level_of_form}
use Rattle.jt_expr.specs.internal.Reading.{read}
use Rattle.jt_expr.specs.internal.Pending.{Proper, move_view}
use Rattle.jt_expr.specs.internal.Unwinding.{outcome_of, steps_left}
use Rattle.jt_expr.proofs.reader.read_within.Given as goal

abbrev pub invariant-moves : goal.invariant-moves
invariant-moves l = record {
  gives : read l.limit (level_of_form l.fn.form) (ahead l.fn.cursor)
      ≡ outcome_of l.reader (move_view l.step) (ahead l.cursor);
  proper : Proper (move_view l.step);
}

abbrev pub decreases-moves : goal.decreases-moves
decreases-moves l = steps_left (length l.reader.pending.items) (move_view l.step) (ahead l.cursor)
