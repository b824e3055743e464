use Rattle.std.proofs.Common.{suc, rules, ◌∙◌, ap, arith}
use Rattle.jt_expr.specs.Cursor.{ahead}
use Rattle.jt_expr.specs.Promises.{tree_of}
use Rattle.jt_expr.specs.internal.Reading.{read}
use Rattle.jt_expr.specs.internal.Moves as moves
use Rattle.jt_expr.specs.internal.Pending.{forms_of, level_view, move_view}
use Rattle.jt_expr.specs.internal.Unwinding.{moves_left, outcome_of}
use Rattle.jt_expr.proofs.Binding.{all_ok}
use Rattle.jt_expr.proofs.LevelClimbs.{rank_most}
use Rattle.jt_expr.proofs.MoveBounds.{Bounded, from_level, grow_bounded}
use Rattle.jt_expr.proofs.StackedForms.{grow_next, moved, refused_move}
use Rattle.jt_expr.proofs.pending.Reader.advance.Goals as goal

pub returns-in_err-step-in-Grown-clause-gives : goal.returns-in_err-step-in-Grown-clause-gives
returns-in_err-step-in-Grown-clause-gives c = search (arith, rules, grow_next, refused_move)

pub returns-in_ok-step-in-Grown-clause-gives : goal.returns-in_ok-step-in-Grown-clause-gives
returns-in_ok-step-in-Grown-clause-gives c = search (arith, rules, grow_next, moved)

pub returns-in_ok-step-in-Grown-clause-falls : goal.returns-in_ok-step-in-Grown-clause-falls
returns-in_ok-step-in-Grown-clause-falls c = search (arith, rules, from_level, all_ok, grow_bounded, rank_most)
