use Rattle.std.proofs.Common.{◌≡◌, suc, ◌-◌, ap, sym, ◌∙◌, arith, rules}
use Rattle.jt_expr.specs.Cursor.{ahead}
use Rattle.jt_expr.specs.internal.Reading.{read}
use Rattle.jt_expr.specs.Promises.{level_of_form}
use Rattle.jt_expr.specs.internal.Moves as moves
use Rattle.jt_expr.specs.internal.Pending.{goal_of, forms_of, level_view, move_view}
use Rattle.jt_expr.proofs.Binding.{all_ok}
use Rattle.jt_expr.proofs.MoveBounds.{Begun, begin_bounded}
use Rattle.jt_expr.proofs.StackedForms.{first_moves, moved, refused_move}
use Rattle.jt_expr.proofs.reader.read_within.Goals as goal

pub returns-then-limit-eq0 : goal.returns-then-limit-eq0
unfolding read
returns-then-limit-eq0 c = search (arith, rules)

pub returns-in_err-step : goal.returns-in_err-step
returns-in_err-step c =
    let ts = ahead c.args.cursor.now in
    let entry = level_view c.level.result in
    let below = c.args.limit - 1 in
    let e = ap (λ k. read c.args.limit k ts) (sym c.level.ensures)
    ∙ first_moves entry c.args.limit below c.new.result.items ts (omega arith) c.new.ensures.items in
    let q = refused_move entry below (forms_of c.new.result.items) _ _ e _ c.in_err-step.ensures in
    search rules

pub moves-init : goal.moves-init
moves-init c =
    let ts = ahead c.args.cursor.now in
    let entry = level_view c.level.result in
    let below = c.args.limit - 1 in
    let fs = forms_of c.new.result.items in
    let s = move_view c.in_ok-step.step in
    let v = ahead c.begin.new.cursor in
    let e = ap (λ k. read c.args.limit k ts) (sym c.level.ensures)
    ∙ first_moves entry c.args.limit below c.new.result.items ts (omega arith) c.new.ensures.items in
    let b : Begun (read below) (suc below) ts s v =
    all_ok (Begun (read below) (suc below) ts) (moves.begin (read below) (suc below) (goal_of entry fs) ts) s v
    (begin_bounded (read below) (suc below) (goal_of entry fs) ts) c.in_ok-step.ensures in
    record { gives = moved entry below fs _ _ e s v c.in_ok-step.ensures; proper = b.0 }
