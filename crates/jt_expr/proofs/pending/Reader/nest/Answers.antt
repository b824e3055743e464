use Rattle.std.proofs.Common.{suc, ◌-◌, is_ok, rules, arith}
use Rattle.jt_expr.specs.Cursor.{ahead}
use Rattle.jt_expr.specs.internal.Reading.{read}
use Rattle.jt_expr.specs.internal.Moves as moves
use Rattle.jt_expr.specs.internal.Pending.{goal_of, form_view, forms_of, level_view, move_view}
use Rattle.jt_expr.proofs.Binding.{all_ok}
use Rattle.jt_expr.proofs.MoveBounds.{Begun, begin_bounded}
use Rattle.jt_expr.proofs.StackedForms.{depth_grows, length_pushed, nest_moves, nest_refused, moved, refused_move}
use Rattle.jt_expr.proofs.pending.Reader.nest.Goals as goal

pub returns-then-self-eq0-clause-gives : goal.returns-then-self-eq0-clause-gives
returns-then-self-eq0-clause-gives c = search (arith, rules, nest_refused)

pub invariant_of-self : goal.invariant_of-self
invariant_of-self c = search (arith, rules, depth_grows, is_ok)

pub returns-in_err-begin-clause-gives : goal.returns-in_err-begin-clause-gives
returns-in_err-begin-clause-gives c =
    let self = c.args.self.now in
    let items = c.push.new.self.items in
    let e = nest_moves (level_view self.entry) self.below (self.below - 1) self.pending.items items c.args.form
    (ahead c.args.cursor.now) c.in_ok-push.ensures.items c.requires (omega arith) in
    let q = refused_move (level_view self.entry) (self.below - 1) (forms_of items) _ _ e _ c.in_err-begin.ensures in
    search rules

pub returns-clause-gives : goal.returns-clause-gives
returns-clause-gives c =
    let self = c.args.self.now in
    let items = c.push.new.self.items in
    let e = nest_moves (level_view self.entry) self.below (self.below - 1) self.pending.items items c.args.form
    (ahead c.args.cursor.now) c.in_ok-push.ensures.items c.requires (omega arith) in
    moved (level_view self.entry) (self.below - 1) (forms_of items) _ _ e (move_view c.in_ok-begin.field-0)
    (ahead c.begin.new.cursor) c.in_ok-begin.ensures

pub returns-clause-falls : goal.returns-clause-falls
returns-clause-falls c = search (arith, rules, all_ok, begin_bounded, length_pushed)
