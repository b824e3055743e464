use Rattle.std.proofs.Common.{◌≤◌, sym, ap, ◌∙◌, arith, rules}
use Rattle.std.specs.Prelude.{nat_le}
use Rattle.jt_ir.specs.Size.{nary_op_height, expr_height, row_height}
use Rattle.jt_ir.specs.Slots.{none}
use Rattle.jt_ir.specs.View.{nary_op_view, row_view}
use Rattle.jt_ir.proofs.ExpressionViews.{seen_made, seen_invoke}
use Rattle.jt_lower.proofs.HeightsDecided.{made_low, invoke_low, some_left, row_more}
use Rattle.jt_lower.proofs.heights.+heights.Goals as goal
use Rattle.jt_lower.proofs.heights.+heights.Goals.{fits_row-then-is_none, fits_row-else-is_none}

pub fits_expression-returns-then-room-height_of : goal.fits_expression-returns-then-room-height_of
fits_expression-returns-then-room-height_of t c =
    let k = nary_op_view c.in-Made.made in
    let es = row_view c.deref.result.now none in
    let low : nary_op_height k ≤ c.args.room = omega (arith, c.height_of.ensures, c.if-room-height_of.true) in
    c.fits_row.ensures
    ∙ sym (ap (λ x. nat_le (expr_height x) c.args.room)
    (seen_made c.args.expr.now c.in-Made.made c.in-Made.row c.deref.result.now c.in-Made.is c.deref.ensures.value)
    ∙ made_low (nary_op_height k) (row_height es) c.args.room low)

pub fits_expression-returns-then-room-ge1 : goal.fits_expression-returns-then-room-ge1
fits_expression-returns-then-room-ge1 t c = search (arith, rules, seen_invoke, invoke_low)

pub fits_row-overflow_sub-left : goal.fits_row-overflow_sub-left
fits_row-overflow_sub-left t c = search (arith, rules, some_left)

pub fits_row-loop-kept-preserved : goal.fits_row-loop-kept-preserved
fits_row-loop-kept-preserved t c = search (arith, rules, row_more, fits_row-then-is_none, fits_row-else-is_none)
