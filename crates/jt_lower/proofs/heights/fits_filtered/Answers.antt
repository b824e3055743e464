use Rattle.std.proofs.Common.{◌&&◌, sym, ap, ◌∙◌}
use Rattle.jt_ir.specs.View.{expr_view}
use Rattle.jt_lower.proofs.HeightsDecided.{some_left}
use Rattle.jt_lower.proofs.FilterCode.{filtered_low, steps_low, required_low}
use Rattle.jt_lower.proofs.heights.fits_filtered.Goals as goal

pub returns-then-not-fits_expression : goal.returns-then-not-fits_expression
returns-then-not-fits_expression c =
    let v = c.args.filtered.now in
    sym (filtered_low v.required c.args.room v.filters.items (expr_view v.value)
    ∙ ap (λ b. (b && steps_low c.args.room v.filters.items) && required_low v.required c.args.room)
    (sym c.fits_expression.ensures ∙ c.if-not-fits_expression.true))

pub loop-filter-init : goal.loop-filter-init
loop-filter-init c =
    let v = c.args.filtered.now in
    filtered_low v.required c.args.room v.filters.items (expr_view v.value)
    ∙ ap (λ b. (b && steps_low c.args.room v.filters.items) && required_low v.required c.args.room)
    (sym c.fits_expression.ensures ∙ c.if-not-fits_expression.false)

pub overflow_sub-room : goal.overflow_sub-room
overflow_sub-room c =
    some_left (expr_view c.args.filtered.now.value) c.args.room
    (sym c.fits_expression.ensures ∙ c.if-not-fits_expression.false)
