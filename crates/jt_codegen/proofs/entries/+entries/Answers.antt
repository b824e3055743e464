use Rattle.std.proofs.Common.{◌+◌, ◌&&◌, arith, drop, ap, ◌∙◌}
use Rattle.std.specs.Prelude.{nat_le}
use Rattle.std.proofs.lemmas.List.{at_drop_all}
use Rattle.jt_ir.specs.Size.{body_height}
use Rattle.jt_ir.specs.View.{body_view}
use Rattle.jt_codegen.proofs.EntryBoundDecided.{body_next, branches_low, choice_passes, choice_high, branch_passed}
use Rattle.jt_codegen.proofs.EntryBoundDecided.{condition_high, inside_high, if_view, for_passes, capture_passes}
use Rattle.jt_codegen.proofs.entries.+entries.Goals as goal

pub fits_body-returns-then-not-fits_statement : goal.fits_body-returns-then-not-fits_statement
fits_body-returns-then-not-fits_statement t c =
    let l = c.loop-statement in
    let ss = c.args.body.now in
    λ templates behind. l.invariant templates behind
    ∙ body_next c.args.room templates ss l.statement-index c.statement-item.result c.fits_statement.result behind
    c.loop-statement-test.true c.statement-item.is (c.fits_statement.ensures templates)
    ∙ ap (λ z. z && nat_le (body_height (body_view templates (drop (l.statement-index + 1) ss) behind)) c.args.room)
    c.if-not-fits_statement.true

pub fits_body-loop-statement-preserved : goal.fits_body-loop-statement-preserved
fits_body-loop-statement-preserved t c =
    let l = c.loop-statement in
    let ss = c.args.body.now in
    λ templates behind. l.invariant templates behind
    ∙ body_next c.args.room templates ss l.statement-index c.statement-item.result c.fits_statement.result behind
    c.loop-statement-test.true c.statement-item.is (c.fits_statement.ensures templates)
    ∙ ap (λ z. z && nat_le (body_height (body_view templates (drop (l.statement-index + 1) ss) behind)) c.args.room)
    c.if-not-fits_statement.false

pub fits_body-returns : goal.fits_body-returns
fits_body-returns t c =
    let l = c.loop-statement in
    λ templates behind. l.invariant templates behind
    ∙ at_drop_all (λ ss. nat_le (body_height (body_view templates ss behind)) c.args.room) c.args.body.now
    l.statement-index c.loop-statement-test.false

pub fits_branches-returns-then-not-fits_expression : goal.fits_branches-returns-then-not-fits_expression
fits_branches-returns-then-not-fits_expression t c =
    let l = c.loop-condition in
    let bs = c.args.branches.now in
    λ templates behind. choice_high c.args.room templates bs (body_view templates c.args.other.now) behind
    (l.invariant templates ∙ condition_high c.args.room templates bs l.condition-index c.loop-condition-item.result
    c.fits_expression.result c.loop-condition-test.true c.loop-condition-item.is c.fits_expression.ensures
    c.if-not-fits_expression.true)

pub fits_branches-returns-then-not-fits_body : goal.fits_branches-returns-then-not-fits_body
fits_branches-returns-then-not-fits_body t c =
    let l = c.loop-condition in
    let bs = c.args.branches.now in
    λ templates behind. choice_high c.args.room templates bs (body_view templates c.args.other.now) behind
    (l.invariant templates ∙ inside_high c.args.room templates bs l.condition-index c.loop-condition-item.result
    c.deref.result.now c.fits_expression.result c.fits_body.result c.loop-condition-test.true c.loop-condition-item.is
    c.deref.ensures.value
    c.fits_expression.ensures (c.fits_body.ensures templates) c.if-not-fits_body.true)

pub fits_branches-loop-condition-preserved : goal.fits_branches-loop-condition-preserved
fits_branches-loop-condition-preserved t c =
    let l = c.loop-condition in
    λ templates. l.invariant templates
    ∙ branch_passed c.args.room templates c.args.branches.now l.condition-index c.loop-condition-item.result
    c.deref.result.now c.fits_expression.result c.fits_body.result c.loop-condition-test.true c.loop-condition-item.is
    c.deref.ensures.value
    c.fits_expression.ensures (c.fits_body.ensures templates) c.if-not-fits_expression.false c.if-not-fits_body.false

pub fits_branches-returns : goal.fits_branches-returns
fits_branches-returns t c =
    let l = c.loop-condition in
    let bs = c.args.branches.now in
    let o = c.fits_body-2.result in
    λ templates behind. choice_passes c.args.room templates bs (body_view templates c.args.other.now) o
    (c.fits_body-2.ensures templates) behind
    ∙ ap (λ z. (z && o) && nat_le (body_height behind) c.args.room)
    (l.invariant templates
    ∙ at_drop_all (branches_low c.args.room templates) bs l.condition-index c.loop-condition-test.false)

pub fits_statement-returns-in-If : goal.fits_statement-returns-in-If
fits_statement-returns-in-If t c =
    let v = c.in-If in
    λ templates behind. ap (λ b. nat_le (body_height b) c.args.room)
    (if_view c.args.room templates c.args.statement.now v.branches v.other c.deref.result.now c.deref-in-If.result.now
    v.is c.deref.ensures.value c.deref-in-If.ensures.value behind)
    ∙ c.fits_branches.ensures templates behind

pub fits_statement-returns-else-room-eq0 : goal.fits_statement-returns-else-room-eq0
fits_statement-returns-else-room-eq0 t c =
    let v = c.in-For in
    λ templates. for_passes c.args.room templates c.args.statement.now v.place v.targets v.iterated v.condition v.body
    v.other c.deref-in-For.result.now c.deref-in-For-2.result.now
    c.fits_expression-in-For.result c.fits_targets-in-For.result c.fits_condition.result c.fits_body.result
    c.fits_body-in-For.result (omega arith) v.is c.deref-in-For.ensures.value c.deref-in-For-2.ensures.value
    c.fits_expression-in-For.ensures c.fits_targets-in-For.ensures c.fits_condition.ensures
    (c.fits_body.ensures templates) (c.fits_body-in-For.ensures templates)

pub fits_statement-returns-then-room-ge1 : goal.fits_statement-returns-then-room-ge1
fits_statement-returns-then-room-ge1 t c =
    let v = c.in-Capture in
    λ templates. capture_passes c.args.room templates c.args.statement.now v.escaping v.slot v.body
    c.deref-then-room-ge1.result.now c.fits_body-then-room-ge1.result c.if-room-ge1.true v.is
    c.deref-then-room-ge1.ensures.value (c.fits_body-then-room-ge1.ensures templates)
