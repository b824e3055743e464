use Rattle.jt_ast.proofs.StatementViews.{view_Block, view_Set}
use Rattle.jt_bind.proofs
use proofs.slots
use proofs.{alone, ◌+◌, cenv_in, drop, pairs_view, filter_calls_view, body_view, followed, values, templates_of}
use proofs.{senv_of, line_of, body_of, scoped_of, filters_of, values_of, bound_all, drop_all, ap, arith}
use proofs.{IfOk-weaker, lead_both, emits_of, emits_both, place_is, followed_again, choice_same, branch_lead}
use proofs.{choice_emitted, capture_emitted, print_emitted, assign_emitted, loop_emitted, statements_left}
use proofs.{branches_left, freed, filter_shown, values_emitted, scope_emitted, turns_as}
use Rattle.jt_bind.proofs.resolver.Resolver.+statements.Goals as goal

-- ---- bodies

pub resolve_body-loop-statement-preserved : goal.resolve_body-loop-statement-preserved
resolve_body-loop-statement-preserved t c = λ left.
    let l = c.loop-statement in
    let r = c.args.self.now in
    let ss = c.args.body.now in
    lead_both (rw (
      statements_left ss l.statement-index c.statement-item.result c.loop-statement-test.true c.statement-item.is,
      followed_again,
    ) at (l.invariant left))
    (c.in_ok-resolve_statement.ensures (followed (body_of r (body_view (drop (l.statement-index + 1) ss))) left))

pub resolve_body-returns : goal.resolve_body-returns
resolve_body-returns t c = λ left.
    rw (drop_all c.loop-statement.statement-index c.args.body.now (omega arith)) at (c.loop-statement.invariant left)

pub resolve_whole-returns : goal.resolve_whole-returns
resolve_whole-returns t c =
    rw c.into_part.ensures (rw c.new.ensures.items at c.in_ok-resolve_body.ensures)

-- ---- scopes

pub resolve_scoped-returns : goal.resolve_scoped-returns
resolve_scoped-returns t c =
    let r = c.args.self.now in
    IfOk-weaker c.resolve_body.result _ _
    (λ u h. scope_emitted r (body_view c.args.body.now) c.inside.result _ _ _ _ _
    (rw c.in_ok-names.ensures at (c.inside.ensures _ r.tables.now c.in_ok-inner.ensures))
    (rw (c.deref.ensures.value, c.in_ok-names.ensures) at (c.in_ok-put_values.ensures (values c.args.pool.now))) h)
    c.resolve_body.ensures

pub resolve_within-returns : goal.resolve_within-returns
resolve_within-returns t c =
    let r = c.args.self.now in
    IfOk-weaker c.resolve_scoped.result _ _
    (λ u h. emits_of (templates_of r) _ _ _ _ _ _
    (ap (scoped_of r (body_view c.args.body.now)) (c.inside.ensures _ r.tables.now c.in_ok-inner.ensures)) h)
    c.resolve_scoped.ensures

-- ---- parts of statements

pub resolve_branch-returns : goal.resolve_branch-returns
resolve_branch-returns t c =
    let r = c.args.self.now in
    record {
      between = values c.resolve_expression.new.pool;
      stands = rw c.place.ensures (place_is r c.args.branch.now.line);
      asked = c.in_ok-asked.ensures;
      taken = rw c.deref.ensures.value at c.in_ok-taken.ensures;
    }

pub resolve_branches-loop-branch-init : goal.resolve_branches-loop-branch-init
resolve_branches-loop-branch-init t c =
    λ other. choice_same (templates_of c.args.self.now) _ _ _ c.in_ok-with_capacity.ensures.items

pub resolve_branches-loop-branch-preserved : goal.resolve_branches-loop-branch-preserved
resolve_branches-loop-branch-preserved t c = λ other.
    let l = c.loop-branch in
    let bs = c.args.branches.now in
    let here = rw (branches_left bs l.branch-index c.branch-item.result c.loop-branch-test.true c.branch-item.is) at
    (l.invariant other) in
    branch_lead (templates_of c.args.self.now) _ _ _ _ _ _ _ _ _ _ _ here c.in_ok-resolve_branch.ensures
    c.in_ok-put_branch.ensures

pub resolve_branches-returns : goal.resolve_branches-returns
resolve_branches-returns t c =
    let l = c.loop-branch in
    let r = c.args.self.now in
    let all = rw (drop_all l.branch-index c.args.branches.now (omega arith), ← c.into_part.ensures) at
    (l.invariant (body_of r (body_view c.args.other.now))) in
    IfOk-weaker c.put_choice.result _ _
    (λ u h. choice_emitted (templates_of r) _ _ _ _ _ _ _ _ _ all c.in_ok-last.ensures h) c.put_choice.ensures

pub resolve_for-returns : goal.resolve_for-returns
resolve_for-returns t c =
    IfOk-weaker c.put_loop.result _ _
    (λ u h. loop_emitted c.args.self.now c.args.tag.line _ _ _ _ _ _ _ _ _ _ _ _ c.in_ok-turns.ensures
    c.in_ok-last.ensures h)
    c.put_loop.ensures

pub resolve_turns-returns : goal.resolve_turns-returns
resolve_turns-returns t c =
    let r = c.args.self.now in
    turns_as r (body_view c.args.body.now) _ _ _ _ _ _ _ _ _
    (rw c.in_ok-names_of.ensures at (c.inside.ensures _ r.tables.now c.in_ok-inner.ensures))
    c.in_ok-head.ensures
    (rw c.new.ensures.items at c.in_ok-resolve_scoped.ensures)

pub resolve_with-returns : goal.resolve_with-returns
resolve_with-returns t c =
    let r = c.args.self.now in
    let qs = pairs_view c.args.pairs.now in
    IfOk-weaker c.resolve_within.result _ _ (λ u h.
    emits_of (templates_of r) _ _ _ _ _ _ (ap
    (λ w. values_of r qs c.args.line (scoped_of r (body_view c.args.body.now) (bound_all w (senv_of r))))
    c.in_ok-keyword_names.ensures)
    (values_emitted r qs c.args.line _ _ _ _ _ _ _ c.in_ok-resolve_values.ensures h)) c.resolve_within.ensures

pub resolve_filter_block-returns : goal.resolve_filter_block-returns
resolve_filter_block-returns t c =
    let r = c.args.self.now in
    let T = templates_of r in
    let line = c.args.line in
    let fs = filter_calls_view c.args.filters.now in
    let b = body_view c.args.body.now in
    let kept = slots.local r.senv.free in
    let i = freed r c.in_ok-inside.field-0 in
    let first = alone (slots.capture r.senv.escaping kept (scoped_of r b (senv_of i))) in
    let second = alone (slots.print (line_of r line) r.senv.escaping
    (slots.required_if (cenv_in r.tables.now).strict (filters_of i fs (slots.variable kept)))) in
    IfOk-weaker c.put_filtered.result _ _
    (λ u h. emits_of T (followed first second) _ _ _ _ _
    (filter_shown r line fs b c.in_ok-inside.field-0 c.in_ok-inside.ensures)
    (emits_both T first second _ _ _ _ _ _ c.in_ok-resolve_text.ensures
    (print_emitted r line _ _ _ _ _ _ c.in_ok-shown.ensures h)))
    c.put_filtered.ensures

pub resolve_text-returns : goal.resolve_text-returns
resolve_text-returns t c =
    let text = rw c.new.ensures.items at c.in_ok-resolve_scoped.ensures in
    IfOk-weaker c.put_capture.result _ _ (λ u h. capture_emitted _ _ _ _ _ _ _ _ _ (rw c.into_part.ensures text) h)
    c.put_capture.ensures

-- ---- statements

pub resolve_statement-returns-in-Block : goal.resolve_statement-returns-in-Block
resolve_statement-returns-in-Block t c =
    rw (c.in-Block.is, view_Block, ← c.deref-in-Block.ensures) (IfOk-weaker c.put_block.result _ _ (λ u h.
    h c.in-Block.line c.in-Block.required (body_view c.in-Block.body.items) (values c.args.pool.now))
    c.put_block.ensures)

-- ---- statements that set names

pub resolve_if_set-returns-in_ok-given-in-Set : goal.resolve_if_set-returns-in_ok-given-in-Set
resolve_if_set-returns-in_ok-given-in-Set t c =
    let v = c.in-Set in
    rw (v.is, view_Set, ← c.deref.ensures.value) (IfOk-weaker c.put_assign.result _ _
    (λ u h. rw (← c.in_ok-targets-in-Set.ensures)
    (assign_emitted c.args.self.now v.line _ _ _ _ _ _ _ c.in_ok-given-in-Set.ensures h)) c.put_assign.ensures)
