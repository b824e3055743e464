use Rattle.jt_value.specs.Tree as tree
use Rattle.jt_ids.specs.declared.op_id.OpId.TheVariants as op
use Rattle.jt_ir.specs.declared.program.NaryOp.TheVariants as m
use Rattle.jt_ast.specs.ExpressionView as written
use Rattle.jt_ast.proofs.ExpressionViews.{view_Call, view_Filter, view_Test}
use Rattle.jt_bind.proofs
use proofs.slots
use proofs.{None, Some, expr_of, expr_view, exprs_view, filled_of, filter_id, filter_row_of, own, row_of, values}
use proofs.{drop_all, ◌∙◌, arith, add-one, IfOk-weaker, count_length, named_is, parameters_are, lead_both}
use proofs.{row_entry, made_placed, invoked_placed, row_left, pairs_left, pairs_view, joined_form, IsPlaced, Term}
use proofs.{subst, sym, true}
use Rattle.jt_bind.proofs.resolver.Resolver.+expressions.Goals as goal

pub resolve_row-loop-expr-preserved : goal.resolve_row-loop-expr-preserved
resolve_row-loop-expr-preserved t c = λ left.
    let l = c.loop-expr in
    lead_both
    (rw (row_left c.args.row.now l.expr-index c.expr-item.result c.loop-expr-test.true c.expr-item.is) at
    (l.invariant left))
    (row_entry None _ c.in_ok-next.ensures c.in_ok-put_argument.ensures)

pub resolve_row-returns : goal.resolve_row-returns
resolve_row-returns t c = λ left.
    rw (drop_all c.loop-expr.expr-index c.args.row.now (omega arith)) at (c.loop-expr.invariant left)

pub resolve_entries-loop-key-preserved : goal.resolve_entries-loop-key-preserved
resolve_entries-loop-key-preserved t c =
    let l = c.loop-key in
    lead_both (rw (
      pairs_left c.args.pairs.now l.key-index c.loop-key-item.result c.loop-key-test.true c.loop-key-item.is,
      ← c.as_str.ensures.value,
    ) at l.invariant)
    (lead_both (row_entry None _ c.in_ok-entry_key.ensures c.in_ok-put_argument.ensures)
    (row_entry None _ c.in_ok-next.ensures c.in_ok-put_argument-2.ensures))

pub resolve_made-returns : goal.resolve_made-returns
resolve_made-returns t c =
    rw c.into_part.ensures (made_placed _ _
    (lead_both (rw c.in_ok-with_capacity.ensures.items at (c.in_ok-resolve_row.ensures
    (row_of c.args.self.now (exprs_view c.args.rest.now) slots.none)))
    (c.in_ok-resolve_row-2.ensures slots.none)))

pub resolve_map-returns : goal.resolve_map-returns
resolve_map-returns t c =
    rw c.into_part.ensures (made_placed m.Map _ (rw c.new.ensures.items at c.in_ok-resolve_entries.ensures))

pub resolve_attribute-returns : goal.resolve_attribute-returns
resolve_attribute-returns t c =
    rw (c.into_part.ensures, ← c.is_loop_name.ensures, c.if-is_loop_name.false)
    (made_placed (m.Operator op.Item) _
    (lead_both (rw (c.in_ok-with_capacity.ensures.items, c.from_ref.ensures.value) at (c.in_ok-resolve_row.ensures
    (slots.item (slots.pooled (own (tree.text c.args.key.now))) slots.none)))
    (row_entry None _ c.in_ok-item_key.ensures c.in_ok-put_argument.ensures)))

pub resolve_asides-returns : goal.resolve_asides-returns
resolve_asides-returns t c = λ left.
    rw (drop_all c.loop-value.value-index c.args.pairs.now (omega arith)) at (c.loop-value.invariant left)

pub resolve_asides-loop-value-preserved : goal.resolve_asides-loop-value-preserved
resolve_asides-loop-value-preserved t c = λ left.
    let l = c.loop-value in
    lead_both (rw (
      pairs_left c.args.pairs.now l.value-index c.loop-value-item.result c.loop-value-test.true c.loop-value-item.is,
      ← (c.in_ok-senv.ensures ∙ add-one l.senv.free),
    ) at (l.invariant left))
    (row_entry (Some l.senv.free) _ c.in_ok-next.ensures c.in_ok-put_argument.ensures)

pub resolve_binary-returns-in-Operation : goal.resolve_binary-returns-in-Operation
resolve_binary-returns-in-Operation t c =
    rw (← c.form_of.ensures, c.in-Operation.is, ← c.requires_operands.ensures, c.if-requires_operands.false)
    (rw (c.from_ref-first.ensures.value, c.from_ref-rest.ensures.value) at c.resolve_made.ensures)

pub resolve_binary-returns-in_ok-inside-in-Negation : goal.resolve_binary-returns-in_ok-inside-in-Negation
resolve_binary-returns-in_ok-inside-in-Negation t c =
    IfOk-weaker c.on_one.result _ _
    (λ e h. rw (← c.form_of.ensures, c.in-Negation.is, ← c.requires_operands.ensures, c.if-requires_operands.false)
    (h _ _ _
    (rw (c.from_ref-first.ensures.value, c.from_ref-rest.ensures.value) at c.in_ok-inside-in-Negation.ensures)))
    c.on_one.ensures

pub resolve_binary-returns-in_ok-second-in-Shortcut : goal.resolve_binary-returns-in_ok-second-in-Shortcut
resolve_binary-returns-in_ok-second-in-Shortcut t c =
    rw (← c.form_of.ensures, c.in-Shortcut.is, ← c.requires_operands.ensures, c.if-requires_operands.false)
    (c.apply_shortcut.ensures _ _ _ _ _ c.in_ok-first-in-Shortcut.ensures c.in_ok-second-in-Shortcut.ensures)

pub resolve_binary-returns-then-requires_operands : goal.resolve_binary-returns-then-requires_operands
resolve_binary-returns-then-requires_operands t c =
    let r = c.args.self.now in
    IfOk-weaker c.resolve_joined.result _ _
    (λ e h. subst (λ (x : Term). IsPlaced x (expr_view e) (values c.args.pool.now) (values c.resolve_joined.new.pool))
    (joined_form _ r.senv.escaping c.args.operator _ _
    (sym c.requires_operands.ensures ∙ c.if-requires_operands.true)) h) c.resolve_joined.ensures

pub resolve_joined-returns : goal.resolve_joined-returns
resolve_joined-returns t c =
    let right = slots.required_if true (expr_of c.args.self.now (written.expr_view c.args.right.now)) in
    rw (c.into_part.ensures, ← c.join.ensures) (made_placed (m.Operator c.join.result) _
    (lead_both
    (rw c.in_ok-with_capacity.ensures.items at (c.in_ok-resolve_operand.ensures (slots.item right slots.none)))
    (c.in_ok-resolve_operand-2.ensures slots.none)))

pub resolve_operand-returns : goal.resolve_operand-returns
resolve_operand-returns t c =
    IfOk-weaker c.put_argument.result _ _
    (λ u h. λ left. row_entry None _ (c.in_ok-next.ensures _ _ _ c.in_ok-value.ensures) h) c.put_argument.ensures

pub resolve_when-returns : goal.resolve_when-returns
resolve_when-returns t c =
    c.chosen.ensures _ _ _ _ _ _ _ c.in_ok-asked.ensures c.in_ok-first.ensures
    (rw c.in_ok-second.ensures (c.reading.ensures (values c.resolve_boxed-2.new.pool)))

pub resolve_choice-returns : goal.resolve_choice-returns
resolve_choice-returns t c =
    c.chosen.ensures _ _ _ _ _ _ _ c.in_ok-asked.ensures c.in_ok-first.ensures c.in_ok-second.ensures

pub resolve_boxed-returns : goal.resolve_boxed-returns
resolve_boxed-returns t c =
    IfOk-weaker c.boxed.result _ _ (λ o h. rw h c.in_ok-resolve_expression.ensures) c.boxed.ensures

pub resolve_expression-returns-in-Call : goal.resolve_expression-returns-in-Call
resolve_expression-returns-in-Call t c =
    rw (
      c.in-Call.is,
      view_Call,
      ← c.deref-in-Call.ensures,
      ← c.deref-in-Call-2.ensures.value,
      ← c.deref-in-Call-3.ensures.value,
    )
    c.resolve_call.ensures

pub resolve_expression-returns-in-Filter : goal.resolve_expression-returns-in-Filter
resolve_expression-returns-in-Filter t c =
    rw (
      c.in-Filter.is,
      view_Filter,
      ← c.deref-in-Filter.ensures,
      ← c.deref-in-Filter-2.ensures,
      ← c.deref-in-Filter-3.ensures.value,
      ← c.deref-in-Filter-4.ensures.value,
    )
    c.resolve_filter.ensures

pub resolve_expression-returns-in-Test : goal.resolve_expression-returns-in-Test
resolve_expression-returns-in-Test t c =
    rw (
      c.in-Test.is,
      view_Test,
      ← c.deref-in-Test.ensures,
      ← c.deref-in-Test-2.ensures,
      ← c.deref-in-Test-3.ensures.value,
    )
    (IfOk-weaker c.resolve_test.result _ _ (λ e h. h (pairs_view c.in-Test.keywords.items)) c.resolve_test.ensures)

-- ---- tests and filters

pub resolve_test-returns-in_default : goal.resolve_test-returns-in_default
resolve_test-returns-in_default t c =
    IfOk-weaker c.turned.result _ _ (λ e h ps. rw (← c.is_negated.ensures, ← c.test_of.ensures, c.in_default.is)
    (h _ _ _ (c.absent.ensures (values c.args.pool.now)))) c.turned.ensures

pub resolve_test-returns : goal.resolve_test-returns
resolve_test-returns t c =
    IfOk-weaker c.turned-2.result _ _ (λ e h ps. rw (← c.is_negated-2.ensures, ← c.test_of.ensures, c.in-Some.is)
    (h _ _ _ (rw c.from_ref.ensures.value at c.in_ok-test.ensures))) c.turned-2.ensures

pub resolve_filter-returns-in_default : goal.resolve_filter-returns-in_default
resolve_filter-returns-in_default t c =
    rw (named_is, ← c.filter_of.ensures, c.in_default.is) (c.absent.ensures (values c.args.pool.now))

pub resolve_filter-returns : goal.resolve_filter-returns
resolve_filter-returns t c =
    rw (c.into_part.ensures, named_is, ← c.filter_of.ensures, c.in-Some.is, ← c.requires_input.ensures)
    (made_placed (m.Filter c.in-Some.filter c.args.self.now.senv.escaping) _
    (lead_both (rw c.new.ensures.items at (c.in_ok-resolve_operand.ensures
    (filter_row_of c.args.self.now (Some (filter_id c.in-Some.filter)) c.args.arguments)))
    c.in_ok-resolve_filter_row.ensures))

pub resolve_filter_row-returns : goal.resolve_filter_row-returns
resolve_filter_row-returns t c =
    IfOk-weaker c.fill_filter.result _ _ (λ u h. rw (parameters_are, count_length)
    (lead_both (c.in_ok-resolve_given.ensures _) h)) c.fill_filter.ensures

-- ---- calls

pub resolve_macro-returns : goal.resolve_macro-returns
resolve_macro-returns t c =
    rw c.into_part.ensures (invoked_placed _
    (lead_both (rw c.new.ensures.items at (c.in_ok-resolve_given.ensures
    (filled_of c.args.self.now c.args.signature c.args.arguments))) (c.in_ok-fill.ensures _)))

pub resolve_cycle-returns : goal.resolve_cycle-returns
resolve_cycle-returns t c =
    IfOk-weaker c.item_in_turn.result _ _ (λ e h. h _ _ (rw c.into_part.ensures (made_placed m.List _
    (rw c.in_ok-with_capacity.ensures.items at (c.in_ok-resolve_row.ensures slots.none))))) c.item_in_turn.ensures

pub resolve_call-returns-in-Macro : goal.resolve_call-returns-in-Macro
resolve_call-returns-in-Macro t c = let m = rw c.in-Macro.is at c.in_ok-signature.ensures in
    rw (m.2.1, count_length, ← m.2.0.takes, ← m.2.0.runs, ← m.2.0.defaults) c.resolve_macro.ensures

pub resolve_call-returns-in-Range : goal.resolve_call-returns-in-Range
resolve_call-returns-in-Range t c = let is = rw c.in-Range.is at c.in_ok-signature.ensures in
    rw (is, count_length, ← c.range_of.ensures) c.resolve_made.ensures

pub resolve_call-returns-in-Cycle : goal.resolve_call-returns-in-Cycle
resolve_call-returns-in-Cycle t c = let is = rw c.in-Cycle.is at c.in_ok-signature.ensures in
    rw (is, count_length) c.resolve_cycle.ensures

pub resolve_call-returns-in-Super : goal.resolve_call-returns-in-Super
resolve_call-returns-in-Super t c = let is = rw c.in-Super.is at c.in_ok-signature.ensures in
    rw is (IfOk-weaker c.super_called.result _ _ (λ e h. h (values c.args.pool.now)) c.super_called.ensures)

pub resolve_call-returns-in-Block : goal.resolve_call-returns-in-Block
resolve_call-returns-in-Block t c = let is = rw c.in-Block.is at c.in_ok-signature.ensures in
    rw is (IfOk-weaker c.block_called.result _ _ (λ e h. h (values c.args.pool.now)) c.block_called.ensures)

pub resolve_call-returns-in-Unknown : goal.resolve_call-returns-in-Unknown
resolve_call-returns-in-Unknown t c = let is = rw c.in-Unknown.is at c.in_ok-signature.ensures in
    rw is (c.absent.ensures (values c.args.pool.now))
