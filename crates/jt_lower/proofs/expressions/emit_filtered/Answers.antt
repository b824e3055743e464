use Rattle.std.proofs.Common.{◌≡◌, suc, ◌+◌, List, length, get_or, take, ap, ◌∙◌, subst, arith}
use Rattle.std.specs.Prelude.{min}
use Rattle.std.proofs.lemmas.List.{take_all}
use Rattle.jt_ids.specs.FilterTable.{filter_id}
use Rattle.jt_ir.specs.Slots as slots
use Rattle.jt_ir.specs.Slots.{none}
use Rattle.jt_ir.specs.Size.{row_count}
use Rattle.jt_ir.specs.View.{expr_view, row_view, filters_after}
use Rattle.jt_ir.specs.declared.program.SlotFilter.{SlotFilter}
use Rattle.jt_ir.proofs.ExpressionViews.{Entry}
use Rattle.jt_lower.specs.Lower.{nary_op, expr_asm}
use Rattle.jt_lower.specs.Emission.{tag_view, Puts}
use Rattle.jt_lower.proofs.FilterCode.{filter_step, count_low}
use Rattle.jt_lower.proofs.RowCode.{stands_raised}
use Rattle.jt_lower.proofs.expressions.emit_filtered.Goals as goal

pub overflow_add-count_values : goal.overflow_add-count_values
overflow_add-count_values c = grind (arith, count_low)

pub loop-filter-preserved : goal.loop-filter-preserved
loop-filter-preserved c = λ ts h before s p.
    let l = c.loop-filter in
    let f = c.filter-item.result in
    let n = c.count_values.result + 1 in
    let raised : c.saturating_add.result ≡ min (c.args.above + 1) 18446744073709551615 = omega arith in
    let counted : n ≡ suc (row_count (row_view f.row.items none)) = omega (
      arith,
      c.count_values.ensures,
      ap (λ (es : List Entry). row_count (row_view es none)) c.deref-in-loop-filter.ensures.value,
    ) in
    filter_step ts (tag_view ts c.args.tag) c.args.filtered.now.filters.items l.filter-index f
    (expr_view c.args.filtered.now.value) c.deref.result.now n h before c.emit_if_required.new.code c.emit_row.new.code
    c.put.new.self
    (omega (arith, ap length c.deref-filter-items.ensures.value))
    (c.filter-item.is ∙ ap (λ (fs : List SlotFilter). get_or fs l.filter-index f) c.deref-filter-items.ensures.value)
    c.deref.ensures.value counted
    (c.in_ok-emit_if_required.ensures ts before
    (filters_after (take l.filter-index c.args.filtered.now.filters.items) (expr_view c.args.filtered.now.value)) h
    (l.invariant ts h before s p))
    (c.in_ok-emit_row.ensures ts (suc h) (stands_raised c.args.above c.saturating_add.result h raised s))
    (c.in_ok-put.ensures ts (nary_op (slots.filter (filter_id f.filter) f.escaping) n) c.made_of.ensures)

pub returns : goal.returns
returns c = λ ts h s.
    let l = c.loop-filter in
    let v = c.args.filtered.now in
    c.in_ok-emit_if_required-2.ensures ts c.args.code.now (filters_after v.filters.items (expr_view v.value)) h
    (subst (λ (fs : List SlotFilter). Puts ts c.args.code.now
    (expr_asm (tag_view ts c.args.tag) (filters_after fs (expr_view v.value)) h) l.code)
    (take_all l.filter-index v.filters.items (omega (arith, ap length c.deref-filter-items.ensures.value)))
    (l.invariant ts h c.args.code.now s (c.in_ok-emit_expression.ensures ts h s)))
