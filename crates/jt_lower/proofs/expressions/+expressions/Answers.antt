use Rattle.std.proofs.Common.{◌≡◌, ℕ, suc, ◌+◌, List, Option, Bool, true, false, refl, sym, ap, ◌∙◌, subst, arith}
use Rattle.std.proofs.Common.{rules}
use Rattle.std.specs.Prelude.{min, not}
use Rattle.std.proofs.lemmas.Result.{IfOk-weaker}
use Rattle.jt_ids.specs.LoopTable.{field_id}
use Rattle.jt_image.specs.declared.instruction.Instruction.TheVariants as op
use Rattle.jt_ir.specs.Slots as slots
use Rattle.jt_ir.specs.Slots.{none}
use Rattle.jt_ir.specs.Size.{row_count}
use Rattle.jt_ir.specs.View.{slot_view, nary_op_view, expr_view, row_view}
use Rattle.jt_lower.specs.Asm.{Asm, one, both, choose, invoke}
use Rattle.jt_lower.specs.Lower.{made_asm, flag, load_of, expr_asm, row_asm}
use Rattle.jt_lower.specs.Emission.{tag_view, side_asm, instead_asm, Puts}
use Rattle.jt_lower.specs.declared.emitter.Emitter.{Emitter}
use Rattle.jt_ast.specs.Expressions.{Text}
use Rattle.jt_value.specs.Place.{Place}
use Rattle.jt_lower.proofs.JumpPatching.{puts_nothing, puts_then, puts_as, puts_call, puts_choice}
use Rattle.jt_ir.proofs.ExpressionViews.{view_Pooled, view_Variable, view_Field, view_Absent, seen_made}
use Rattle.jt_ir.proofs.ExpressionViews.{seen_conjunction, seen_disjunction, seen_choice, seen_invoke}
use Rattle.jt_lower.proofs.RowCode.{stands_raised, row_item, row_aside, row_ends}
use Rattle.jt_lower.proofs.expressions.+expressions.Goals as goal
use Rattle.jt_lower.proofs.expressions.+expressions.Goals.{emit_row-in-Some+in_ok-put-in-Some, emit_row-in-None}

-- The code of an expression is that of its view.
seen_as : (ts : List Text) (o : Option Place) (h : ℕ) (c d : Emitter) (x y : slots.SlotExpr ℕ) → x ≡ y
    → Puts ts c (expr_asm o y h) d → Puts ts c (expr_asm o x h) d
seen_as ts o h c d x y e p = puts_as ts c d (expr_asm o x h) (expr_asm o y h) (ap (λ z. expr_asm o z h) e) p

-- ---- expressions without parts

pub emit_expression-returns-in-Pooled : goal.emit_expression-returns-in-Pooled
emit_expression-returns-in-Pooled t c =
    let i = c.in-Pooled.place in
    IfOk-weaker c.put.result _ _ (λ u g. λ ts h s.
    seen_as ts (tag_view ts c.args.tag) h c.args.code.now c.put.new.self (expr_view c.args.expr.now) (slots.pooled i)
    (ap expr_view c.in-Pooled.is ∙ view_Pooled i) (g ts (op.Const i) c.constant_of.ensures)) c.put.ensures

pub emit_expression-returns-in-Variable : goal.emit_expression-returns-in-Variable
emit_expression-returns-in-Variable t c =
    let i = c.in-Variable.slot in
    IfOk-weaker c.put-in-Variable.result _ _ (λ u g. λ ts h s.
    seen_as ts (tag_view ts c.args.tag) h c.args.code.now c.put-in-Variable.new.self (expr_view c.args.expr.now)
    (slots.variable (slot_view i)) (ap expr_view c.in-Variable.is ∙ view_Variable i)
    (g ts (load_of (slot_view i)) c.load_of.ensures)) c.put-in-Variable.ensures

pub emit_expression-returns-in-Field : goal.emit_expression-returns-in-Field
emit_expression-returns-in-Field t c =
    let f = c.in-Field.loop_field in
    IfOk-weaker c.put-in-Field.result _ _ (λ u g. λ ts h s.
    seen_as ts (tag_view ts c.args.tag) h c.args.code.now c.put-in-Field.new.self (expr_view c.args.expr.now)
    (slots.field f) (ap expr_view c.in-Field.is ∙ view_Field f)
    (g ts (op.LoopGet (field_id f) h) (c.loop_get_of.ensures h s))) c.put-in-Field.ensures

pub emit_expression-returns-in-Absent : goal.emit_expression-returns-in-Absent
emit_expression-returns-in-Absent t c = search (arith, rules, puts_as, view_Absent, puts_nothing)

-- ---- expressions with parts

pub emit_expression-returns-in_ok-emit_made-in-Made : goal.emit_expression-returns-in_ok-emit_made-in-Made
emit_expression-returns-in_ok-emit_made-in-Made t c = λ ts h s.
    let o = tag_view ts c.args.tag in
    let k = c.in-Made.made in
    let es = row_view c.deref.result.now none in
    let seen = seen_made c.args.expr.now k c.in-Made.row c.deref.result.now c.in-Made.is c.deref.ensures.value in
    let counted = c.count_values.ensures
    ∙ ap (λ l. row_count (row_view l none)) (c.deref-in-Made.ensures.value ∙ sym c.deref.ensures.value) in
    let all = λ (n : ℕ). made_asm o (nary_op_view k) n in
    let c1 = c.emit_row.new.code in
    let c2 = c.emit_made.new.code in
    puts_as ts c.args.code.now c2 (expr_asm o (expr_view c.args.expr.now) h)
    (both (row_asm o es h) (all (row_count es))) (ap (λ x. expr_asm o x h) seen)
    (puts_then ts c.args.code.now c1 c2 (row_asm o es h) (all (row_count es))
    (c.in_ok-emit_row-in-Made.ensures ts h s)
    (subst (λ n. Puts ts c1 (all n) c2) counted (c.in_ok-emit_made-in-Made.ensures ts)))

pub emit_expression-returns-in_ok-emit_expression-in-Conjunction :
    goal.emit_expression-returns-in_ok-emit_expression-in-Conjunction
emit_expression-returns-in_ok-emit_expression-in-Conjunction t c =
    let p = c.in-Conjunction in
    let a = c.deref-in-Conjunction.result.now in
    let b = c.deref-in-Conjunction-2.result.now in
    let seen = seen_conjunction c.args.expr.now p.left p.right a b p.is c.deref-in-Conjunction.ensures
    c.deref-in-Conjunction-2.ensures in
    IfOk-weaker c.emit_instead.result _ _ (λ u g. λ ts h s.
    let o = tag_view ts c.args.tag in
    let c2 = c.emit_instead.new.code in
    seen_as ts o h c.args.code.now c2 (expr_view c.args.expr.now) (slots.conjunction (expr_view a) (expr_view b)) seen
    (puts_then ts c.args.code.now c.emit_expression.new.code c2 (expr_asm o (expr_view a) h)
    (instead_asm o (expr_view b) true h) (c.in_ok-emit_expression-in-Conjunction.ensures ts h s) (g ts h s)))
    c.emit_instead.ensures

pub emit_expression-returns-in_ok-emit_expression-in-Disjunction :
    goal.emit_expression-returns-in_ok-emit_expression-in-Disjunction
emit_expression-returns-in_ok-emit_expression-in-Disjunction t c =
    let p = c.in-Disjunction in
    let a = c.deref-in-Disjunction.result.now in
    let b = c.deref-in-Disjunction-2.result.now in
    let seen = seen_disjunction c.args.expr.now p.left p.right a b p.is c.deref-in-Disjunction.ensures
    c.deref-in-Disjunction-2.ensures in
    IfOk-weaker c.emit_instead-in-Disjunction.result _ _ (λ u g. λ ts h s.
    let o = tag_view ts c.args.tag in
    let c2 = c.emit_instead-in-Disjunction.new.code in
    seen_as ts o h c.args.code.now c2 (expr_view c.args.expr.now) (slots.disjunction (expr_view a) (expr_view b)) seen
    (puts_then ts c.args.code.now c.emit_expression-in-Disjunction.new.code c2 (expr_asm o (expr_view a) h)
    (instead_asm o (expr_view b) false h) (c.in_ok-emit_expression-in-Disjunction.ensures ts h s) (g ts h s)))
    c.emit_instead-in-Disjunction.ensures

pub emit_expression-returns-in_ok-emit_expression-in-Choice :
    goal.emit_expression-returns-in_ok-emit_expression-in-Choice
emit_expression-returns-in_ok-emit_expression-in-Choice t c =
    let p = c.in-Choice in
    let d = c.deref-in-Choice.result.now in
    let a = c.deref-in-Choice-2.result.now in
    let b = c.deref-in-Choice-3.result.now in
    let seen = seen_choice c.args.expr.now p.condition p.taken p.other d a b p.is c.deref-in-Choice.ensures
    c.deref-in-Choice-2.ensures c.deref-in-Choice-3.ensures in
    IfOk-weaker c.emit_choice.result _ _ (λ u g. λ ts h s.
    let o = tag_view ts c.args.tag in
    let c2 = c.emit_choice.new.code in
    seen_as ts o h c.args.code.now c2 (expr_view c.args.expr.now)
    (slots.choice (expr_view d) (expr_view a) (expr_view b)) seen
    (puts_then ts c.args.code.now c.emit_expression-in-Choice.new.code c2 (expr_asm o (expr_view d) h)
    (choose (expr_asm o (expr_view a) h) (expr_asm o (expr_view b) h))
    (c.in_ok-emit_expression-in-Choice.ensures ts h s) (g ts h s)))
    c.emit_choice.ensures

pub emit_side-returns-in_ok-emit_expression : goal.emit_side-returns-in_ok-emit_expression
emit_side-returns-in_ok-emit_expression t c = λ ts h s.
    let o = tag_view ts c.args.tag in
    let x = expr_view c.args.expr.now in
    let c2 = c.emit_expression.new.code in
    puts_as ts c.args.code.now c2 (side_asm o x c.args.wanted h) (side_asm o x true h)
    (ap (λ b. side_asm o x b h) c.if-wanted.true)
    (puts_then ts c.args.code.now c.put.new.self c2 (one o op.Drop) (expr_asm o x h)
    (c.in_ok-put.ensures ts op.Drop refl) (c.in_ok-emit_expression.ensures ts h s))

pub emit_instead-returns : goal.emit_instead-returns
emit_instead-returns t c = λ ts h s.
    let o = tag_view ts c.args.tag in
    let side = λ (so : Bool). side_asm o (expr_view c.args.expr.now) so h in
    let c1 = c.put.new.self in
    let c5 = c.close.new.self in
    puts_then ts c.args.code.now c1 c5 (one o op.Dup) (choose (side c.args.so) (side (not c.args.so)))
    (c.in_ok-put.ensures ts op.Dup refl)
    (puts_choice ts c1 c.begin_choice.new.self c.emit_side.new.code c.end_branch.new.self c.emit_side-2.new.code c5
    (side c.args.so) (side (not c.args.so)) c.in_ok-choice.choice c.in_ok-last.last c.in_ok-choice.ensures
    (c.in_ok-emit_side.ensures ts h s) c.in_ok-last.ensures (c.in_ok-emit_side-2.ensures ts h s) c.close.ensures)

pub emit_choice-returns : goal.emit_choice-returns
emit_choice-returns t c = λ ts h s.
    let o = tag_view ts c.args.tag in
    puts_choice ts c.args.code.now c.begin_choice.new.self c.emit_expression.new.code c.end_branch.new.self
    c.emit_expression-2.new.code c.close.new.self (expr_asm o (expr_view c.args.taken.now) h)
    (expr_asm o (expr_view c.args.other.now) h)
    c.in_ok-choice.choice c.in_ok-last.last c.in_ok-choice.ensures (c.in_ok-emit_expression.ensures ts h s)
    c.in_ok-last.ensures (c.in_ok-emit_expression-2.ensures ts h s) c.close.ensures

pub emit_expression-returns-in_ok-put-in-Invoke-3 : goal.emit_expression-returns-in_ok-put-in-Invoke-3
emit_expression-returns-in_ok-put-in-Invoke-3 t c = λ ts h s.
    let o = tag_view ts c.args.tag in
    let u = c.in-Invoke.routine in
    let es = row_view c.deref-in-Invoke.result.now none in
    let seen = seen_invoke c.args.expr.now u c.in-Invoke.escaping c.in-Invoke.row c.deref-in-Invoke.result.now
    c.in-Invoke.is c.deref-in-Invoke.ensures.value in
    let last = op.CaptureEnd (flag c.in-Invoke.escaping) in
    let raised : c.saturating_add.result ≡ min (c.args.above + 1) 18446744073709551615 = omega arith in
    let c0 = c.args.code.now in
    let c1 = c.put-in-Invoke.new.self in
    let c2 = c.emit_row-in-Invoke.new.code in
    let c3 = c.put-in-Invoke-2.new.self in
    let c4 = c.put-in-Invoke-3.new.self in
    let row : Asm = row_asm o es (suc h) in
    puts_as ts c0 c4 (expr_asm o (expr_view c.args.expr.now) h)
    (both (one o op.CaptureBegin) (both row (both (invoke o u) (one o last)))) (ap (λ x. expr_asm o x h) seen)
    (puts_then ts c0 c1 c4 (one o op.CaptureBegin) (both row (both (invoke o u) (one o last)))
    (c.in_ok-put-in-Invoke.ensures ts op.CaptureBegin refl)
    (puts_then ts c1 c2 c4 row (both (invoke o u) (one o last))
    (c.in_ok-emit_row-in-Invoke.ensures ts (suc h) (stands_raised c.args.above c.saturating_add.result h raised s))
    (puts_then ts c2 c3 c4 (invoke o u) (one o last)
    (puts_call ts c2 c3 o u (c.in_ok-put-in-Invoke-2.ensures ts (op.Call u) c.call_of.ensures))
    (c.in_ok-put-in-Invoke-3.ensures ts last (ap op.CaptureEnd c.flag-printed.ensures)))))

-- ---- sequences

pub emit_row-loop-kept-preserved : goal.emit_row-loop-kept-preserved
emit_row-loop-kept-preserved t c = λ ts h s.
    let o = tag_view ts c.args.tag in
    let l = c.loop-kept in
    let es = c.args.row.now in
    let e = c.loop-kept-item.result in
    let all : Asm = row_asm o (row_view es none) h in
    elim c.match-kept.branch [
      | emit_row-in-Some+in_ok-put-in-Some w ↦ rw (w.code-is, w.top-is)
          (row_aside ts o es l.kept-index e c.args.code.now l.code c.emit_expression.new.code w.put.new.self all l.top
          w.in-Some.local c.loop-kept-test.true c.loop-kept-item.is w.in-Some.is
          (λ k r. c.in_ok-emit_expression.ensures ts k r)
          (w.in_ok-put-in-Some.ensures ts (op.Store w.in-Some.local) w.store_of.ensures) (l.invariant ts h s))
      | emit_row-in-None w ↦ rw (w.code-is, w.top-is)
          (row_item ts o es l.kept-index e c.args.code.now l.code c.emit_expression.new.code all l.top
          w.saturating_add-top.result c.loop-kept-test.true c.loop-kept-item.is w.in-None.is (omega arith)
          (λ k r. c.in_ok-emit_expression.ensures ts k r) (l.invariant ts h s))
    ]

pub emit_row-returns : goal.emit_row-returns
emit_row-returns t c = λ ts h s.
    let o = tag_view ts c.args.tag in
    let l = c.loop-kept in
    row_ends ts o c.args.row.now l.kept-index c.args.code.now l.code (row_asm o (row_view c.args.row.now none) h) l.top
    (omega arith) (l.invariant ts h s)
