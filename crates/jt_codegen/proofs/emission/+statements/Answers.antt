use Rattle.std.proofs.Common.{◌≡◌, suc, ◌+◌, List, Some, None, drop, refl, sym, ap, ◌∙◌, subst, arith}
use Rattle.std.specs.Prelude.{min, option_map}
use Rattle.std.proofs.lemmas.Result.{IfOk-weaker}
use Rattle.jt_image.specs.declared.instruction.Instruction.TheVariants as op
use Rattle.jt_ir.specs.Slots as slots
use Rattle.jt_ir.specs.Slots.{none}
use Rattle.jt_ir.specs.declared.program.SlotStmt.{SlotStmt}
use Rattle.jt_ir.specs.declared.program.SlotStmt.TheVariants as v
use Rattle.jt_ir.specs.View.{slot_view, targets_view, place_view, expr_view, row_view, stmt_view, body_view}
use Rattle.jt_ir.specs.View.{filtered_view, choice_view}
use Rattle.jt_lower.specs.Asm.{Asm, one, both, each, when, invoke}
use Rattle.jt_lower.specs.Lower.{flag, store_of, expr_asm, row_asm, take_asm, kept_asm, turn_asm, body_asm, stmt_asm}
use Rattle.jt_lower.specs.Emission.{tag_view, Puts}
use Rattle.jt_ir.proofs.StatementViews.{view_If, view_For, view_Capture, view_PutPooled, view_Print, view_Assign}
use Rattle.jt_ir.proofs.StatementViews.{view_Run}
use Rattle.jt_lower.proofs.JumpPatching.{puts_then, puts_call, puts_when, puts_turns}
use Rattle.jt_codegen.proofs.StatementEmission.{stands_itself, emits_seen, emits_as, emits_alone, leads_more, leads_all}
use Rattle.jt_codegen.proofs.StatementEmission.{Opens, opens_more, emits_branches}
use Rattle.jt_lower.proofs.RowCode.{stands_raised}
use Rattle.jt_codegen.proofs.emission.+statements.Goals as goal

-- ---- statements without parts

pub emit_statement-returns-in-PutPooled : goal.emit_statement-returns-in-PutPooled
emit_statement-returns-in-PutPooled t c =
    let i = c.in-PutPooled.place in
    IfOk-weaker c.put.result _ _ (λ u g. λ ts h s.
    emits_seen ts h c.args.code.now c.put.new.self c.args.statement.now (v.PutPooled i) (slots.put_pooled i)
    c.in-PutPooled.is (view_PutPooled ts i) (g ts (op.Data i) c.data_of.ensures)) c.put.ensures

pub emit_statement-returns-in-Print : goal.emit_statement-returns-in-Print
emit_statement-returns-in-Print t c =
    let p = c.in-Print in
    IfOk-weaker c.emit_printed.result _ _ (λ u g. λ ts h s.
    emits_seen ts h c.args.code.now c.emit_printed.new.code c.args.statement.now (v.Print p.tag p.escaping p.filtered)
    (slots.print (place_view ts p.tag) p.escaping (filtered_view p.filtered)) p.is
    (view_Print ts p.tag p.escaping p.filtered)
    (g ts h s)) c.emit_printed.ensures

pub emit_statement-returns-in-Assign : goal.emit_statement-returns-in-Assign
emit_statement-returns-in-Assign t c =
    let p = c.in-Assign in
    IfOk-weaker c.emit_assigned.result _ _ (λ u g. λ ts h s.
    emits_seen ts h c.args.code.now c.emit_assigned.new.code c.args.statement.now (v.Assign p.tag p.targets p.expr)
    (slots.assign (place_view ts p.tag) (targets_view p.targets) (expr_view p.expr)) p.is
    (view_Assign ts p.tag p.targets p.expr) (g ts h s)) c.emit_assigned.ensures

pub emit_statement-returns-in_ok-put-in-Run : goal.emit_statement-returns-in_ok-put-in-Run
emit_statement-returns-in_ok-put-in-Run t c = λ ts h s.
    let p = c.in-Run in
    let es = row_view p.row.items none in
    let c0 = c.args.code.now in
    let c1 = c.emit_row.new.code in
    let c2 = c.put-in-Run.new.self in
    let row = subst (λ l. Puts ts c0 (row_asm None (row_view l none) h) c1) c.deref-in-Run.ensures.value
    (c.in_ok-emit_row-in-Run.ensures ts h s) in
    emits_seen ts h c0 c2 c.args.statement.now (v.Run p.routine p.row) (slots.run p.routine es) p.is
    (view_Run ts p.routine p.row)
    (puts_then ts c0 c1 c2 (row_asm None es h) (invoke None p.routine) row
    (puts_call ts c1 c2 None p.routine (c.in_ok-put-in-Run.ensures ts (op.Call p.routine) c.call_of.ensures)))

-- ---- captures

pub emit_capture-returns : goal.emit_capture-returns
emit_capture-returns t c = λ ts h s.
    let begins = one None op.CaptureBegin in
    let ends = one None (op.CaptureEnd (flag c.args.escaping)) in
    let stores = one None (store_of (slot_view c.args.slot)) in
    let raised : c.saturating_add.result ≡ min (c.args.above + 1) 18446744073709551615 = omega arith in
    let c0 = c.args.code.now in
    let c1 = c.put.new.self in
    let c2 = c.emit_statements.new.code in
    let c3 = c.put-2.new.self in
    let c4 = c.put-3.new.self in
    let body : Asm = body_asm (body_view ts c.args.body.now slots.end) (suc h) in
    puts_then ts c0 c1 c4 begins (both body (both ends stores)) (c.in_ok-put.ensures ts op.CaptureBegin refl)
    (puts_then ts c1 c2 c4 body (both ends stores)
    (emits_alone ts (suc h) c1 c2 (body_view ts c.args.body.now)
    (c.in_ok-emit_statements.ensures ts (suc h) (stands_raised c.args.above c.saturating_add.result h raised s)))
    (puts_then ts c2 c3 c4 ends stores
    (c.in_ok-put-2.ensures ts (op.CaptureEnd (flag c.args.escaping)) (ap op.CaptureEnd c.flag-captured.ensures))
    (c.in_ok-put-3.ensures ts (store_of (slot_view c.args.slot)) c.store_of.ensures)))

pub emit_statement-returns-in-Capture : goal.emit_statement-returns-in-Capture
emit_statement-returns-in-Capture t c =
    let p = c.in-Capture in
    let c0 = c.args.code.now in
    let c1 = c.emit_capture.new.code in
    IfOk-weaker c.emit_capture.result _ _ (λ u g. λ ts h s.
    let form = λ (l : List SlotStmt). slots.capture p.escaping (slot_view p.slot) (body_view ts l slots.end) in
    emits_seen ts h c0 c1 c.args.statement.now (v.Capture p.escaping p.slot p.body) (form p.body.items) p.is
    (view_Capture ts p.escaping p.slot p.body)
    (subst (λ l. Puts ts c0 (stmt_asm (form l) h) c1) c.deref-in-Capture.ensures.value (g ts h s)))
    c.emit_capture.ensures

-- ---- loops

pub emit_turns-returns : goal.emit_turns-returns
emit_turns-returns t c = λ ts.
    let o = tag_view ts c.args.tag in
    let item : Asm = both (one o (op.LoopGet 0 0)) (take_asm o (targets_view c.args.targets.now)) in
    let b : Asm = body_asm (body_view ts c.args.body.now slots.end) 0 in
    let c1 = c.begin_turns.new.self in
    let c2 = c.emit_item.new.code in
    let c3 = c.emit_statements.new.code in
    puts_turns ts c.args.code.now c1 c3 c.end_turns.new.self (both item b) c.in_ok-top.top c.in_ok-top.ensures
    (puts_then ts c1 c2 c3 item b (c.in_ok-emit_item.ensures ts)
    (emits_alone ts 0 c2 c3 (body_view ts c.args.body.now) (c.in_ok-emit_statements.ensures ts 0 (stands_itself 0))))
    c.in_ok-end_turns.ensures

pub emit_otherwise-returns : goal.emit_otherwise-returns
emit_otherwise-returns t c = λ ts h s.
    let o = tag_view ts c.args.tag in
    let z : Asm = body_asm (body_view ts c.args.other.now slots.end) h in
    let c1 = c.put.new.self in
    let c2 = c.begin_choice.new.self in
    let c3 = c.emit_statements.new.code in
    let c4 = c.end_when.new.self in
    puts_then ts c.args.code.now c1 c4 (one o op.LoopEnd) (when z) (c.in_ok-put.ensures ts op.LoopEnd refl)
    (puts_when ts c1 c2 c3 c4 z c.in_ok-choice.choice c.in_ok-choice.ensures
    (emits_alone ts h c2 c3 (body_view ts c.args.other.now) (c.in_ok-emit_statements.ensures ts h s))
    c.end_when.ensures)

pub emit_statement-returns-in_ok-emit_otherwise-in-For : goal.emit_statement-returns-in_ok-emit_otherwise-in-For
emit_statement-returns-in_ok-emit_otherwise-in-For t c = λ ts h s.
    let p = c.in-For in
    let o = Some (place_view ts p.tag) in
    let xs = targets_view p.targets in
    let body = λ (l : List SlotStmt). body_view ts l slots.end in
    let turns = λ (l : List SlotStmt). each (turn_asm o xs (body_asm (body l) 0)) in
    let rest = λ (l : List SlotStmt). both (one o op.LoopEnd) (when (body_asm (body l) h)) in
    let c0 = c.args.code.now in
    let c1 = c.emit_expression.new.code in
    let c2 = c.put-in-For.new.self in
    let c3 = c.emit_condition.new.code in
    let c4 = c.emit_turns.new.code in
    let c5 = c.emit_otherwise.new.code in
    let x : Asm = expr_asm o (expr_view p.iterated) h in
    let start : Asm = one o op.LoopStart in
    let kept : Asm = kept_asm o xs (option_map expr_view p.condition) in
    emits_seen ts h c0 c5 c.args.statement.now (v.For p.tag p.targets p.iterated p.condition p.body p.other)
    (slots.for_each (place_view ts p.tag) xs (expr_view p.iterated) (option_map expr_view p.condition)
    (body p.body.items) (body p.other.items)) p.is
    (view_For ts p.tag p.targets p.iterated p.condition p.body p.other)
    (puts_then ts c0 c3 c5 (both x (both start kept)) (both (turns p.body.items) (rest p.other.items))
    (puts_then ts c0 c1 c3 x (both start kept) (c.in_ok-emit_expression-in-For.ensures ts h s)
    (puts_then ts c1 c2 c3 start kept (c.in_ok-put-in-For.ensures ts op.LoopStart refl)
    (c.in_ok-emit_condition-in-For.ensures ts)))
    (puts_then ts c3 c4 c5 (turns p.body.items) (rest p.other.items)
    (subst (λ l. Puts ts c3 (turns l) c4) c.deref-in-For.ensures.value (c.in_ok-emit_turns-in-For.ensures ts))
    (subst (λ l. Puts ts c4 (rest l) c5) c.deref-in-For-2.ensures.value
    (c.in_ok-emit_otherwise-in-For.ensures ts h s))))

-- ---- branches

pub emit_branches-loop-tag-preserved : goal.emit_branches-loop-tag-preserved
emit_branches-loop-tag-preserved t c = λ ts h s.
    let l = c.loop-tag in
    let b = c.loop-tag-item.result in
    let bs = c.args.branches.now in
    subst (λ es. Opens ts h c.args.code.now bs c.end_branch.new.self (drop (l.tag-index + 1) bs) es)
    (sym c.in_ok-push.ensures.items)
    (opens_more ts h bs l.tag-index b c.deref.result.now c.args.code.now l.code c.emit_expression.new.code
    c.begin_choice.new.self c.emit_statements.new.code c.end_branch.new.self l.ends.items c.in_ok-choice.choice
    c.in_ok-last.last
    c.loop-tag-test.true c.loop-tag-item.is c.deref.ensures.value (l.invariant ts h s)
    (c.in_ok-emit_expression.ensures ts h s) c.in_ok-choice.ensures (c.in_ok-emit_statements.ensures ts h s)
    c.in_ok-last.ensures)

pub emit_branches-returns : goal.emit_branches-returns
emit_branches-returns t c = λ ts h s.
    let l = c.loop-tag in
    let bs = c.args.branches.now in
    emits_branches ts h bs l.tag-index (body_view ts c.args.other.now) c.args.code.now l.code
    c.emit_statements-2.new.code c.close_all.new.code l.ends.items c.deref-2.result.now (omega arith)
    (l.invariant ts h s)
    (c.in_ok-emit_statements-2.ensures ts h s) c.deref-2.ensures.value c.close_all.ensures

pub emit_statement-returns-in-If : goal.emit_statement-returns-in-If
emit_statement-returns-in-If t c =
    let p = c.in-If in
    IfOk-weaker c.emit_branches.result _ _ (λ u g. λ ts h s.
    emits_as ts h c.args.code.now c.emit_branches.new.code (stmt_view ts c.args.statement.now)
    (choice_view ts c.deref.result.now (body_view ts c.deref-in-If.result.now))
    (λ b. ap (λ x. stmt_view ts x b) p.is ∙ view_If ts p.branches p.other b
    ∙ ap (λ x. choice_view ts x (body_view ts p.other.items) b) (sym c.deref.ensures.value)
    ∙ ap (λ x. choice_view ts c.deref.result.now (body_view ts x) b) (sym c.deref-in-If.ensures.value))
    (g ts h s)) c.emit_branches.ensures

-- ---- sequences of statements

pub emit_statements-loop-statement-preserved : goal.emit_statements-loop-statement-preserved
emit_statements-loop-statement-preserved t c = λ ts h s.
    let l = c.loop-statement in
    leads_more ts h c.args.body.now l.statement-index c.statement-item.result c.args.code.now l.code
    c.emit_statement.new.code (body_view ts c.args.body.now) c.loop-statement-test.true c.statement-item.is
    (l.invariant ts h s) (c.in_ok-emit_statement.ensures ts h s)

pub emit_statements-returns : goal.emit_statements-returns
emit_statements-returns t c = λ ts h s.
    let l = c.loop-statement in
    leads_all ts h c.args.body.now l.statement-index c.args.code.now l.code (body_view ts c.args.body.now) (omega arith)
    (l.invariant ts h s)
